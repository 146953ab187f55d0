use Rattle.std.proofs.Common.{◌≡◌, ◌∙◌, ℕ, suc, ◌+◌, ◌<◌, List, ◌∷◌, [], ◌++◌, length, length-append, ap, subst, arith}
use Rattle.core_table.specs.declared.seat.Seat.{Seat}
use Rattle.core_table.specs.declared.views.View.{View}
use Rattle.core_table.specs.Public.{IsOf, view_of}
use Rattle.core_calls.specs.Turns.{HasTurned}
use Rattle.parallel_play.specs.Playing.{Played, merged_in}
use Rattle.parallel_play.specs.Stages.{table_in}
use Rattle.turn_steps.specs.Reaches.{IsOver}
use Rattle.crew_play.specs.declared.hands.Hand.{Hand}
use Rattle.crew_play.specs.Hands.{AllOver, Anybody, IsCrew, IsHandOf, dealt, turn_in}
use Rattle.core_calls.specs.Stepping.{IsPlaying}
use Rattle.core_calls.proofs.Ending.{has_turned}
use Rattle.crew_play.proofs.Handing.{gathered}
use Rattle.crew_play.proofs.Places.{holds_last, holds_less}
use Rattle.crew_play.proofs.dealing.gather.Goals as goal

pub take_back-requires-clause-own : goal.take_back-requires-clause-own
take_back-requires-clause-own c =
    let i = c.loop-hand.invariant in let rest : List Hand = c.pop.new.self.items in let h : Hand = c.in-Some.hand in let table = table_in c.args.stage.now in let round = c.args.stage.now.round in
    let last = holds_last (λ k x. IsHandOf table Anybody (c.args.first + k) round x) rest h (subst (IsCrew table Anybody round c.args.first) c.in-Some.ensures.items i.crew) in
    let there = last.hand.there in let is = c.in-Some-own.is in let same : last.hand.seat ≡ c.in-Some-own.own = cc in
    subst (IsOf table) same last.hand.of

pub take_back-requires-clause-back : goal.take_back-requires-clause-back
take_back-requires-clause-back c =
    let i = c.loop-hand.invariant in let rest : List Hand = c.pop.new.self.items in let h : Hand = c.in-Some.hand in let table = table_in c.args.stage.now in let round = c.args.stage.now.round in
    let last = holds_last (λ k x. IsHandOf table Anybody (c.args.first + k) round x) rest h (subst (IsCrew table Anybody round c.args.first) c.in-Some.ensures.items i.crew) in
    let there = last.hand.there in let is = c.in-Some-own.is in let same : last.hand.seat ≡ c.in-Some-own.own = cc in
    let playing = subst (λ (s : Seat). IsPlaying (turn_in h) (view_of s)) same last.hand.playing in
    let v : View = dealt c.args.first (length c.loop-hand.hands.items) (view_of c.args.before.now.value) in
    record {
      opening = record { merged = merged_in v.role; turns = i.played.turns; role = i.played.role };
      free = record { core = (turn_in h).core; of_core = playing.told.of_core; free = playing.free };
    }

pub loop-hand-preserved : goal.loop-hand-preserved
loop-hand-preserved c =
    let i = c.loop-hand.invariant in let rest : List Hand = c.pop.new.self.items in let h : Hand = c.in-Some.hand in let table = table_in c.args.stage.now in let round = c.args.stage.now.round in
    let first : ℕ = c.args.first in let e : c.loop-hand.hands.items ≡ rest ++ h ∷ [] = c.in-Some.ensures.items in let v : View = view_of c.args.before.now.value in
    let crew = subst (IsCrew table Anybody round first) e i.crew in let over = subst AllOver e i.over in
    let last = holds_last (λ k x. IsHandOf table Anybody (first + k) round x) rest h crew in
    let ended = holds_last (λ k (x : Hand). IsOver (turn_in x).reached) rest h over in
    let there = last.hand.there in let is = c.in-Some-own.is in let same : last.hand.seat ≡ c.in-Some-own.own = cc in
    let own : View = view_of c.in-Some-own.own in let playing = subst (λ (s : Seat). IsPlaying (turn_in h) (view_of s)) same last.hand.playing in
    let turned = c.turned-entries.result in let back = c.take_back.ensures in
    let done = subst (λ k. HasTurned k (record { entries = turned.0; ended = turned.1 }) own own) last.core_is (has_turned (turn_in h) own playing ended turned.0 turned.1 (c.turned-entries.ensures.view own playing.told)) in
    let long : length c.loop-hand.hands.items ≡ suc (length rest) = let a = ap length e in let b = length-append rest (h ∷ []) in omega arith in
    let played = subst (λ k. Played (first + k) c.args.start.now.value c.loop-hand.tally (dealt first k v) (view_of c.loop-hand.seat)) long i.played in
    let low : first + length rest < v.plan.cores = let n = i.cores in omega arith in
    record {
      seat = back.seat;
      crew = holds_less (λ k x. IsHandOf table Anybody (first + k) round x) rest h crew;
      over = holds_less (λ k (x : Hand). IsOver (turn_in x).reached) rest h over;
      cores = let n = i.cores in omega arith;
      played = gathered first (length rest) c.args.start.now.value c.loop-hand.tally c.take_back.result.1 v (view_of c.loop-hand.seat) own (view_of c.take_back.result.0) (record { entries = turned.0; ended = turned.1 }) c.requires.idle played done back.joined back.counted low;
      capacity = c.pop.ensures.capacity ∙ i.capacity;
    }
