use Rattle.std.proofs.Common.{◌≡◌, ℕ, ◌<◌, ◌+◌, List, ◌++◌, drop, take, length, get_or, sym, ◌∙◌, subst, arith, length-set, get_or-set_other}
use Rattle.std.proofs.lemmas.List.{get_or_default, take-append-le, take_all}
use Rattle.std.proofs.lemmas.Bool.{true≢false}
use Rattle.parallel_play.specs.Stages.{table_in}
use Rattle.turn_steps.specs.Reaches.{IsOver}
use Rattle.crew_play.specs.declared.hands.Hand.{Hand}
use Rattle.crew_play.specs.Hands.{IsHandOf, IsStep, turn_in}
use Rattle.crew_play.proofs.Places.{holds_below, holds_with}
use Rattle.crew_play.proofs.Handing.{own_core}
use Rattle.crew_play.proofs.playing.step_all.Goals.{else-step_hand, then-step_hand}
use Rattle.crew_play.proofs.playing.step_all.Goals as goal

pub step_hand-requires-clause-hand : goal.step_hand-requires-clause-hand
step_hand-requires-clause-hand g c _ _ =
    let low = c.loop-hand-test.true in let same = c.loop-hand.auto.hand-items in let stage = c.args.stage.now in
    own_core (table_in stage) (g.G.Gate.passed c.args.gate.now) (c.args.first + c.loop-hand.hand-index) stage.round (get_or c.loop-hand.hand-items c.loop-hand.hand-index c.hand-item.result) (c.loop-hand.invariant.crew c.loop-hand.hand-index c.hand-item.result (omega arith))

pub loop-hand-preserved : goal.loop-hand-preserved
loop-hand-preserved g c =
    let i = c.loop-hand.invariant in let s = c.step_hand.ensures in let stage = c.args.stage.now in let at = c.loop-hand.hand-index in let hands = c.loop-hand.hand-items in
    let P : ℕ → ℕ → Type 0 = g.G.Gate.passed c.args.gate.now in let first = c.args.first in let start = c.args.hands.now.items in
    let within : at < length hands = let low = c.loop-hand-test.true in let same = c.loop-hand.auto.hand-items in omega arith in
    let was = i.crew at c.hand-item.result within in record {
      crew = holds_with (λ k h. IsHandOf (table_in stage) P (first + k) stage.round h) hands at c.step_hand.new.hand within (subst (λ k. IsHandOf (table_in stage) P k stage.round c.step_hand.new.hand) was.core_is s.hand) i.crew;
      over = λ over. elim c.if-step_hand.branch [
        | then-step_hand w ↦ absurd (true≢false (sym over ∙ w.over-is))
        | else-step_hand w ↦ holds_below (λ k (h : Hand). IsOver (turn_in h).reached) hands at c.step_hand.new.hand within (s.over w.if-step_hand.false) (i.over (sym w.over-is ∙ over))
      ];
      steps = holds_below (λ k (h : Hand). (e : Hand) → IsStep (get_or start k e) h) hands at c.step_hand.new.hand within (λ e. subst (λ h. IsStep h c.step_hand.new.hand) (i.rest at c.hand-item.result (omega arith)
          ∙ get_or_default start at c.hand-item.result e (let same = i.len in omega arith)) s.step) i.steps;
      rest = λ k d late. get_or-set_other hands at k c.step_hand.new.hand d (λ hit. omega arith) ∙ i.rest k d (omega arith);
      len = length-set hands at c.step_hand.new.hand ∙ i.len;
    }

pub returns-clause-steps : goal.returns-clause-steps
returns-clause-steps g c k d low =
    let items = c.loop-hand.hand-items in let old = c.args.hands.now.items in let vec = c.args.hands.now.ok in
    let all = c.loop-hand-test.false in let same = c.loop-hand.auto.hand-items in let len = c.loop-hand.invariant.len in
    let kept : take c.args.hands.now.len (items ++ drop (length items) old) ≡ items =
    take-append-le c.args.hands.now.len items (drop (length items) old) (omega (arith, vec)) ∙ take_all c.args.hands.now.len items (omega (arith, vec)) in
    subst (λ (hs : List Hand). IsStep (get_or old k d) (get_or hs k d)) (sym kept) (c.loop-hand.invariant.steps k d (omega arith) d)
