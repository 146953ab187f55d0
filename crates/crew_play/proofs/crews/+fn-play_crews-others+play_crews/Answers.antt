use Rattle.std.proofs.Common.{◌≡◌, ℕ, ◌+◌, ◌≤◌, ap, sym, ◌∙◌, subst, length, vec_capacity, vec_len, arith}
use Rattle.std.specs.Global.{Vec}
use Rattle.std.proofs.Crossing.{Vec-send, crosses}
use mathlib.Core.List.{◌∷◌, []}
use mathlib.Core.Logic.{dite}
use native.Mathlib.Decide.{dec_le}
use denote.Exit.{no}
use denote.Param.{param}
use denote.Param.Send.{IsSync, arg_send, param_send, sendable, shr_send}
use Rattle.round_model.specs.declared.plan.Plan.{Plan}
use Rattle.core_table.specs.declared.seat.Seat.{Seat}
use Rattle.core_table.specs.declared.views.View.{View}
use Rattle.core_table.specs.Public.{plan_of, view_of}
use Rattle.core_calls.proofs.Crossing.{number_sync, plan_sync, policy_sync, table_sync, tuple_send}
use Rattle.parallel_play.specs.declared.sums.Tally.{Tally}
use Rattle.parallel_play.specs.Playing.{IdleFrom, Played}
use Rattle.parallel_play.specs.Stages.{table_in}
use Rattle.parallel_play.proofs.Seating.{played_none}
use Rattle.turn_steps.specs.Shares.{first_of}
use Rattle.turn_steps.proofs.Sharing.{first_ends, first_within}
use Rattle.crew_play.specs.declared.hands.Hand.{Hand}
use Rattle.crew_play.specs.Hands.{AllRoomy, Anybody, dealt}
use Rattle.crew_play.specs.Room.{room_for}
use Rattle.crew_play.proofs.Crossing.{hand_send}
use Rattle.crew_play.proofs.Handing.{crew_as, crew_passed}
use Rattle.crew_play.proofs.Places.{holds_last, holds_more}
use Rattle.crew_play.proofs.crews.+fn-play_crews-others+play_crews.Goals as goal

pub returns-in_default-clause-played : goal.returns-in_default-clause-played
returns-in_default-clause-played g t c =
    let none = c.in_default.ensures.cases.0 in let w = c.requires.workers in let last : c.args.worker ≡ c.args.workers = let l = w.1 in omega arith in let v : View = view_of c.args.seat in
    let cores : ℕ = (plan_of (table_in c.args.stage.now)).cores in let same = ap (λ (p : Plan). p.cores) c.requires.seat.opening.plan in
    let all : first_of cores c.args.workers c.args.worker ≡ cores = ap (first_of cores c.args.workers) last ∙ first_ends cores c.args.workers w.0 in
    played_none (first_of cores c.args.workers c.args.worker) c.args.tally v (omega arith) c.requires.idle (let small = c.args.tally.small in omega arith)

pub returns-in_default-clause-passed : goal.returns-in_default-clause-passed
returns-in_default-clause-passed g t c core low high =
    let none = c.in_default.ensures.cases.0 in let w = c.requires.workers in let last : c.args.worker ≡ c.args.workers = let l = w.1 in omega arith in
    let cores : ℕ = (plan_of (table_in c.args.stage.now)).cores in
    let all : first_of cores c.args.workers c.args.worker ≡ cores = ap (first_of cores c.args.workers) last ∙ first_ends cores c.args.workers w.0 in
    absurd (omega arith)

pub join-hands-requires-send-F : goal.join-hands-requires-send-F
join-hands-requires-send-F g t c κs within =
    let runs : IsSync (param 0 g.row.R) = search sendable depth 4 in let gates : IsSync (param 1 g.row.G) = c.requires-raw.1.1.1.1.0 in
    param_send 1 _ (arg_send _ no _ (tuple_send _ (_ ∷ _ ∷ _ ∷ _ ∷ _ ∷ _ ∷ _ ∷ _ ∷ [])
    (shr_send _ _ _ table_sync, (shr_send _ _ _ policy_sync, (shr_send _ _ _ plan_sync, (shr_send _ _ _ number_sync, (shr_send _ _ _ runs, (shr_send _ _ _ gates, (shr_send _ _ _ number_sync, (Vec-send _ hand_send, tt))))))))))

pub join-hands-requires-send-A : goal.join-hands-requires-send-A
join-hands-requires-send-A g t c κs within = search (sendable, crosses, hand_send) depth 20

pub gather-seat-requires-clause-crew : goal.gather-seat-requires-clause-crew
gather-seat-requires-clause-crew g t c =
    crew_as (table_in c.args.stage.now) (g.G.Gate.passed c.args.gate.now) Anybody c.args.stage.now.round c.deal_share-first.result.0 c.join-hands.result.0.items (λ core round passed. tt) c.join-hands.ensures.first.0

pub gather-seat-requires-clause-idle : goal.gather-seat-requires-clause-idle
gather-seat-requires-clause-idle g t c =
    subst (λ (s : Seat). IdleFrom c.deal_share-first.result.0 (view_of s)) (sym c.of-before.ensures)
    (subst (λ n. IdleFrom n (view_of c.args.seat)) (sym c.deal_share-first.ensures.first) c.requires.idle)

pub gather-seat-requires-clause-cores : goal.gather-seat-requires-clause-cores
gather-seat-requires-clause-cores g t c =
    let a = c.deal_share-first.ensures.len in let b = c.join-hands.ensures.first.2 in let w = c.requires.workers in let n = c.in-Some.ensures.len in let cores : ℕ = (plan_of (table_in c.args.stage.now)).cores in
    let plan = ap (λ (p : Plan). p.cores) c.requires.seat.opening.plan in let before = ap (λ (s : Seat). (view_of s).plan.cores) c.of-before.ensures in
    let within = first_within cores c.args.workers (c.args.worker + 1) (let l = w.1 in omega arith) in omega arith

pub gather-seat-requires-clause-played : goal.gather-seat-requires-clause-played
gather-seat-requires-clause-played g t c =
    let d = c.deal_share-first.ensures in let j = c.join-hands.ensures in let first : ℕ = c.deal_share-first.result.0 in let count : ℕ = length c.join-hands.result.0.items in let cores : ℕ = (plan_of (table_in c.args.stage.now)).cores in
    let len : first_of cores c.args.workers (c.args.worker + 1) ≡ first + count = let a = d.len in let b = j.first.2 in omega arith in
    let left : view_of c.deal_share-first.result.1 ≡ dealt first count (view_of c.of-before.result.value) = d.view ∙ (ap (λ k. dealt first k (view_of c.args.seat)) (sym j.first.2) ∙ ap (λ (s : Seat). dealt first count (view_of s)) (sym c.of-before.ensures)) in
    subst (λ (x : Tally). Played (first + count) x c.join-hands.result.1.1 (dealt first count (view_of c.of-before.result.value)) (view_of c.join-hands.result.1.0)) (sym c.of-start.ensures)
    (subst (λ v. Played (first + count) c.args.tally c.join-hands.result.1.1 v (view_of c.join-hands.result.1.0)) left
    (subst (λ n. Played n c.args.tally c.join-hands.result.1.1 (view_of c.deal_share-first.result.1) (view_of c.join-hands.result.1.0)) len j.second.1))

pub returns-clause-played : goal.returns-clause-played
returns-clause-played g t c =
    subst (λ n. Played n c.args.tally c.gather-seat.result.2 (view_of c.args.seat) (view_of c.gather-seat.result.0)) c.deal_share-first.ensures.first
    (subst (λ (x : Tally). Played c.deal_share-first.result.0 x c.gather-seat.result.2 (view_of c.args.seat) (view_of c.gather-seat.result.0)) c.of-start.ensures
    (subst (λ (s : Seat). Played c.deal_share-first.result.0 c.of-start.result.value c.gather-seat.result.2 (view_of s) (view_of c.gather-seat.result.0)) c.of-before.ensures c.gather-seat.ensures.played))

pub returns-clause-passed : goal.returns-clause-passed
returns-clause-passed g t c core low high =
    let d = c.deal_share-first.ensures in let j = c.join-hands.ensures in let cores : ℕ = (plan_of (table_in c.args.stage.now)).cores in
    let end : ℕ = first_of cores c.args.workers (c.args.worker + 1) in
    let len : c.deal_share-first.result.0 + length c.join-hands.result.0.items ≡ end = let a = d.len in let b = j.first.2 in omega arith in
    let first = d.first in
    dite (dec_le end core)
    (λ late. j.second.2 core late high)
    (λ early. crew_passed (table_in c.args.stage.now) (g.G.Gate.passed c.args.gate.now) c.args.stage.now.round c.deal_share-first.result.0 c.join-hands.result.0.items j.first.0 j.first.1 core (omega arith) (omega arith))

pub returns-clause-roomy : goal.returns-clause-roomy
returns-clause-roomy g t c =
    let d = c.deal_share-first.ensures in let j = c.join-hands.ensures in let e = c.gather-seat.ensures in let many : ℕ = room_for (plan_of (table_in c.args.stage.now)).cores c.args.workers in
    let room = holds_last (λ k (l : Vec Hand). (vec_len l ≡ 0) × (many ≤ vec_capacity l)) c.pop.new.self.items c.in-Some.hands (subst (AllRoomy many) c.in-Some.ensures.items c.requires.roomy) in
    subst (AllRoomy many) (sym c.push_reserved.ensures.items)
    (holds_more (λ k (l : Vec Hand). (vec_len l ≡ 0) × (many ≤ vec_capacity l)) c.join-hands.result.1.2.items c.gather-seat.result.1 j.second.3 (e.empty, let x = e.capacity in let y = j.first.3 in let z = d.capacity in let w = room.1 in omega arith))
