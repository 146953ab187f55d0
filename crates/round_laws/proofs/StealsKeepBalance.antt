-- A steal brings no idle core beside an overloaded one: before each of its moves the victim was overloaded, and no other core
-- than thief and victim changes.
use Rattle.std.proofs.Common.{◌≡◌, ◌≢◌, ℕ, suc, IsTrue, List, [], ◌∷◌, take, refl, ap, arith}
use mathlib.Core.Option.{some}
use lib.ListN.{get_elem?}
use Rattle.policy_tree.specs.Meaning.{Meaning}
use Rattle.round_model.specs.declared.entry.Entry.{Entry}
use Rattle.round_model.specs.declared.plan.Plan.{Plan}
use Rattle.round_model.specs.declared.state.CountAndLoad.{CountAndLoad}
use Rattle.round_model.specs.After.{after, round_after}
use Rattle.round_model.specs.Cores.{Cores, thread_count}
use Rattle.round_model.specs.Fits.{Fits}
use Rattle.round_model.specs.Kinds.{is_steal}
use Rattle.round_model.specs.Legal.{Legal}
use Rattle.round_model.specs.Spread.{Beside}
use Rattle.round_model.specs.StillRounds.{BesideAt}
use Rattle.round_laws.specs.Rest.{MeetsMoveObligations}
use Rattle.round_laws.proofs.MoveRows.{AreMoves, steal_at, steal_cases}
use Rattle.round_laws.proofs.Thefts.{IsMove}

-- an idle core beside an overloaded one was so before a move, beside the victim
beside_before : (plan : Plan) (by from thread : ℕ) (m w : Cores) → IsMove plan by from thread m w → Beside plan w → Beside plan m
beside_before plan by from thread m w move beside =
    let idle = beside.idle in
    let now : thread_count (w idle) ≡ 0 = beside.is_idle in
    let two = move.overloaded in
    let not_thief : idle ≢ by = λ is. let same : thread_count (w idle) ≡ thread_count (w by) = ap (λ c. thread_count (w c)) is in let more = move.more in omega arith in
    let not_victim : idle ≢ from = λ is. let same : thread_count (w idle) ≡ thread_count (w from) = ap (λ c. thread_count (w c)) is in let fewer = move.fewer in omega arith in
    record {
      idle = idle;
      overloaded = from;
      idle_there = beside.idle_there;
      overloaded_there = move.victim_there;
      is_idle = let same = ap (λ (s : CountAndLoad). s.nr) (move.others idle not_thief not_victim) in omega arith;
      is_overloaded = two;
    }

-- and before a row of moves
row_beside : (plan : Plan) (by from : ℕ) (threads : List ℕ) (m w : Cores) → AreMoves plan by from threads m w → Beside plan w → Beside plan m
row_beside plan by from [] m w same beside =
    let idle = beside.is_idle in
    let overloaded = beside.is_overloaded in
    record {
      idle = beside.idle;
      overloaded = beside.overloaded;
      idle_there = beside.idle_there;
      overloaded_there = beside.overloaded_there;
      is_idle = omega (arith, ap thread_count (same beside.idle));
      is_overloaded = omega (arith, ap thread_count (same beside.overloaded));
    }
row_beside plan by from (thread ∷ threads) m w (k, move, rest) beside =
    beside_before plan by from thread m k move (row_beside plan by from threads k w rest beside)

-- a steal is no Round, and opens none
pub steal_opens_none : (round : ℕ) (e : Entry) → IsTrue (is_steal e) → round_after round e ≡ round
steal_opens_none round e steal = steal_cases (λ x. round_after round x ≡ round) (λ by from threads reads. refl) e steal

-- a steal of a legal history brings no idle core beside an overloaded one
pub beside_before_steal : (p : Meaning) (plan : Plan) (h : List Entry) → Fits p plan → MeetsMoveObligations p → Legal p plan h → (k : ℕ) (e : Entry) → get_elem? h k ≡ some e → IsTrue (is_steal e)
    → BesideAt p plan h (suc k) → BesideAt p plan h k
beside_before_steal p plan h fits meets legal k e is steal beside =
    steal_cases (λ x. get_elem? h k ≡ some x → BesideAt p plan h k)
    (λ by from threads reads here.
    row_beside plan by from threads (after p plan (take k h)) (after p plan (take (suc k) h)) (steal_at p plan h fits meets legal k by from threads reads here).1 beside)
    e steal is
