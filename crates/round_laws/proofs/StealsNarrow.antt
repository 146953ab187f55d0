-- Each steal of a legal history lowers the load spread by 2 at least for each thread that it moves: with each move the loads
-- of thief and victim come nearer, by less than they lay apart.
use Rattle.std.proofs.Common.{◌≡◌, ℕ, suc, ◌+◌, ◌*◌, ◌≤◌, List, [], ◌∷◌, length, take, IsTrue, ap, arith}
use mathlib.Core.Option.{some}
use lib.ListN.{get_elem?}
use Rattle.policy_tree.specs.Meaning.{Meaning}
use Rattle.round_model.specs.declared.entry.Entry.{Entry}
use Rattle.round_model.specs.declared.plan.Plan.{Plan}
use Rattle.round_model.specs.declared.state.CountAndLoad.{CountAndLoad}
use Rattle.round_model.specs.After.{after}
use Rattle.round_model.specs.Cores.{Cores, load_of}
use Rattle.round_model.specs.Entries.{threads_moved}
use Rattle.round_model.specs.Fits.{Fits}
use Rattle.round_model.specs.Kinds.{is_steal}
use Rattle.round_model.specs.Legal.{Legal}
use Rattle.round_model.specs.Spread.{spread, spread_of}
use Rattle.round_model.specs.StillRounds.{StealsNarrow, spread_at}
use Rattle.round_laws.specs.Rest.{MeetsMoveObligations}
use Rattle.round_laws.proofs.MoveRows.{AreMoves, steal_at, steal_cases}
use Rattle.round_laws.proofs.Narrowing.{narrows, range_same}
use Rattle.round_laws.proofs.Thefts.{IsMove}

-- the spread of the cores before a move and after it
steal_narrows : (plan : Plan) (by from thread : ℕ) (m after_it : Cores) → IsMove plan by from thread m after_it → spread plan after_it + 2 ≤ spread plan m
unfolding spread
steal_narrows plan by from thread m after_it move =
    narrows (λ c. load_of (m c)) (λ c. load_of (after_it c)) plan.cores by from move.task.weight move.some_weight move.gap move.heavier move.lighter
    (λ c first second. ap (λ (seen : CountAndLoad). seen.load) (move.others c first second))
    move.thief_there move.victim_there move.apart

spread_same : (plan : Plan) (m w : Cores) → ((c : ℕ) → w c ≡ m c) → spread plan w ≡ spread plan m
unfolding spread
spread_same plan m w same = ap spread_of (range_same (λ c. load_of (m c)) (λ c. load_of (w c)) 0 plan.cores (λ c low high. ap load_of (same c)))

-- and those of a row of moves
row_narrows : (plan : Plan) (by from : ℕ) (threads : List ℕ) (m w : Cores) → AreMoves plan by from threads m w → spread plan w + 2 * length threads ≤ spread plan m
row_narrows plan by from [] m w same = let e : spread plan w + 2 * 0 ≤ spread plan m = omega (arith, spread_same plan m w same) in e
row_narrows plan by from (thread ∷ threads) m w (k, move, rest) =
    let e : spread plan w + 2 * suc (length threads) ≤ spread plan m =
    omega (arith, steal_narrows plan by from thread m k move, row_narrows plan by from threads k w rest) in e

-- along a history
pub steals_narrow : (p : Meaning) (plan : Plan) (history : List Entry) → Fits p plan → MeetsMoveObligations p → Legal p plan history → StealsNarrow p plan history
steals_narrow p plan history fits obligations legal k e is steal =
    steal_cases (λ x. get_elem? history k ≡ some x → spread_at p plan history (suc k) + 2 * length (threads_moved x) ≤ spread_at p plan history k)
    (λ by from threads reads here.
    row_narrows plan by from threads (after p plan (take k history)) (after p plan (take (suc k) history)) (steal_at p plan history fits obligations legal k by from threads reads here).1)
    e steal is

-- so by 2 at least, since a steal moves a thread
pub steals_narrow_two : (p : Meaning) (plan : Plan) (history : List Entry) → Fits p plan → MeetsMoveObligations p → Legal p plan history
    → (k : ℕ) (e : Entry) → get_elem? history k ≡ some e → IsTrue (is_steal e) → spread_at p plan history (suc k) + 2 ≤ spread_at p plan history k
steals_narrow_two p plan history fits obligations legal k e is steal =
    let less = steals_narrow p plan history fits obligations legal k e is steal in
    let some_thread : 1 ≤ length (threads_moved e) =
    steal_cases (λ x. get_elem? history k ≡ some x → 1 ≤ length (threads_moved x))
    (λ by from threads reads here. (steal_at p plan history fits obligations legal k by from threads reads here).0)
    e steal is in
    omega (arith, less, some_thread)
