-- Passes over a worker's hands: each tells every turn more that isn't over, so that all are over at last.
use Rattle.std.proofs.Common.{◌≡◌, ℕ, ◌+◌, ◌<◌, ◌≤◌, ◌↔◌, ◌⊎◌, inl, inr, Bool, true, false, IsTrue, List, length, get_or, refl, sym, ap, subst, arith}
use Rattle.std.proofs.lemmas.Bool.{true≢false}
use Rattle.round_model.specs.declared.plan.Plan.{Plan}
use Rattle.core_table.specs.declared.seat.Table.{Table}
use Rattle.core_table.specs.declared.views.View.{View}
use Rattle.core_table.specs.Public.{plan_of, view_of}
use Rattle.turn_steps.specs.declared.reached.Reached.{Reached}
use Rattle.turn_steps.specs.declared.reached.Reached.TheVariants as reached
use Rattle.turn_steps.specs.Answers.{told_so_far}
use Rattle.turn_steps.specs.Reaches.{IsOver}
use Rattle.turn_steps.specs.States.{TurnState}
use Rattle.crew_play.specs.declared.hands.Hand.{Hand}
use Rattle.crew_play.specs.Hands.{AllOver, AreSteps, IsCrew, turn_in}
use Rattle.core_calls.specs.Stepping.{IsToldMore, Steps}
use Rattle.core_calls.proofs.Knowing.{told_within}

-- what a step did, by whether the turn was over
pub step_of : (goes : Bool) (t u : TurnState) (before now : View) → Steps goes t u before now → ((goes ≡ false) ↔ IsOver t.reached) → (IsTrue goes → IsToldMore t u)
    → (IsOver t.reached → u ≡ t) × (¬ IsOver t.reached → IsToldMore t u)
step_of true t u before now steps over more = (λ is. let no : true ≡ false = over.1 is in absurd (true≢false no), λ goes. more refl)
step_of false t u before now steps over more = (λ is. steps.untold, λ goes. absurd (goes (over.0 refl)))

over_or_not : (r : Reached) → IsOver r ⊎ (¬ IsOver r)
over_or_not reached.Threads = inr (λ over. over)
over_or_not reached.NothingDue = inr (λ over. over)
over_or_not (reached.Worked did) = inr (λ over. over)
over_or_not (reached.Looked did look) = inr (λ over. over)
over_or_not (reached.Acted did look) = inl tt

-- each turn is over, or was told at least so much
abbrev pub AreTold : ℕ → List Hand → Type 0
AreTold least hands = (k : ℕ) (d : Hand) → k < length hands → IsOver (turn_in (get_or hands k d)).reached ⊎ (least ≤ length (told_so_far (turn_in (get_or hands k d))))

-- one pass more
pub told_next : (least : ℕ) (before now : List Hand) → length now ≡ length before → AreSteps before now → AreTold least before → AreTold (least + 1) now
told_next least before now same steps told k d low =
    let inside : k < length before = omega arith in let step = steps k d inside in
    by (turn_in (get_or before k d)) (turn_in (get_or now k d)) (told k d inside) (over_or_not (turn_in (get_or before k d)).reached) step.rests step.goes
  where
    by : (t u : TurnState) → IsOver t.reached ⊎ (least ≤ length (told_so_far t)) → IsOver t.reached ⊎ (¬ IsOver t.reached) → (IsOver t.reached → u ≡ t) → (¬ IsOver t.reached → IsToldMore t u)
        → IsOver u.reached ⊎ (least + 1 ≤ length (told_so_far u))
    by t u is (inl over) rests goes = inl (subst (λ (x : TurnState). IsOver x.reached) (sym (rests over)) over)
    by t u (inl over) (inr still) rests goes = absurd (still over)
    by t u (inr much) (inr still) rests goes = inr (let more = goes still in omega arith)

-- behind so many passes that no turn is told as much, all are over
pub passed_all : (table : Table) (P : ℕ → ℕ → Type 0) (round first least : ℕ) (hands : List Hand) → IsCrew table P round first hands → (plan_of table).limit + 2 < least → AreTold least hands → AllOver hands
passed_all table P round first least hands crew many told k d low =
    let is = (crew k d low).hand in
    by (turn_in (get_or hands k d)) (told k d low)
    (subst (λ (p : Plan). length (told_so_far (turn_in (get_or hands k d))) ≤ p.limit + 2) is.of.opening.plan (told_within (turn_in (get_or hands k d)) (view_of is.seat) is.playing.told is.seat.known))
  where
    by : (t : TurnState) → IsOver t.reached ⊎ (least ≤ length (told_so_far t)) → length (told_so_far t) ≤ (plan_of table).limit + 2 → IsOver t.reached
    by t (inl over) few = over
    by t (inr much) few = absurd (omega arith)
