-- What a turn asks next, by the arrivals and the blocked threads of a run.
use Rattle.std.proofs.Common.{◌≡◌, ◌<◌, ◌++◌, ℕ, Bool, true, false, cond, List, Option, Some, None, drop, find, option_map, slice_get, take, ap, ap₂, eq-eqb, subst, sym, ◌∙◌}
use Rattle.std.proofs.lemmas.Option.{slice_get_within}
use Rattle.policy_tree.specs.Meaning.{Meaning}
use Rattle.policy_eval.specs.Obligations.{MeetsHandlerObligations}
use Rattle.round_model.specs.declared.plan.Plan.{Plan}
use Rattle.round_model.specs.declared.plan.Planned.{Planned}
use Rattle.round_model.specs.declared.state.Blocked.{Blocked}
use Rattle.round_model.specs.After.{after, round_of}
use Rattle.round_judge.specs.declared.past.Arrival.{Arrival}
use Rattle.round_judge.specs.Past.{arrives_at, is_flagged}
use Rattle.round_model.specs.Updates.{IsFirstAt}
use Rattle.round_model.specs.Fits.{Fits}
use Rattle.round_model.specs.Moves.{without_first}
use Rattle.round_model.specs.Scenes.{entering_next, own_entries, waking_next}
use Rattle.serial_steps.specs.Serial.{SerialState, step_of}
use Rattle.serial_steps.specs.TurnSteps.{over, step_behind_unit, working}
use Rattle.serial_steps.proofs.Turning.{none_entering, none_waking}
use Rattle.run_queue.proofs.Scanning.{find-here, without_first-here}
use Rattle.core_state.proofs.Placing.{same_rest}
use Rattle.core_worker.specs.declared.run.Run.{Run}
use Rattle.core_worker.specs.declared.turn.Look.{Look}
use Rattle.core_worker.specs.Runs.{Enters, HasLooked, IsLate, IsLookOf, IsMoment, KeepsLook, OwesLook, OwesUnit, Wakes, turn_step_at}
use Rattle.core_worker.specs.Turns.{look_of}
use Rattle.core_worker.proofs.Asks.{asks_entering, asks_late, asks_waking}
use Rattle.core_worker.proofs.Stepping.{next_arrival, over_step, round_is}

-- no thread is left that the core is to let in
abbrev pub HasLetIn : Plan → ℕ → SerialState → Type 0
HasLetIn plan a s = entering_next plan (round_of s.history) a (own_entries s.history a) ≡ None

module _ (p : Meaning) (plan : Plan) (fits : Fits p plan) (handlers : MeetsHandlerObligations p) (run : Run) (s : SerialState) (a : ℕ) (m : IsMoment p plan run s) (there : a < plan.cores) where
  module _ (arrivals : List Arrival) (found : Option ℕ) (same : arrivals ≡ run.arrivals.items) (first : found ≡ option_map (λ (x : Arrival). x.id) (find (arrives_at a) arrivals)) where
    found_is : found ≡ option_map (λ (t : Planned). t.id) (entering_next plan (round_of s.history) a (own_entries s.history a))
    found_is = first ∙ (ap (λ (list : List Arrival). option_map (λ (x : Arrival). x.id) (find (arrives_at a) list)) same ∙ next_arrival p plan fits handlers run s a m there)

    pub enters_of : (thread : ℕ) → found ≡ Some thread → Enters p plan a thread s
    enters_of thread is = asks_entering p plan s a thread (sym is ∙ found_is)

    pub let_in_of : found ≡ None → HasLetIn plan a s
    let_in_of none = none_entering (entering_next plan (round_of s.history) a (own_entries s.history a)) (sym none ∙ found_is)

  module _ (due : Option ℕ) (is_due : due ≡ option_map (λ (b : Blocked). b.task.id) (waking_next run.round (after p plan s.history a))) where
    due_is : due ≡ option_map (λ (b : Blocked). b.task.id) (waking_next (round_of s.history) (after p plan s.history a))
    due_is = is_due ∙ ap (λ (round : ℕ). option_map (λ (b : Blocked). b.task.id) (waking_next round (after p plan s.history a))) (round_is p plan fits handlers run s a m there)

    pub wakes_of : (thread : ℕ) → HasLetIn plan a s → due ≡ Some thread → Wakes p plan a thread s
    wakes_of thread entered is = asks_waking p plan s a thread (record { entered = entered; next = sym is ∙ due_is })

    pub late_of : HasLetIn plan a s → due ≡ None → IsLate p plan a s
    late_of entered none = asks_late p plan s a (record { entered = entered; woken = none_waking (waking_next (round_of s.history) (after p plan s.history a)) (sym none ∙ due_is) })

-- the place of the first arrival that comes by a core
pub first_arrives : (core at : ℕ) (arrivals : List Arrival) (x : Arrival) → slice_get arrivals at ≡ Some x → x.core ≡ core
    → find (arrives_at core) (drop at arrivals) ≡ find (arrives_at core) arrivals
    → without_first (arrives_at core) arrivals ≡ take at arrivals ++ without_first (arrives_at core) (drop at arrivals)
    → IsFirstAt (arrives_at core) arrivals at
first_arrives core at arrivals x there same found rest = record {
  inside = slice_get_within arrivals at x there;
  found = sym found ∙ find-here (arrives_at core) arrivals at x there (eq-eqb x.core core same);
  rest = rest ∙ ap (λ (back : List Arrival). take at arrivals ++ back)
      (sym (same_rest (arrives_at core) (drop at arrivals)) ∙ without_first-here (arrives_at core) arrivals at x there (eq-eqb x.core core same));
}

-- what a turn asks for in which no thread is left to enter or to wake, by what is kept of it
module _ (p : Meaning) (plan : Plan) (fits : Fits p plan) (handlers : MeetsHandlerObligations p) (run : Run) (s : SerialState) (a : ℕ) (m : IsMoment p plan run s) (there : a < plan.cores)
    (worked attempted : Bool) (is_worked : is_flagged run.turns.worked a ≡ worked) (is_attempted : is_flagged run.turns.attempted a ≡ attempted) (late : IsLate p plan a s) where
  by_flags : (tried ran : Bool) → attempted ≡ tried → worked ≡ ran → turn_step_at p plan a s ≡ cond tried over (cond ran (step_behind_unit (s.looks a)) working)
  by_flags tried ran is_tried has_run =
      let turn = m.at.turns a there in
      late ∙ ap₂ (λ b c. cond b over (cond c (step_behind_unit (s.looks a)) working)) (sym turn.attempted ∙ (is_attempted ∙ is_tried)) (sym turn.worked ∙ (is_worked ∙ has_run))

  pub unit_of : attempted ≡ false → worked ≡ false → OwesUnit p plan a s
  unit_of untried unrun = by_flags false false untried unrun

  pub look_of_turn : attempted ≡ false → worked ≡ true → look_of run.turns a ≡ None → OwesLook p plan a s
  look_of_turn untried run_it none = by_flags false true untried run_it ∙ ap step_behind_unit (subst (KeepsLook p plan s a) none (m.at.turns a there).look)

  pub attempt_of_turn : (look : Look) → attempted ≡ false → worked ≡ true → look_of run.turns a ≡ Some look → HasLooked p plan a look s
  attempt_of_turn look untried run_it some =
      let is : IsLookOf p plan s a look = subst (KeepsLook p plan s a) some (m.at.turns a there).look in
      record { is = is; step = by_flags false true untried run_it ∙ ap step_behind_unit is.kept }

  pub over_of : attempted ≡ true → step_of p plan s a ≡ s
  over_of tried = over_step p plan fits handlers run s a m there late (sym (m.at.turns a there).attempted ∙ (is_attempted ∙ tried))
