-- The law of slices: a unit of a core is one of those that are left to its current thread, or the first of a slice of the next that
-- waits. Both kinds use up what a thread that waits has before it.
use Rattle.std.proofs.Common.{◌≡◌, ℕ, ℤ, zero, suc, ◌+◌, ◌*◌, ◌<◌, ◌≤◌, ◌⊎◌, inl, inr, cond, List, ◌∷◌, take, Option, Some, None, IfSome, pos, ◌+ℤ◌, ◌<ℤ◌, ◌≤ℤ◌, sym, ap, ◌∙◌, subst, arith, mul-le-mul_right, suc-mul}
use Rattle.std.proofs.lemmas.Bool.{cases_lt}
use Rattle.std.proofs.lemmas.Int.{ints}
use mathlib.Core.Option.{some}
use lib.ListN.{get_elem?}
use Rattle.sched_base.specs.declared.task.Task.{Task}
use Rattle.policy_tree.specs.Meaning.{Meaning}
use Rattle.policy_eval.specs.Fitting.{IsTask}
use Rattle.policy_eval.specs.Ranges.{range}
use Rattle.round_model.specs.declared.entry.Did.{Did}
use Rattle.round_model.specs.declared.entry.Entry.{Entry}
use Rattle.round_model.specs.declared.entry.Entry.TheVariants as entry
use Rattle.round_model.specs.declared.plan.Plan.{Plan}
use Rattle.round_model.specs.declared.state.ModelCore.{ModelCore}
use Rattle.round_model.specs.After.{after, after_from, round_of}
use Rattle.round_model.specs.Cores.{Cores, opening_state}
use Rattle.round_model.specs.Kept.{Holds}
use Rattle.round_model.specs.Fits.{Fits}
use Rattle.round_model.specs.Legal.{Legal}
use Rattle.round_model.proofs.Acting.{legal_said}
use Rattle.waiting_laws.specs.Slices.{HasLeft, KeepsInSlices, SlicesLaw, value_in}
use Rattle.waiting_laws.specs.Waiting.{IsInPlace, IsUnstolen, RunsIn, WaitsAt, units_of}
use Rattle.round_laws.proofs.Positions.{state_behind}
use Rattle.waiting_laws.proofs.SlicesUnits.{UnitStep, begins, goes_on, rests, work_runs}
use Rattle.waiting_laws.proofs.TasksInRange.{core_in_range}
use Rattle.waiting_laws.proofs.Waiting.{runs_more}
use Rattle.waiting_laws.proofs.WaitingEntries.{Spares, Step, entry_step, waits, works}
use Rattle.waiting_laws.proofs.WaitingRanges.{value_in_range}
use Rattle.waiting_laws.proofs.WaitingUnits.{goes_along, rounds_have_units, units_at_most, units_more, units_none, units_past}

module _ (a : ℕ) where
  less_than : (o : Option Task) (u v : ℤ) → u ≤ℤ v → IfSome o (λ (t : Task). value_in a t <ℤ u) → IfSome o (λ (t : Task). value_in a t <ℤ v)
  less_than None u v less each = tt
  less_than (Some t) u v less each = omega (arith, ints)

  -- one unit fewer is left where the value is lower
  one_fewer : (o : Option Task) (v low : ℤ) (left : ℕ) → v <ℤ (low +ℤ pos (suc left)) → IfSome o (λ (t : Task). value_in a t <ℤ v) → IfSome o (λ (t : Task). value_in a t <ℤ (low +ℤ pos left))
  one_fewer None v low left less each = tt
  one_fewer (Some t) v low left less each = omega (arith, ints)

module _ (p : Meaning) (plan : Plan) (h : List Entry) (a : ℕ) (low : ℤ) (keeps : ℕ) (fits : Fits p plan)
    (slices : KeepsInSlices p a low keeps) (legal : Legal p plan h) (c : ℕ) (there : c < plan.cores) where
  abbrev core_at : ℕ → ModelCore
  core_at k = after p plan (take k h) c

  in_range : (k : ℕ) → Holds p (core_at k)
  in_range k = core_in_range p plan fits (take k h) c there

  below_high : (t : Task) → IsTask p t → value_in a t ≤ℤ (low +ℤ pos keeps)
  below_high t task = (value_in_range p a (range low (low +ℤ pos keeps)) slices.reaches t task).below

  above_low : (t : Task) → IsTask p t → low ≤ℤ value_in a t
  above_low t task = (value_in_range p a (range low (low +ℤ pos keeps)) slices.reaches t task).above

  step_at : (k : ℕ) (e : Entry) → get_elem? h k ≡ some e → Step (UnitStep p a) c e (core_at k) (core_at (suc k))
  step_at k e is =
      let m = after p plan (take k h) in
      subst (λ (w : Cores). Step (UnitStep p a) c e (m c) (w c)) (sym (state_behind p plan h k e is))
      (entry_step p fits.policy plan (round_of (take k h)) m c (UnitStep p a) (λ what. work_runs p fits.policy a low keeps slices plan (round_of (take k h)) (m c) what (in_range k)) e (legal_said p plan (take k h) e (legal k e is)))

  few_after : (e : Entry) (old new : ModelCore) → HasLeft a low old keeps → Step (UnitStep p a) c e old new → HasLeft a low new keeps
  few_after e old new few (waits no_unit same places) = subst (λ (o : Option Task). IfSome o (λ (t : Task). value_in a t <ℤ (low +ℤ pos keeps))) (sym same) few
  few_after e old new few (works what is (goes_on t task current runs)) = less_than a new.current (value_in a t) (low +ℤ pos keeps) (below_high t task) runs.current
  few_after e old new few (works what is (begins t ts task none queue runs)) = less_than a new.current (value_in a t) (low +ℤ pos keeps) (below_high t task) runs.current
  few_after e old new few (works what is (rests queue none)) = subst (λ (o : Option Task). IfSome o (λ (t : Task). value_in a t <ℤ (low +ℤ pos keeps))) (sym none) tt

  opens_few : HasLeft a low (core_at 0) keeps
  unfolding after_from opening_state
  opens_few = tt

  keeps_are_few : (k : ℕ) → HasLeft a low (core_at k) keeps
  keeps_are_few k = goes_along h (λ k. HasLeft a low (core_at k) keeps) 0 opens_few (λ k same few. subst (λ (g : List Entry). HasLeft a low (after p plan g c) keeps) (sym same) few) k (omega arith)
      (λ k e behind before is few. few_after e (core_at k) (core_at (suc k)) few (step_at k e is))

  module _ (x place left from : ℕ) where
    -- the thread has run, or it waits, and as many units are used up at least as there were
    abbrev RunsOrWaits : ℕ → Type 0
    RunsOrWaits to = RunsIn h x c from to
        ⊎ ((ahead rest : ℕ) × (rest + ahead * suc keeps + units_of h c from to ≤ left + place * suc keeps) × WaitsAt p plan h x c ahead to × HasLeft a low (core_at to) rest)

    by_unit : (k : ℕ) (what : Did) → from ≤ k → get_elem? h k ≡ some (entry.Work c what) → (ahead rest : ℕ) → rest + ahead * suc keeps + units_of h c from (suc k) ≤ suc (left + place * suc keeps)
        → WaitsAt p plan h x c ahead k → HasLeft a low (core_at k) rest → UnitStep p a (core_at k) (core_at (suc k)) what → RunsOrWaits (suc k)
    by_unit k what behind is ahead zero enough waiting few (goes_on t task current runs) =
        let less : value_in a t <ℤ (low +ℤ pos 0) = subst (λ (o : Option Task). IfSome o (λ (u : Task). value_in a u <ℤ (low +ℤ pos 0))) current few in
        let not_less = above_low t task in
        absurd (omega (arith, ints))
    by_unit k what behind is ahead (suc rest) enough waiting few (goes_on t task current runs) =
        let less : value_in a t <ℤ (low +ℤ pos (suc rest)) = subst (λ (o : Option Task). IfSome o (λ (u : Task). value_in a u <ℤ (low +ℤ pos (suc rest)))) current few in
        inr (ahead, rest, omega arith, runs.places x ahead waiting, one_fewer a (core_at (suc k)).current (value_in a t) low rest less runs.current)
    by_unit k what behind is ahead rest enough waiting few (begins t ts task none queue runs) = by_place ahead enough (subst (λ (q : List Task). IsInPlace x q ahead) queue waiting)
      where
        by_place : (ahead : ℕ) → rest + ahead * suc keeps + units_of h c from (suc k) ≤ suc (left + place * suc keeps) → IsInPlace x (t ∷ ts) ahead → RunsOrWaits (suc k)
        by_place zero enough first = inl (record { position = k; not_before = behind; before = omega arith; what = what; works = is; runs = runs.names ∙ ap Some first })
        by_place (suc ahead) enough later = let more = suc-mul ahead (suc keeps) in inr (ahead, keeps, omega arith, runs.places x ahead later, keeps_are_few (suc k))
    by_unit k what behind is ahead rest enough waiting few (rests queue none) = absurd (subst (λ (q : List Task). IsInPlace x q ahead) queue waiting)

    one_entry : (k : ℕ) (e : Entry) → from ≤ k → get_elem? h k ≡ some e → Spares x c e → Step (UnitStep p a) c e (core_at k) (core_at (suc k)) → (ahead rest : ℕ)
        → rest + ahead * suc keeps + units_of h c from k ≤ left + place * suc keeps → WaitsAt p plan h x c ahead k → HasLeft a low (core_at k) rest → RunsOrWaits (suc k)
    one_entry k e behind is spares (waits no_unit same places) ahead rest enough waiting few =
        let on = places x ahead spares waiting in
        let nearer = mul-le-mul_right (suc keeps) on.1 in
        let no_more : units_of h c from (suc k) ≡ units_of h c from k + 0 = units_more h c from k e is behind ∙ ap (λ b. units_of h c from k + cond b 1 0) no_unit in
        inr (on.0, rest, omega arith, on.2, subst (λ (o : Option Task). IfSome o (λ (t : Task). value_in a t <ℤ (low +ℤ pos rest))) (sym same) few)
    one_entry k e behind is spares (works what unit step) ahead rest enough waiting few =
        let one_more = units_at_most h c from k e is behind in
        by_unit k what behind (subst (λ (u : Entry). get_elem? h k ≡ some u) unit is) ahead rest (omega arith) waiting few step

    used_up : (to : ℕ) → from ≤ to → WaitsAt p plan h x c place from → HasLeft a low (core_at from) left → IsUnstolen h x c from to → RunsOrWaits to
    used_up to before starts few unstolen = goes_along h RunsOrWaits from begun past to before on
      where
        begun : RunsOrWaits from
        begun = let none = units_none h c from from (omega arith) in inr (place, left, omega arith, starts, few)

        past : (k : ℕ) → take (suc k) h ≡ take k h → RunsOrWaits k → RunsOrWaits (suc k)
        past k same (inl run) = inl (runs_more h x c from k run)
        past k same (inr (ahead, rest, enough, waiting, few)) =
            let no_more = units_past h c from k same in
            inr (ahead, rest, omega arith, subst (λ (g : List Entry). IsInPlace x (after p plan g c).queue ahead) (sym same) waiting, subst (λ (g : List Entry). HasLeft a low (after p plan g c) rest) (sym same) few)

        on : (k : ℕ) (e : Entry) → from ≤ k → k < to → get_elem? h k ≡ some e → RunsOrWaits k → RunsOrWaits (suc k)
        on k e behind before is (inl run) = inl (runs_more h x c from k run)
        on k e behind before is (inr (ahead, rest, enough, waiting, few)) =
            one_entry k e behind is (λ by threads reads steal. unstolen k by threads reads behind before (subst (λ (u : Entry). get_elem? h k ≡ some u) steal is))
            (step_at k e is) ahead rest enough waiting few

  runs_in_slices : (x place from to : ℕ) → WaitsAt p plan h x c place from → IsUnstolen h x c from to → suc place * suc keeps ≤ units_of h c from to → RunsIn h x c from to
  runs_in_slices x place from to starts unstolen enough = by_order (cases_lt to from)
    where
      by_result : RunsOrWaits x place keeps from to → RunsIn h x c from to
      by_result (inl run) = run
      by_result (inr (ahead, rest, less, waiting, few)) = let more = suc-mul place (suc keeps) in absurd (omega arith)

      by_order : (to < from) ⊎ (from ≤ to) → RunsIn h x c from to
      by_order (inl less) = let none = units_none h c from to (omega arith) in let more = suc-mul place (suc keeps) in absurd (omega arith)
      by_order (inr before) = by_result (used_up x place keeps from to before starts (keeps_are_few from) unstolen)

-- the law
pub slices_law : SlicesLaw
slices_law p plan h a low keeps fits slices legal = record {
  keeps_are_few = λ c k there. keeps_are_few p plan h a low keeps fits slices legal c there k;
  units_use_up = λ x c place left from to there before starts few unstolen. used_up p plan h a low keeps fits slices legal c there x place left from to before starts few unstolen;
  runs_in_slices = λ x c place from to there starts unstolen enough. runs_in_slices p plan h a low keeps fits slices legal c there x place from to starts unstolen enough;
  runs_in_rounds = λ x c place first opening ending there begins ends starts unstolen.
      runs_in_slices p plan h a low keeps fits slices legal c there x place opening ending starts unstolen
      (rounds_have_units p plan h legal c there first opening begins (suc place * suc keeps) ending ends);
}
