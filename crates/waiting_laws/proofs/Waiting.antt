-- The law of waiting: no core has a current thread between entries, so each unit of a core runs the first of its queue. A
-- thread that waits is brought ahead by it, and nothing sets it back.
use Rattle.std.proofs.Common.{◌≡◌, ℕ, zero, suc, ◌+◌, ◌<◌, ◌≤◌, ◌⊎◌, inl, inr, cond, List, take, None, refl, sym, ap, ◌∙◌, subst, arith}
use Rattle.std.proofs.lemmas.Bool.{cases_lt}
use mathlib.Core.Option.{some}
use lib.ListN.{get_elem?}
use Rattle.policy_tree.specs.Meaning.{Meaning}
use Rattle.round_model.specs.declared.entry.Did.{Did}
use Rattle.round_model.specs.declared.entry.Entry.{Entry}
use Rattle.round_model.specs.declared.entry.Entry.TheVariants as entry
use Rattle.round_model.specs.declared.plan.Plan.{Plan}
use Rattle.round_model.specs.declared.state.ModelCore.{ModelCore}
use Rattle.round_model.specs.After.{after, after_from, round_of}
use Rattle.round_model.specs.Cores.{Cores, opening_state}
use Rattle.round_model.specs.Fits.{Fits}
use Rattle.round_model.specs.Legal.{Legal}
use Rattle.round_model.proofs.Acting.{legal_said}
use Rattle.waiting_laws.specs.Waiting.{IsInPlace, IsUnstolen, QueuesAlways, RunsIn, RunsInRounds, RunsInTurn, UnitsBringAhead, WaitingLaw, WaitsAt, units_of}
use Rattle.round_laws.proofs.Positions.{state_behind}
use Rattle.round_laws.proofs.RoundNumbers.{EntryAt, entry_at, past_end, which_entry}
use Rattle.waiting_laws.proofs.WaitingEntries.{Spares, Step, entry_step, waits, works}
use Rattle.waiting_laws.proofs.WaitingSteps.{Advances, work_advances}
use Rattle.waiting_laws.proofs.WaitingUnits.{goes_along, rounds_have_units, units_at_most, units_more, units_none, units_past}

-- what ran by one position ran by the next
pub runs_more : (h : List Entry) (x c low high : ℕ) → RunsIn h x c low high → RunsIn h x c low (suc high)
runs_more h x c low high run = record { position = run.position; not_before = run.not_before; before = let less = run.before in omega arith; what = run.what; works = run.works; runs = run.runs }

-- a unit of a core with no current thread
abbrev BringsAhead : ModelCore → ModelCore → Did → Type 0
BringsAhead old new what = Advances old.queue new what

module _ (p : Meaning) (plan : Plan) (h : List Entry) (fits : Fits p plan) (queues : QueuesAlways p) (legal : Legal p plan h) where
  step_from : (k : ℕ) → ((c : ℕ) → (after p plan (take k h) c).current ≡ None) → (c : ℕ) (e : Entry) → get_elem? h k ≡ some e
      → Step BringsAhead c e (after p plan (take k h) c) (after p plan (take (suc k) h) c)
  step_from k none c e is =
      let m = after p plan (take k h) in
      subst (λ (w : Cores). Step BringsAhead c e (m c) (w c)) (sym (state_behind p plan h k e is))
      (entry_step p fits.policy plan (round_of (take k h)) m c BringsAhead (λ what. work_advances p fits.policy queues plan (round_of (take k h)) (m c) what (none c)) e (legal_said p plan (take k h) e (legal k e is)))

  step_current : (c : ℕ) (e : Entry) (old new : ModelCore) → old.current ≡ None → Step BringsAhead c e old new → new.current ≡ None
  step_current c e old new none (waits no_unit same places) = same ∙ none
  step_current c e old new none (works what is advances) = advances.current

  -- between entries no core has a current thread
  pub none_current : (k c : ℕ) → (after p plan (take k h) c).current ≡ None
  unfolding after_from opening_state
  none_current zero c = refl
  none_current (suc k) c = by_entry (none_current k) (which_entry h k)
    where
      by_entry : ((d : ℕ) → (after p plan (take k h) d).current ≡ None) → EntryAt h k → (after p plan (take (suc k) h) c).current ≡ None
      by_entry none (entry_at e is) = step_current c e (after p plan (take k h) c) (after p plan (take (suc k) h) c) (none c) (step_from k none c e is)
      by_entry none (past_end same) = ap (λ (g : List Entry). (after p plan g c).current) same ∙ none c

  module _ (x c place low : ℕ) (starts : WaitsAt p plan h x c place low) where
    -- the thread has run, or it waits as many places ahead at least as there were units
    abbrev RunsOrWaits : ℕ → Type 0
    RunsOrWaits high = RunsIn h x c low high ⊎ ((ahead : ℕ) × (ahead + units_of h c low high ≤ place) × WaitsAt p plan h x c ahead high)

    -- a unit of the core
    by_unit : (k ahead : ℕ) (what : Did) → low ≤ k → get_elem? h k ≡ some (entry.Work c what) → Advances (after p plan (take k h) c).queue (after p plan (take (suc k) h) c) what
        → ahead + units_of h c low (suc k) ≤ suc place → WaitsAt p plan h x c ahead k → RunsOrWaits (suc k)
    by_unit k zero what behind is advances enough waiting =
        inl (record { position = k; not_before = behind; before = omega arith; what = what; works = is; runs = advances.first x waiting })
    by_unit k (suc ahead) what behind is advances enough waiting = inr (ahead, omega arith, advances.later x ahead waiting)

    one_entry : (k : ℕ) (e : Entry) → low ≤ k → get_elem? h k ≡ some e → Spares x c e → Step BringsAhead c e (after p plan (take k h) c) (after p plan (take (suc k) h) c)
        → (ahead : ℕ) → ahead + units_of h c low k ≤ place → WaitsAt p plan h x c ahead k → RunsOrWaits (suc k)
    one_entry k e behind is spares (waits no_unit same places) ahead enough waiting =
        let on = places x ahead spares waiting in
        let no_more : units_of h c low (suc k) ≡ units_of h c low k + 0 = units_more h c low k e is behind ∙ ap (λ b. units_of h c low k + cond b 1 0) no_unit in
        inr (on.0, omega (arith, on.1), on.2)
    one_entry k e behind is spares (works what unit advances) ahead enough waiting =
        let one_more = units_at_most h c low k e is behind in
        by_unit k ahead what behind (subst (λ (u : Entry). get_elem? h k ≡ some u) unit is) advances (omega arith) waiting

    brought_ahead : (high : ℕ) → low ≤ high → IsUnstolen h x c low high → RunsOrWaits high
    brought_ahead high before unstolen = goes_along h RunsOrWaits low begun past high before on
      where
        begun : RunsOrWaits low
        begun = let none = units_none h c low low (omega arith) in inr (place, omega arith, starts)

        past : (k : ℕ) → take (suc k) h ≡ take k h → RunsOrWaits k → RunsOrWaits (suc k)
        past k same (inl run) = inl (runs_more h x c low k run)
        past k same (inr (ahead, enough, waiting)) =
            let no_more = units_past h c low k same in
            inr (ahead, omega arith, subst (λ (g : List Entry). IsInPlace x (after p plan g c).queue ahead) (sym same) waiting)

        on : (k : ℕ) (e : Entry) → low ≤ k → k < high → get_elem? h k ≡ some e → RunsOrWaits k → RunsOrWaits (suc k)
        on k e behind before is (inl run) = inl (runs_more h x c low k run)
        on k e behind before is (inr (ahead, enough, waiting)) =
            one_entry k e behind is (λ by threads reads steal. unstolen k by threads reads behind before (subst (λ (u : Entry). get_elem? h k ≡ some u) steal is))
            (step_from k (none_current k) c e is) ahead enough waiting

  units_bring_ahead : UnitsBringAhead p plan h
  units_bring_ahead x c place low high before starts unstolen = brought_ahead x c place low starts high before unstolen

  runs_in_turn : RunsInTurn p plan h
  runs_in_turn x c place low high starts unstolen enough = by_order (cases_lt high low)
    where
      by_result : RunsOrWaits x c place low starts high → RunsIn h x c low high
      by_result (inl run) = run
      by_result (inr (ahead, less, waiting)) = absurd (omega arith)

      by_order : (high < low) ⊎ (low ≤ high) → RunsIn h x c low high
      by_order (inl less) = let none = units_none h c low high (omega arith) in absurd (omega arith)
      by_order (inr before) = by_result (brought_ahead x c place low starts high before unstolen)

  runs_in_rounds : RunsInRounds p plan h
  runs_in_rounds x c place first opening ending there begins ends starts unstolen =
      runs_in_turn x c place opening ending starts unstolen (rounds_have_units p plan h legal c there first opening begins (suc place) ending ends)

-- the law
pub waiting_law : WaitingLaw
waiting_law p plan h fits queues legal = record {
  units_bring_ahead = units_bring_ahead p plan h fits queues legal;
  runs_in_turn = runs_in_turn p plan h fits queues legal;
  runs_in_rounds = runs_in_rounds p plan h fits queues legal;
}
