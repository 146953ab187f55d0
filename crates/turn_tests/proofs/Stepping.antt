-- What serial play's next step is, by what may be called.
use Rattle.std.proofs.Common.{◌≡◌, ℕ, ◌<◌, true, false, Bool, List, [], ◌∷◌, ◌++◌, length, slice_index, Option, Some, None, option_map, refl, sym, ap, ap₂, ◌∙◌, subst, arith}
use Rattle.std.specs.Prelude.{IsNone, IsSomeAnd}
use Rattle.std.proofs.lemmas.List.{append_cancel_left, length-append}
use Rattle.policy_tree.specs.Meaning.{Meaning, PlaceTree, here, least}
use Rattle.round_model.specs.declared.entry.Did.{Did}
use Rattle.round_model.specs.declared.entry.Entry.{Entry}
use Rattle.round_model.specs.declared.entry.Entry.TheVariants as entry
use Rattle.round_model.specs.declared.plan.Plan.{Plan}
use Rattle.round_model.specs.declared.plan.Planned.{Planned}
use Rattle.round_model.specs.declared.state.Blocked.{Blocked}
use Rattle.round_model.specs.After.{after, round_of}
use Rattle.round_model.specs.Attempts.{attempt_of, attempt_with}
use Rattle.round_model.specs.Choices.{choice_of}
use Rattle.round_model.specs.Outcomes.{values_at}
use Rattle.round_model.specs.FreshReads.{fresh_reads}
use Rattle.round_model.specs.Reads.{values_of}
use Rattle.round_model.specs.Scenes.{entering_next, has_attempted, has_worked, own_entries, scene_of, waking_next}
use Rattle.round_model.specs.Work.{worked}
use Rattle.round_model.proofs.Bounded.{bounds_law}
use Rattle.round_model.proofs.Bursts.{have_bursts}
use Rattle.round_model.proofs.Keeping.{bounds_hold}
use Rattle.round_model.proofs.Outcomes.{choice_same}
use Rattle.round_judge.specs.Readable.{ReadIn}
use Rattle.serial_steps.specs.declared.turns.NextStep.{NextStep}
use Rattle.serial_steps.specs.declared.turns.NextStep.TheVariants as next
use Rattle.serial_steps.specs.Turns.{HasWoken, IsLateStepOf, placement_by, step_of_dids, with_step}
use Rattle.serial_steps.specs.Serial.{SerialState, step_of, with_entry}
use Rattle.serial_steps.proofs.SerialSteps.{one_word, target_some}
use Rattle.serial_steps.proofs.Turning.{enters, is_late, late_entry, late_work, wakes}
use Rattle.core_table.specs.declared.views.Role.{Role}
use Rattle.core_table.specs.declared.views.Role.TheVariants as role
use Rattle.core_table.specs.declared.views.View.{View}
use Rattle.core_table.specs.Told.{IsTrueNote}
use Rattle.core_table.specs.Views.{noted}
use Rattle.core_table.proofs.Histories.{own_is}
use Rattle.core_calls.specs.Calls.{core_by}
use Rattle.core_calls.specs.Steps.{HasLetAllIn, MayEnter, MayWork}
use Rattle.select_phase.specs.declared.looks.Look.{Look}
use Rattle.select_phase.specs.Seen.{AreLate, values_read}
use Rattle.steal_phase.specs.Attempts.{MayAttempt}
use Rattle.turn_tests.specs.declared.memory_calls.MemoryCalls.{MemoryCalls}
use Rattle.turn_tests.specs.Memory.{IsReady, core_of, fresh_of, history_of, meaning_in_memory, past_of, plan_of, view_of}
use Rattle.turn_tests.specs.Steps.{IsNextStep, moment_of}
use Rattle.turn_tests.proofs.Late.{attempted_worked, worked_late}
use Rattle.turn_tests.proofs.Rows.{fresh_each, notes_late, notes_true}

-- a step by which the history grows by this entry adds it
same_step : (s : SerialState) (a : ℕ) (fresh : List ℕ) (e : Entry) (step : NextStep) → with_entry s e ≡ with_step s a fresh step → step ≡ next.Adds e
same_step s a fresh e (next.Adds d) is =
    let histories : s.history ++ e ∷ [] ≡ s.history ++ d ∷ [] = ap (λ (t : SerialState). t.history) is in
    let ends : e ∷ [] ≡ d ∷ [] = append_cancel_left s.history (e ∷ []) (d ∷ []) histories in
    let one : e ≡ d = cc in ap next.Adds (sym one)
same_step s a fresh e next.Looks is = let counts = ap (λ (t : SerialState). length t.history) is in let one = length-append s.history (e ∷ []) in absurd (omega arith)
same_step s a fresh e next.Over is = let counts = ap (λ (t : SerialState). length t.history) is in let one = length-append s.history (e ∷ []) in absurd (omega arith)

named_entering : (o : Option Planned) (thread : ℕ) → IsSomeAnd o (λ (t : Planned). t.id ≡ thread) → Some thread ≡ option_map (λ (t : Planned). t.id) o
named_entering None thread is = absurd is
named_entering (Some t) thread is = ap Some (sym is)

none_of : {X : Type 0} (o : Option X) → IsNone o → o ≡ None
none_of None is = refl
none_of (Some x) is = absurd (cc)

none_is : {X : Type 0} (o : Option X) → o ≡ None → IsNone o
none_is None is = refl
none_is (Some x) is = absurd (cc)

-- what is read just now, as serial play has it
pub fresh_same : (p : Meaning) (plan : Plan) (h : List Entry) (a : ℕ) → fresh_of plan h ≡ fresh_reads plan h (scene_of p plan h a)
unfolding scene_of
fresh_same p plan h a = refl

-- the reads of a placement are no earlier than what was read before
late_by : (v : View) (place : PlaceTree) (fresh : List ℕ) → AreLate v fresh → AreLate v (placement_by place fresh)
late_by v here fresh late i x at inside = absurd (omega arith)
late_by v (least e) fresh late i x at inside = late i x at inside

-- a placement that looks has as many
each_by : (plan : Plan) (place : PlaceTree) (fresh : List ℕ) → length fresh ≡ plan.cores → 0 < length (placement_by place fresh) → length (placement_by place fresh) ≡ plan.cores
each_by plan here fresh each some = absurd (omega arith)
each_by plan (least e) fresh each some = each

-- whether the role has the mark that none is due
abbrev is_marked : Role → Bool
is_marked (role.Opening merged turns) = false
is_marked (role.Core core none_due) = none_due
is_marked role.Spent = false

module _ (it : MemoryCalls) (ready : IsReady it) where
  abbrev p : Meaning
  p = meaning_in_memory it

  abbrev plan : Plan
  plan = plan_of it

  abbrev h : List Entry
  h = history_of it

  abbrev a : ℕ
  a = core_of it

  abbrev fresh : List ℕ
  fresh = fresh_of plan h

  abbrev reads : List ℕ
  reads = placement_by p.place fresh

  there : a < plan.cores
  there = ready.agrees.role.there

  pub fresh_late : AreLate (view_of it) fresh
  fresh_late = notes_late p plan h

  pub placed_late : AreLate (view_of it) reads
  placed_late = late_by (view_of it) p.place fresh fresh_late

  pub placed_each : 0 < length reads → length reads ≡ plan.cores
  placed_each some = each_by plan p.place fresh (fresh_each plan h) some

  -- the step by these looks is the next step
  adds_by : (look : Option (List ℕ)) (step : NextStep) (e : Entry) → step_of p plan (moment_of it look) a ≡ with_entry (moment_of it look) e → IsNextStep it look step → step ≡ next.Adds e
  adds_by look step e does is = same_step (moment_of it look) a fresh e step (sym does ∙ is)

  -- what the view has of its own entries
  let_in : HasLetAllIn (view_of it) a → entering_next plan (round_of h) a (own_entries h a) ≡ None
  let_in entered = none_of (entering_next plan (round_of h) a (own_entries h a)) (subst (λ (own : List Entry). IsNone (entering_next plan (round_of h) a own)) (own_is a h) entered)

  -- who may enter enters
  pub arrives : (thread : ℕ) (step : NextStep) → MayEnter (view_of it) a thread → IsNextStep it None step → (at : ℕ) × (step ≡ next.Adds (entry.Enter thread a at reads))
  arrives thread step may is =
      let target = target_some p plan.cores (values_at p plan h reads) a there in
      let found = subst (λ (own : List Entry). IsSomeAnd (entering_next plan (round_of h) a own) (λ (t : Planned). t.id ≡ thread)) (own_is a h) may.next in (
        target.0,
        adds_by None step (entry.Enter thread a target.0 reads)
            (enters p plan h a (λ c. None) fresh reads thread target.0 (fresh_same p plan h a) refl (named_entering (entering_next plan (round_of h) a (own_entries h a)) thread found) target.1) is,
      )

  -- a thread wakes, or none is due
  pub data Wakes (step : NextStep) : Type 0 where
    wakes_to : (thread at : ℕ) → step ≡ next.Adds (entry.Wake thread a at reads) → Wakes step
    rests : HasWoken p plan h a → Wakes step

  -- who is due wakes
  wakes_by : (b : Blocked) (step : NextStep) → waking_next (round_of h) (after p plan h a) ≡ Some b → HasLetAllIn (view_of it) a → IsNextStep it None step
      → (at : ℕ) × (step ≡ next.Adds (entry.Wake b.task.id a at reads))
  wakes_by b step found entered is =
      let target = target_some p plan.cores (values_at p plan h reads) a there in (
        target.0,
        adds_by None step (entry.Wake b.task.id a target.0 reads)
            (wakes p plan h a (λ c. None) fresh reads b.task.id target.0 (fresh_same p plan h a) refl (let_in entered) (sym (ap (option_map (λ (x : Blocked). x.task.id)) found)) target.1) is,
      )

  pub woken_or_none : (step : NextStep) (found : Option Blocked) → waking_next (round_of h) (after p plan h a) ≡ found → HasLetAllIn (view_of it) a → IsNextStep it None step → Wakes step
  woken_or_none step None none entered is = rests (none_is (waking_next (round_of h) (after p plan h a)) none)
  woken_or_none step (Some b) some entered is = let w = wakes_by b step some entered is in wakes_to b.task.id w.0 w.1

  -- The unit.
  unit_word : (d : Did) × ((worked p plan (round_of h) (after p plan h a)).dids ≡ d ∷ [])
  unit_word =
      let bounds = bounds_law p plan h ready.kept.fits ready.kept.handlers ready.kept.stands.legal in
      one_word p plan ready.kept.fits ready.kept.handlers (round_of h) (after p plan h a) (bounds_hold p (after p plan h a) (bounds.bounds.each a there)) (have_bursts p plan h a ready.kept.fits)

  unattempted : has_worked (own_entries h a) ≡ false → has_attempted (own_entries h a) ≡ false
  unattempted none = elim (has_attempted (own_entries h a)) as (λ b. has_attempted (own_entries h a) ≡ b → has_attempted (own_entries h a) ≡ false) [
    | true ↦ λ made. let ran = sym none ∙ attempted_worked p plan ready.kept.fits a h ready.kept.stands.legal made in absurd (cc)
    | false ↦ λ not. not
  ] refl

  late_adds : (look : Option (List ℕ)) (step : NextStep) (e : Entry) → entering_next plan (round_of h) a (own_entries h a) ≡ None → waking_next (round_of h) (after p plan h a) ≡ None
      → IsLateStepOf p plan h a look (next.Adds e) → IsNextStep it look step → step ≡ next.Adds e
  late_adds look step e entered woken late is = adds_by look step e (is_late p plan h a fresh look (next.Adds e) entered woken late (λ c. look) (fresh_same p plan h a) refl) is

  pub works_by : (step : NextStep) → MayWork (view_of it) a → IsNextStep it None step → (d : Did) × (step ≡ next.Adds (entry.Work a d))
  works_by step may is =
      let word = unit_word in
      let none = subst (λ (own : List Entry). has_worked own ≡ false) (own_is a h) may.first in
      let marked = ap (λ (r : Role). is_marked r) may.marked in
      let woken = none_of (waking_next (round_of h) (after p plan h a)) (ready.agrees.role.due marked) in (
        word.0,
        late_adds None step (entry.Work a word.0) (let_in may.entered) woken
            (subst (λ (dids : List Did). IsLateStepOf p plan h a None (step_of_dids a dids)) word.1 (late_work p plan h a None (unattempted none) none)) is,
      )

  -- The attempt.
  module _ (look : Look) (may : MayAttempt (view_of it) look) where
    pub by_is : look.by ≡ a
    by_is = sym (ap core_by may.ready.of_core.role)

    note_is : (c : ℕ) → c < plan.cores → IsTrueNote p plan h (noted c (slice_index look.reads c) (may.looked.seen c))
    note_is c low = let r = may.looked.read.each c low in notes_true p plan h r.place (noted c (slice_index look.reads c) (may.looked.seen c)) r.there

    pub look_read : ReadIn plan (past_of it) look.reads
    look_read = let window = ready.kept.stands.rows.window in record {
      one_each = may.looked.read.one_each;
      from_start = λ c low. let n = (note_is c low).in_round in omega (arith, ready.kept.stands.entries);
      to_now = λ c low. let n = (note_is c low).within in omega (arith, ready.kept.stands.entries);
    }

    chosen : choice_of p plan.cores (values_at p plan h look.reads) a ≡ look.choice
    chosen =
        choice_same p plan.cores (values_at p plan h look.reads) (values_read (view_of it) may.looked.seen) (λ c low. ap (values_of plan c) (sym (note_is c low).seen)) a there
        ∙ (ap (choice_of p plan.cores (values_read (view_of it) may.looked.seen)) (sym by_is) ∙ sym may.looked.choice)

    abbrev pub tried_entry : Entry
    tried_entry = attempt_with p plan (after p plan h) look.by look.reads look.choice

    entry_is : tried_entry ≡ attempt_of p plan (after p plan h) (values_at p plan h look.reads) a look.reads
    unfolding attempt_of
    entry_is = ap₂ (λ (c : ℕ) (choice : Option ℕ). attempt_with p plan (after p plan h) c look.reads choice) by_is (sym chosen)

    pub tries_by : (step : NextStep) → IsNextStep it (Some look.reads) step → step ≡ next.Adds tried_entry
    tries_by step is =
        let ran = subst (λ (own : List Entry). has_worked own ≡ true) (own_is a h) may.ready.worked in
        let first = subst (λ (own : List Entry). has_attempted own ≡ false) (own_is a h) may.ready.first in
        let late = worked_late p plan ready.kept.fits a h ready.kept.stands.legal ran in
        late_adds (Some look.reads) step tried_entry (none_of (entering_next plan (round_of h) a (own_entries h a)) late.0) (none_of (waking_next (round_of h) (after p plan h a)) late.1)
        (late_entry p plan h a look.reads tried_entry first ran entry_is) is
