-- What a step of a core comes to in serial play: it adds a legal entry, or the core looks, or its turn is over.
use Rattle.std.proofs.Common.{◌≡◌, ℕ, ◌<◌, ◌==◌, max, Bool, true, false, cond, List, [], ◌∷◌, length, map, IfSome, Option, Some, None, option_map, refl, sym, ap, subst, arith}
use Rattle.std.specs.List.{range_with_len}
use Rattle.std.proofs.lemmas.List.FromFn.{get_or-map-range_with_len, length-map-range_with_len, length-range_with_len}
use Rattle.sched_base.specs.declared.task.Task.{Task}
use Rattle.policy_tree.specs.declared.typed.Event.{Event}
use Rattle.policy_tree.specs.declared.typed.Event.TheVariants as event
use Rattle.policy_tree.specs.Meaning.{Meaning, PlaceTree, here, least}
use Rattle.policy_eval.specs.declared.env.CoreValues.{CoreValues}
use Rattle.policy_eval.specs.Events.{outcomes_of}
use Rattle.policy_eval.specs.Fitting.{IsTask}
use Rattle.policy_eval.specs.Obligations.{MeetsHandlerObligations}
use Rattle.policy_eval.specs.Orders.{best_of, better_of}
use Rattle.round_model.specs.declared.attempt.Attempt.{Attempt}
use Rattle.round_model.specs.declared.attempt.Attempt.TheVariants as attempt
use Rattle.round_model.specs.declared.entry.Did.{Did}
use Rattle.round_model.specs.declared.entry.Did.TheVariants as did
use Rattle.round_model.specs.declared.entry.Entry.{Entry}
use Rattle.round_model.specs.declared.entry.Entry.TheVariants as entry
use Rattle.round_model.specs.declared.plan.Burst.{Burst}
use Rattle.round_model.specs.declared.plan.Plan.{Plan}
use Rattle.round_model.specs.declared.plan.Planned.{Planned}
use Rattle.round_model.specs.declared.state.Blocked.{Blocked}
use Rattle.round_model.specs.declared.state.ModelCore.{ModelCore}
use Rattle.round_model.specs.After.{after, round_of}
use Rattle.round_model.specs.Attempts.{attempt_of, attempt_with, moves_of, steal_or_fail}
use Rattle.round_model.specs.Bursts.{HasBurst, HaveBursts, LiesIn}
use Rattle.round_model.specs.Choices.{choice_of, is_less, target_by, target_of}
use Rattle.round_model.specs.Kept.{Holds}
use Rattle.round_model.specs.Outcomes.{entry_of_attempt, values_at}
use Rattle.round_model.specs.Cores.{Cores}
use Rattle.round_model.specs.Entries.{acting_core}
use Rattle.round_model.specs.Fits.{Fits}
use Rattle.round_model.specs.FreshReads.{fresh_reads, touched_from}
use Rattle.round_model.specs.Legal.{LegalNext}
use Rattle.round_model.specs.Programs.{Meeting, blocking, burst_of, ending_now, meeting_of, place_after, tick, yielding}
use Rattle.round_model.specs.Reads.{ReadsFit, round_start}
use Rattle.round_model.specs.Scenes.{entering_next, has_attempted, has_worked, own_entries, scene_of, waking_next}
use Rattle.round_model.specs.Work.{after_meeting, after_unit, before, did_of, elected, run_over, worked}
use Rattle.round_model.proofs.Bounded.{bounds_law}
use Rattle.round_model.proofs.Bursts.{elects_burst, have_bursts}
use Rattle.round_model.proofs.Keeping.{bounds_hold}
use Rattle.round_model.proofs.Longer.{start_within}
use Rattle.round_model.proofs.Standing.{elected_gains, one_outcome}
use Rattle.round_model.proofs.Touched.{touched_within}
use Rattle.serial_steps.specs.declared.turns.NextStep.{NextStep}
use Rattle.serial_steps.specs.declared.turns.NextStep.TheVariants as next
use Rattle.serial_steps.specs.Turns.{IsLateStepOf, placement_by, step_of_dids, with_step}
use Rattle.serial_steps.specs.Serial.{SerialState, step_of, with_entry}
use Rattle.serial_steps.specs.SerialMoments.{IsWithinRound}
use Rattle.serial_steps.proofs.Turning.{attempt_may, enter_may, enters, is_late, is_none, late_entry}
use Rattle.serial_steps.proofs.Turning.{late_look, late_over, late_work, wake_may, wakes, work_may}

-- what a core reads just now lies in the round
pub fresh_fit : (p : Meaning) (plan : Plan) (h : List Entry) (a : ℕ) → ReadsFit plan.cores (round_start h) (length h) (fresh_reads plan h (scene_of p plan h a))
unfolding scene_of
fresh_fit p plan h a =
    let read : ℕ → ℕ = λ c. max (round_start h) (touched_from c 0 0 h) in
    let many = length-map-range_with_len read 0 plan.cores in
    record {
      one_each = many;
      each = λ k d inside.
          let value = get_or-map-range_with_len read 0 plan.cores k k d (omega (arith, many)) (omega arith) in
          let touched = touched_within k 0 0 h (omega arith) in
          let start = start_within h in
          record { in_round = omega (arith, value); before_entry = omega (arith, value) };
    }

-- there is a core to place a thread on
some_best : (before : ℕ → ℕ → Bool) (xs : List ℕ) → 0 < length xs → (x : ℕ) × (best_of before xs ≡ Some x)
some_best before [] some = absurd (omega arith)
some_best before (x ∷ xs) some = (better_of before x (best_of before xs), refl)

pub target_some : (p : Meaning) (n : ℕ) (f : ℕ → CoreValues) (a : ℕ) → a < n → (at : ℕ) × (target_of p n f a ≡ Some at)
unfolding target_of
target_some p n f a own = by_rule p.place
  where
    by_rule : (rule : PlaceTree) → (at : ℕ) × (target_by rule n f a ≡ Some at)
    by_rule here = (a, refl)
    by_rule (least e) = some_best (is_less e f) (range_with_len 0 n) (omega (arith, length-range_with_len 0 n))

-- an attempt has one of three forms
attempt_form : (p : Meaning) (plan : Plan) (m : Cores) (values : ℕ → CoreValues) (a : ℕ) (reads : List ℕ) → (x : Attempt) × (attempt_of p plan m values a reads ≡ entry_of_attempt a reads x)
unfolding attempt_of
attempt_form p plan m values a reads = by_choice (choice_of p plan.cores values a)
  where
    by_moves : (v : ℕ) (moves : List ℕ) → (x : Attempt) × (steal_or_fail a v reads moves ≡ entry_of_attempt a reads x)
    by_moves v [] = (attempt.Fail v, refl)
    by_moves v (id ∷ ids) = (attempt.Steal v (id ∷ ids), refl)

    by_choice : (choice : Option ℕ) → (x : Attempt) × (attempt_with p plan m a reads choice ≡ entry_of_attempt a reads x)
    by_choice None = (attempt.Pass, refl)
    by_choice (Some v) = by_moves v (moves_of p plan a v p.batch (m a) (m v))

attempt_acts : (a : ℕ) (reads : List ℕ) (x : Attempt) → acting_core (entry_of_attempt a reads x) ≡ Some a
attempt_acts a reads attempt.Pass = refl
attempt_acts a reads (attempt.Fail from) = refl
attempt_acts a reads (attempt.Steal from thread) = refl

module _ (p : Meaning) (plan : Plan) (fits : Fits p plan) (handlers : MeetsHandlerObligations p) where
  -- one thing is to be said of a unit
  pub one_word : (round : ℕ) (core : ModelCore) → Holds p core → HaveBursts plan core → (d : Did) × ((worked p plan round core).dids ≡ d ∷ [])
  unfolding worked
  one_word round core holds bursts =
      let everybody : ℕ → Bool = λ id. true in
      let elects = elected_gains p everybody fits.policy handlers core holds in
      of_current (elected p core) elects.holds (elected p core).current refl (elects_burst p plan core bursts)
    where
      met_word : (e : Event) (t : Task) (mid : ModelCore) → Holds p mid → IsTask p t → (wake : ℕ) → (d : Did) × (map (did_of t.id) (outcomes_of p e false mid.consts t) ≡ d ∷ [])
      met_word e t mid holds fit wake =
          let everybody : ℕ → Bool = λ id. true in
          let one = one_outcome p everybody fits.policy handlers e false t mid holds fit in
          (did_of t.id one.0, ap (map (did_of t.id)) one.1)

      of_meeting : (meeting : Meeting) (t : Task) (mid : ModelCore) → Holds p mid → IsTask p t → (d : Did) × ((after_meeting p round meeting t mid).dids ≡ d ∷ [])
      of_meeting tick t mid holds fit = met_word event.Tick t mid holds fit 0
      of_meeting yielding t mid holds fit = met_word event.Yield t mid holds fit 0
      of_meeting (blocking rounds) t mid holds fit = met_word event.Block t mid holds fit 0
      of_meeting ending_now t mid holds fit = (did.Ended t.id, refl)

      of_burst : (mid : ModelCore) → Holds p mid → (t : Task) → mid.current ≡ Some t → (b : Option Burst) → LiesIn t.place b → (d : Did) × ((after_unit p round mid t b).dids ≡ d ∷ [])
      of_burst mid holds t is None has = absurd has
      of_burst mid holds t is (Some b) has =
          let fit : IsTask p t = subst (λ (o : Option Task). IfSome o (IsTask p)) is holds.current in
          let left : ModelCore = record mid { current = None } in
          let ran : Task = record t { place = place_after b t.place } in
          of_meeting (meeting_of b t.place) ran left (record { current = tt; queue = holds.queue; blocked = holds.blocked; consts = holds.consts }) (record { weight = fit.weight; attrs = fit.attrs })

      of_current : (mid : ModelCore) → Holds p mid → (current : Option Task) → mid.current ≡ current → IfSome current (HasBurst plan) → (d : Did) × ((run_over p plan round mid current).dids ≡ d ∷ [])
      of_current mid holds None is has = (did.Nothing, refl)
      of_current mid holds (Some t) is has = of_burst mid holds t is (burst_of plan t) has

  -- what a step comes to
  pub data StepIs (s : SerialState) (a : ℕ) : Type 0 where
    adds : (e : Entry) → LegalNext p plan s.history e → acting_core e ≡ Some a → step_of p plan s a ≡ with_entry s e → StepIs s a
    looks : s.looks a ≡ None → has_attempted (own_entries s.history a) ≡ false
        → step_of p plan s a ≡ record s { looks = λ c. cond (c == a) (Some (fresh_reads plan s.history (scene_of p plan s.history a))) (s.looks c) } → StepIs s a
    stays : has_attempted (own_entries s.history a) ≡ true → step_of p plan s a ≡ s → StepIs s a

  module _ (s : SerialState) (within : IsWithinRound p plan s) (a : ℕ) (there : a < plan.cores) where
    abbrev h : List Entry
    h = s.history

    abbrev fresh : List ℕ
    fresh = fresh_reads plan h (scene_of p plan h a)

    abbrev reads : List ℕ
    reads = placement_by p.place fresh

    late : (look : Option (List ℕ)) (step : NextStep) → entering_next plan (round_of h) a (own_entries h a) ≡ None → waking_next (round_of h) (after p plan h a) ≡ None → s.looks a ≡ look
        → IsLateStepOf p plan h a look step → step_of p plan s a ≡ with_step s a fresh step
    late look step entered woken kept is = is_late p plan h a fresh look step entered woken is s.looks refl kept

    by_look : entering_next plan (round_of h) a (own_entries h a) ≡ None → waking_next (round_of h) (after p plan h a) ≡ None → has_attempted (own_entries h a) ≡ false → has_worked (own_entries h a) ≡ true
        → (look : Option (List ℕ)) → s.looks a ≡ look → StepIs s a
    by_look entered woken first has None kept = looks kept first (late None next.Looks entered woken kept (late_look p plan h a first has))
    by_look entered woken first has (Some read) kept =
        let form = attempt_form p plan (after p plan h) (values_at p plan h read) a read in
        let e = entry_of_attempt a read form.0 in
        adds e (attempt_may p plan h a read form.0 (within.looks a read there kept) form.1 within.begun there (record { worked = has; first = first }))
        (attempt_acts a read form.0)
        (late (Some read) (next.Adds e) entered woken kept (late_entry p plan h a read e first has (sym form.1)))

    by_flags : entering_next plan (round_of h) a (own_entries h a) ≡ None → waking_next (round_of h) (after p plan h a) ≡ None
        → (made worked_one : Bool) → has_attempted (own_entries h a) ≡ made → has_worked (own_entries h a) ≡ worked_one → StepIs s a
    by_flags entered woken true worked_one made has = stays made (late (s.looks a) next.Over entered woken refl (late_over p plan h a (s.looks a) made))
    by_flags entered woken false true first has = by_look entered woken first has (s.looks a) refl
    by_flags entered woken false false first none =
        let bounds = bounds_law p plan h fits handlers within.legal in
        let word = one_word (round_of h) (after p plan h a) (bounds_hold p (after p plan h a) (bounds.bounds.each a there)) (have_bursts p plan h a fits) in
        adds (entry.Work a word.0)
        (work_may p plan h a (word.0 ∷ []) word.1 within.begun there (is_none (entering_next plan (round_of h) a (own_entries h a)) entered)
        (record { woken = is_none (waking_next (round_of h) (after p plan h a)) woken; first = none })) refl
        (late (s.looks a) (next.Adds (entry.Work a word.0)) entered woken refl (subst (λ (dids : List Did). IsLateStepOf p plan h a (s.looks a) (step_of_dids a dids)) word.1 (late_work p plan h a (s.looks a) first none)))

    by_waking : entering_next plan (round_of h) a (own_entries h a) ≡ None → (found : Option Blocked) → waking_next (round_of h) (after p plan h a) ≡ found → StepIs s a
    by_waking entered (Some b) is =
        let target = target_some p plan.cores (values_at p plan h reads) a there in
        let named = sym (ap (option_map (λ (x : Blocked). x.task.id)) is) in
        adds (entry.Wake b.task.id a target.0 reads)
        (wake_may p plan h a b.task.id target.0 fresh reads refl (fresh_fit p plan h a) within.begun there (is_none (entering_next plan (round_of h) a (own_entries h a)) entered) named target.1) refl
        (wakes p plan h a s.looks fresh reads b.task.id target.0 refl refl entered named target.1)
    by_waking entered None is = by_flags entered is (has_attempted (own_entries h a)) (has_worked (own_entries h a)) refl refl

    by_entering : (found : Option Planned) → entering_next plan (round_of h) a (own_entries h a) ≡ found → StepIs s a
    by_entering (Some t) is =
        let target = target_some p plan.cores (values_at p plan h reads) a there in
        let named = sym (ap (option_map (λ (x : Planned). x.id)) is) in
        adds (entry.Enter t.id a target.0 reads)
        (enter_may p plan h a t.id target.0 fresh reads refl (fresh_fit p plan h a) within.begun there named target.1) refl
        (enters p plan h a s.looks fresh reads t.id target.0 refl refl named target.1)
    by_entering None is = by_waking is (waking_next (round_of h) (after p plan h a)) refl

    pub step_is : StepIs s a
    step_is = by_entering (entering_next plan (round_of h) a (own_entries h a)) refl
