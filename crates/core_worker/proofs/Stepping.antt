-- The steps of a turn, by what the turn asks.
use Rattle.std.proofs.Common.{◌≡◌, ◌≢◌, ℕ, zero, suc, ◌<◌, ◌==◌, eqb, true, false, cond, List, [], ◌∷◌, ◌++◌, length, set, Contains, IfSome, Option, Some, None, find, option_map, get_or-set_same, get_or-set_other, refl, sym, ap, subst, ◌∙◌, arith}
use Rattle.std.proofs.lemmas.Bool.Decides.{nat_tests}
use Rattle.std.proofs.lemmas.List.{append_cancel_left, length-append}
use Rattle.policy_tree.specs.Meaning.{Meaning}
use Rattle.policy_eval.specs.Obligations.{MeetsHandlerObligations}
use Rattle.round_model.specs.declared.entry.Did.{Did}
use Rattle.round_model.specs.declared.entry.Entry.{Entry}
use Rattle.round_model.specs.declared.entry.Entry.TheVariants as entry
use Rattle.round_model.specs.declared.plan.Plan.{Plan}
use Rattle.round_model.specs.declared.plan.Planned.{Planned}
use Rattle.round_model.specs.After.{after, round_of}
use Rattle.round_model.specs.Attempts.{attempt_of, attempt_with}
use Rattle.round_model.specs.Choices.{choice_of, target_of}
use Rattle.round_model.specs.Outcomes.{values_at}
use Rattle.round_model.specs.Entries.{acting_core}
use Rattle.round_model.specs.Fits.{Fits}
use Rattle.round_model.specs.Legal.{LegalNext}
use Rattle.round_model.specs.Reads.{ReadsFit, round_start}
use Rattle.round_model.specs.Scenes.{entering_next, has_attempted, own_entries, scene_of}
use Rattle.round_model.specs.Work.{IsOutcomeOfWork}
use Rattle.round_model.proofs.Bounded.{bounds_law}
use Rattle.round_model.proofs.Bursts.{have_bursts}
use Rattle.round_model.proofs.Histories.{open_round}
use Rattle.round_model.proofs.Keeping.{bounds_hold}
use Rattle.round_model.proofs.OwedTotals.{room_for}
use Rattle.round_judge.specs.declared.past.Arrival.{Arrival}
use Rattle.round_judge.specs.Past.{arrives_at}
use Rattle.round_judge.proofs.Pasts.{arriving_next, id_of_arrival}
use Rattle.serial_steps.specs.declared.turns.NextStep.{NextStep}
use Rattle.serial_steps.specs.declared.turns.NextStep.TheVariants as next
use Rattle.serial_steps.specs.Turns.{IsLateStepOf, placement_by, step_of_dids, with_step}
use Rattle.serial_steps.specs.Serial.{SerialState, step_of, with_entry}
use Rattle.serial_steps.specs.SerialMoments.{IsWithinRound}
use Rattle.serial_steps.proofs.SerialSteps.{StepIs, adds, fresh_fit, looks, one_word, stays, step_is}
use Rattle.serial_steps.proofs.SerialTurns.{keeps_step}
use Rattle.serial_steps.proofs.Turning.{enters, is_late, late_entry, late_look, late_over, late_work, wakes}
use Rattle.core_moves.proofs.Shown.{shown_count}
use Rattle.core_moves.specs.Moves.{MayWork}
use Rattle.core_moves.specs.Sights.{reads_now, values_now}
use Rattle.core_worker.specs.declared.run.Run.{Run}
use Rattle.core_worker.specs.declared.turn.Look.{Look}
use Rattle.core_worker.specs.Runs.{Enters, HasLooked, IsLate, IsLookOf, IsMoment, IsRunOf, KeepsLook, OwesLook, OwesUnit, Wakes}
use Rattle.core_worker.specs.Turns.{look_of}
use Rattle.core_worker.proofs.Asks.{asks_late, of_attempt, of_entering, of_late, of_look, of_unit, of_waking}
use Rattle.core_worker.proofs.Noting.{within_of}

same_entry : (h : List Entry) (e x : Entry) → h ++ e ∷ [] ≡ h ++ x ∷ [] → x ≡ e
same_entry h e x is = let last : e ∷ [] ≡ x ∷ [] = append_cancel_left h (e ∷ []) (x ∷ []) is in cc

-- the entry is legal, and one of the core
pub record IsLegalStep (p : Meaning) (plan : Plan) (s : SerialState) (a : ℕ) (e : Entry) : Type 0 where
  pub legal : LegalNext p plan s.history e
  pub acting : acting_core e ≡ Some a

module _ (p : Meaning) (plan : Plan) (fits : Fits p plan) (handlers : MeetsHandlerObligations p) where
  -- so is each entry that a step adds
  pub added_legal : (s : SerialState) (a : ℕ) (e : Entry) → IsWithinRound p plan s → a < plan.cores → step_of p plan s a ≡ with_entry s e → IsLegalStep p plan s a e
  added_legal s a e within there is = by_kind (step_is p plan fits handlers s within a there)
    where
      same_history : (t : SerialState) → step_of p plan s a ≡ t → t.history ≡ s.history → ⊥
      same_history t other same =
          let count = ap (λ (u : SerialState). length u.history) (sym is ∙ other) in
          absurd (omega (arith, count, ap (λ (g : List Entry). length g) same, length-append s.history (e ∷ [])))

      by_kind : StepIs p plan fits handlers s a → IsLegalStep p plan s a e
      by_kind (adds x legal acting by) =
          let same = same_entry s.history e x (ap (λ (u : SerialState). u.history) (sym is ∙ by)) in
          subst (IsLegalStep p plan s a) same (record { legal = legal; acting = acting })
      by_kind (looks none first by) = absurd (same_history _ by refl)
      by_kind (stays made by) = absurd (same_history s by refl)

  module _ (run : Run) (s : SerialState) (a : ℕ) (m : IsMoment p plan run s) (there : a < plan.cores) where
    -- whom the core lets in next, by the arrivals
    pub next_arrival : option_map (λ (x : Arrival). x.id) (find (arrives_at a) run.arrivals.items) ≡ option_map (λ (t : Planned). t.id) (entering_next plan (round_of s.history) a (own_entries s.history a))
    next_arrival =
        ap (option_map (λ (x : Arrival). x.id)) (arriving_next plan s.history run.arrivals.items a (m.at.arrivals (let begun = m.begun in omega (arith, m.at.round))))
        ∙ id_of_arrival (entering_next plan (round_of s.history) a (own_entries s.history a))

    -- the open round, as the model names it
    pub round_is : run.round ≡ round_of s.history
    round_is = m.at.round ∙ sym (open_round p plan s.history m.at.legal)

    pub core_there : a < length run.cores.cores
    core_there = omega (arith, there, shown_count p plan s.history (after p plan s.history) run.cores m.at.cores)

    -- a thread enters
    pub enter_step : (thread at : ℕ) (reads : List ℕ) → Enters p plan a thread s → reads ≡ placement_by p.place (reads_now p plan s.history a)
        → target_of p plan.cores (values_at p plan s.history reads) a ≡ Some at → step_of p plan s a ≡ with_entry s (entry.Enter thread a at reads)
    enter_step thread at reads is is_read target = enters p plan s.history a s.looks (reads_now p plan s.history a) reads thread at refl is_read (of_entering p plan s a thread is) target

    -- a thread wakes
    pub wake_step : (thread at : ℕ) (reads : List ℕ) → Wakes p plan a thread s → reads ≡ placement_by p.place (reads_now p plan s.history a)
        → target_of p plan.cores (values_at p plan s.history reads) a ≡ Some at → step_of p plan s a ≡ with_entry s (entry.Wake thread a at reads)
    wake_step thread at reads is is_read target =
        let waking = of_waking p plan s a thread is in
        wakes p plan s.history a s.looks (reads_now p plan s.history a) reads thread at refl is_read waking.entered waking.next target

    late : (look : Option (List ℕ)) (step : NextStep) → IsLate p plan a s → s.looks a ≡ look → IsLateStepOf p plan s.history a look step
        → step_of p plan s a ≡ with_step s a (reads_now p plan s.history a) step
    late look step is kept by =
        let behind = of_late p plan s a is in
        is_late p plan s.history a (reads_now p plan s.history a) look step behind.entered behind.woken by s.looks refl kept

    -- the turn is over
    pub over_step : IsLate p plan a s → has_attempted (own_entries s.history a) ≡ true → step_of p plan s a ≡ s
    over_step is made = late (s.looks a) next.Over is refl (late_over p plan s.history a (s.looks a) made)

    -- a unit, with the word that is said of it
    pub work_step : (d : Did) → OwesUnit p plan a s → IsOutcomeOfWork p plan run.round (after p plan s.history a) d → step_of p plan s a ≡ with_entry s (entry.Work a d)
    work_step d owes outcome =
        let h = s.history in
        let bounds = bounds_law p plan h fits handlers m.at.legal in
        let word = one_word p plan fits handlers (round_of h) (after p plan h a) (bounds_hold p (after p plan h a) (bounds.bounds.each a there)) (have_bursts p plan h a fits) in
        let said = subst (λ (dids : List Did). Contains dids d) word.1 (subst (λ (round : ℕ). IsOutcomeOfWork p plan round (after p plan h a) d) (m.at.round ∙ sym (open_round p plan h m.at.legal)) outcome) in
        let dids = word.1 ∙ ap (λ (x : Did). x ∷ []) (only word.0 said) in
        let unit = of_unit p plan s a owes in
        late (s.looks a) (next.Adds (entry.Work a d)) (asks_late p plan s a unit.late) refl
        (subst (λ (list : List Did). IsLateStepOf p plan h a (s.looks a) (step_of_dids a list)) dids (late_work p plan h a (s.looks a) unit.first unit.none))
      where
        only : (x : Did) → Contains (x ∷ []) d → x ≡ d
        only x (zero, inside, is) = is
        only x (suc k, inside, is) = absurd (omega arith)

    pub may_work : OwesUnit p plan a s → MayWork p plan s.history a run.round run.cores
    may_work owes =
        let h = s.history in
        let bounds = bounds_law p plan h fits handlers m.at.legal in
        let word = one_word p plan fits handlers (round_of h) (after p plan h a) (bounds_hold p (after p plan h a) (bounds.bounds.each a there)) (have_bursts p plan h a fits) in
        let round = m.at.round ∙ sym (open_round p plan h m.at.legal) in
        let said : IsOutcomeOfWork p plan run.round (after p plan h a) word.0 = subst (λ (r : ℕ). IsOutcomeOfWork p plan r (after p plan h a) word.0) (sym round) (subst (λ (list : List Did). Contains list word.0) (sym word.1) (0, omega arith, refl)) in
        let step = added_legal s a (entry.Work a word.0) (within_of p plan fits handlers run s m) there (work_step word.0 owes said) in
        record {
          are = m.at.cores;
          legal = m.at.legal;
          there = there;
          now = round;
          room = room_for p plan h (entry.Work a word.0) a plan.limit fits handlers m.at.legal step.legal step.acting there m.room;
        }

    -- the attempt by the look that was kept
    pub attempt_step : (look : Look) (e : Entry) → HasLooked p plan a look s → e ≡ attempt_with p plan (after p plan s.history) a look.reads look.choice → step_of p plan s a ≡ with_entry s e
    unfolding attempt_of
    attempt_step look e has is =
        let h = s.history in
        let owes = of_attempt p plan s a look.reads has.step in
        late (Some look.reads) (next.Adds e) (asks_late p plan s a owes.late) has.is.kept
        (late_entry p plan h a look.reads e owes.first owes.worked (is ∙ ap (attempt_with p plan (after p plan h) a look.reads) has.is.choice))

    -- a look
    abbrev pub looked : SerialState
    looked = record s { looks = λ c. cond (c == a) (Some (reads_now p plan s.history a)) (s.looks c) }

    look_step : OwesLook p plan a s → step_of p plan s a ≡ looked
    look_step step =
        let owes = of_look p plan s a step in
        late None next.Looks (asks_late p plan s a owes.0.late) owes.1 (late_look p plan s.history a owes.0.first owes.0.worked)

    -- what is read just now lies in the round, and is what the choice was made by
    look_made : (look : Look) → look.reads ≡ reads_now p plan s.history a → look.choice ≡ choice_of p plan.cores (values_now p plan s.history a) a → IfSome look.choice (λ v. v < plan.cores) → IsLookOf p plan looked a look
    unfolding scene_of
    look_made look reads choice inside = record {
      kept = ap (λ b. cond b (Some (reads_now p plan s.history a)) (s.looks a)) (let own : eqb a a ≡ true = grind (arith, nat_tests) in own) ∙ ap Some (sym reads);
      fit = subst (λ (list : List ℕ). ReadsFit plan.cores (round_start s.history) (length s.history) list) (sym reads) (fresh_fit p plan s.history a);
      choice = choice ∙ ap (λ (list : List ℕ). choice_of p plan.cores (values_at p plan s.history list) a) (sym reads);
      there = inside;
    }

    pub moment_looked : (look : Look) → OwesLook p plan a s → a < length run.turns.looks → look.reads ≡ reads_now p plan s.history a → look.choice ≡ choice_of p plan.cores (values_now p plan s.history a) a
        → IfSome look.choice (λ v. v < plan.cores) → IsMoment p plan (record run { turns = record run.turns { looks = set run.turns.looks a (Some look) } }) (step_of p plan s a)
    moment_looked look owes wide reads choice inside =
        let new : Run = record run { turns = record run.turns { looks = set run.turns.looks a (Some look) } } in
        let keeps = keeps_step p plan fits handlers s a (within_of p plan fits handlers run s m) there in
        let now : IsRunOf p plan new looked = record {
          cores = m.at.cores;
          legal = m.at.legal;
          within = m.at.within;
          round = m.at.round;
          turns = λ c below.
              let turn = m.at.turns c below in
              record {
                worked = turn.worked;
                attempted = turn.attempted;
                look = elim (eqb c a) as (λ b. eqb c a ≡ b → KeepsLook p plan looked c (look_of new.turns c)) [
                  | true ↦ λ e. let one : a ≡ c = grind (arith, nat_tests) in
                      subst (λ (k : ℕ). KeepsLook p plan looked k (look_of new.turns k)) one
                      (subst (KeepsLook p plan looked a) (sym (get_or-set_same run.turns.looks a (Some look) None wide)) (look_made look reads choice inside))
                  | false ↦ λ e. let apart : c ≢ a = grind (arith, nat_tests) in
                      subst (KeepsLook p plan looked c) (sym (get_or-set_other run.turns.looks a c (Some look) None apart)) (other c e (look_of run.turns c) turn.look)
                ] refl;
              };
          arrivals = m.at.arrivals;
          places = m.at.places;
          ended = m.at.ended;
          flags = m.at.flags;
        } in
        record { at = subst (IsRunOf p plan new) (sym (look_step owes)) now; begun = keeps.within.begun; room = let before = m.room in omega (arith, keeps.reserve) }
      where
        other : (c : ℕ) → eqb c a ≡ false → (kept : Option Look) → KeepsLook p plan s c kept → KeepsLook p plan looked c kept
        other c apart None none = ap (λ b. cond b (Some (reads_now p plan s.history a)) (s.looks c)) apart ∙ none
        other c apart (Some x) has = record { kept = ap (λ b. cond b (Some (reads_now p plan s.history a)) (s.looks c)) apart ∙ has.kept; fit = has.fit; choice = has.choice; there = has.there }
