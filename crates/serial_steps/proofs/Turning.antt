-- The next step of a core in serial play, part by part.
use Rattle.std.proofs.Common.{◌≡◌, ℕ, ◌<◌, true, false, cond, List, [], ◌∷◌, length, Option, Some, None, Contains, IsSomeAnd, IsNone, option_map, refl, sym, ap, ap₂, subst, ◌∙◌, arith}
use Rattle.policy_tree.specs.Meaning.{Meaning, PlaceTree, here, least}
use Rattle.round_model.specs.declared.attempt.Attempt.{Attempt}
use Rattle.round_model.specs.declared.attempt.Attempt.TheVariants as attempt
use Rattle.round_model.specs.declared.entry.Did.{Did}
use Rattle.round_model.specs.declared.entry.Entry.{Entry}
use Rattle.round_model.specs.declared.entry.Entry.TheVariants as entry
use Rattle.round_model.specs.declared.plan.Plan.{Plan}
use Rattle.round_model.specs.declared.plan.Planned.{Planned}
use Rattle.round_model.specs.declared.state.Blocked.{Blocked}
use Rattle.round_model.specs.After.{after, round_of}
use Rattle.round_model.specs.Attempts.{attempt_of}
use Rattle.round_model.specs.Choices.{target_of}
use Rattle.round_model.specs.FreshReads.{fresh_reads, placement_reads}
use Rattle.round_model.specs.Legal.{LegalInRound, LegalNext, rounds_begun}
use Rattle.round_model.specs.Outcomes.{entry_of_attempt, values_at}
use Rattle.round_model.specs.Progress.{HasLetIn, OwesAttempt, OwesUnit}
use Rattle.round_model.specs.Reads.{ReadsFit, round_start}
use Rattle.round_model.specs.Rows.{PlacementReads}
use Rattle.round_model.specs.Scenes.{Scene, entering_next, has_attempted, has_worked, own_entries, scene_of, waking_next}
use Rattle.round_model.specs.Work.{worked}
use Rattle.round_model.proofs.Judging.{attempt_legal, enter_legal, some_blocked, some_named, wake_legal, work_legal}
use Rattle.serial_steps.specs.declared.turns.NextStep.{NextStep}
use Rattle.serial_steps.specs.declared.turns.NextStep.TheVariants as next
use Rattle.serial_steps.specs.TurnSteps.{TurnStep, late_step, over, step_behind_unit}
use Rattle.serial_steps.specs.TurnSteps.{step_to_enter, step_to_wake, turn_step_of, working}
use Rattle.serial_steps.specs.Serial.{SerialState, answered, step_of, with_entry, with_placed, with_work}
use Rattle.serial_steps.specs.Turns.{IsLateStepOf, IsStepOf, MayAdd, placement_by, step_of_dids, with_step}

pub placement_fit : (place : PlaceTree) (plan : Plan) (s : Scene) (fresh : List ℕ) → ReadsFit plan.cores s.start s.position fresh
    → PlacementReads place plan s (placement_by place fresh)
placement_fit here plan s fresh fit = refl
placement_fit (least e) plan s fresh fit = fit

pub placement_same : (place : PlaceTree) (plan : Plan) (h : List Entry) (s : Scene) (fresh : List ℕ) → fresh ≡ fresh_reads plan h s
    → placement_reads place plan h s ≡ placement_by place fresh
placement_same here plan h s fresh is = refl
placement_same (least e) plan h s fresh is = sym is

module _ (p : Meaning) (plan : Plan) (h : List Entry) (a : ℕ) where
  -- what the core's turn comes to by what it asks, after these looks
  abbrev pub done : (ℕ → Option (List ℕ)) → TurnStep → SerialState
  done looks step =
      answered p plan (record { history = h; looks = looks }) (scene_of p plan h a) a (placement_reads p.place plan h (scene_of p plan h a)) step

  -- a thread enters
  pub enters : (looks : ℕ → Option (List ℕ)) (fresh reads : List ℕ) (thread at : ℕ) → fresh ≡ fresh_reads plan h (scene_of p plan h a) → reads ≡ placement_by p.place fresh
      → Some thread ≡ option_map (λ (t : Planned). t.id) (entering_next plan (round_of h) a (own_entries h a))
      → target_of p plan.cores (values_at p plan h reads) a ≡ Some at
      → step_of p plan (record { history = h; looks = looks }) a ≡ with_entry (record { history = h; looks = looks }) (entry.Enter thread a at reads)
  unfolding step_of scene_of turn_step_of
  enters looks fresh reads thread at is_fresh is_read is target =
      by_found (entering_next plan (round_of h) a (own_entries h a)) (some_named thread (entering_next plan (round_of h) a (own_entries h a)) is)
    where
      by_found : (found : Option Planned) → IsSomeAnd found (λ t. t.id ≡ thread)
          → done looks (step_to_enter (scene_of p plan h a) a (looks a) found)
          ≡ with_entry (record { history = h; looks = looks }) (entry.Enter thread a at reads)
      by_found None none = absurd none
      by_found (Some t) same =
          let read = placement_same p.place plan h (scene_of p plan h a) fresh is_fresh ∙ sym is_read in
          ap₂ (λ (rs : List ℕ) (id : ℕ). with_placed (record { history = h; looks = looks }) (λ k. entry.Enter id a k rs) (target_of p plan.cores (values_at p plan h rs) a)) read same
          ∙ ap (with_placed (record { history = h; looks = looks }) (λ k. entry.Enter thread a k reads)) target

  -- no thread is left to enter: the next one wakes, or the core's unit or attempt is to come
  past_entering : (looks : ℕ → Option (List ℕ)) → entering_next plan (round_of h) a (own_entries h a) ≡ None
      → step_of p plan (record { history = h; looks = looks }) a
      ≡ done looks (step_to_wake (own_entries h a) (looks a) (waking_next (round_of h) (after p plan h a)))
  unfolding step_of scene_of turn_step_of
  past_entering looks is =
      ap (λ (found : Option Planned). done looks (step_to_enter (scene_of p plan h a) a (looks a) found)) is

  -- a thread wakes
  pub wakes : (looks : ℕ → Option (List ℕ)) (fresh reads : List ℕ) (thread at : ℕ) → fresh ≡ fresh_reads plan h (scene_of p plan h a) → reads ≡ placement_by p.place fresh
      → entering_next plan (round_of h) a (own_entries h a) ≡ None
      → Some thread ≡ option_map (λ (b : Blocked). b.task.id) (waking_next (round_of h) (after p plan h a))
      → target_of p plan.cores (values_at p plan h reads) a ≡ Some at
      → step_of p plan (record { history = h; looks = looks }) a ≡ with_entry (record { history = h; looks = looks }) (entry.Wake thread a at reads)
  unfolding scene_of
  wakes looks fresh reads thread at is_fresh is_read entered is target =
      past_entering looks entered
      ∙ by_found (waking_next (round_of h) (after p plan h a)) (some_blocked thread (waking_next (round_of h) (after p plan h a)) is)
    where
      by_found : (found : Option Blocked) → IsSomeAnd found (λ b. b.task.id ≡ thread)
          → done looks (step_to_wake (own_entries h a) (looks a) found)
          ≡ with_entry (record { history = h; looks = looks }) (entry.Wake thread a at reads)
      by_found None none = absurd none
      by_found (Some b) same =
          let read = placement_same p.place plan h (scene_of p plan h a) fresh is_fresh ∙ sym is_read in
          ap₂ (λ (rs : List ℕ) (id : ℕ). with_placed (record { history = h; looks = looks }) (λ k. entry.Wake id a k rs) (target_of p plan.cores (values_at p plan h rs) a)) read same
          ∙ ap (with_placed (record { history = h; looks = looks }) (λ k. entry.Wake thread a k reads)) target

  -- neither is left to come
  pub is_late : (fresh : List ℕ) (look : Option (List ℕ)) (step : NextStep) → entering_next plan (round_of h) a (own_entries h a) ≡ None
      → waking_next (round_of h) (after p plan h a) ≡ None → IsLateStepOf p plan h a look step → IsStepOf p plan h a fresh look step
  is_late fresh look step entered woken late looks is_fresh is_look =
      past_entering looks entered
      ∙ (ap (λ (found : Option Blocked). done looks (step_to_wake (own_entries h a) (looks a) found)) woken
      ∙ (late looks is_look ∙ ap (λ (reads : List ℕ). with_step (record { history = h; looks = looks }) a reads step) (sym is_fresh)))

  pub late_over : (look : Option (List ℕ)) → has_attempted (own_entries h a) ≡ true → IsLateStepOf p plan h a look next.Over
  late_over look attempted looks is_look =
      ap (λ b. done looks (cond b over (cond (has_worked (own_entries h a)) (step_behind_unit (looks a)) working))) attempted

  pub late_work : (look : Option (List ℕ)) → has_attempted (own_entries h a) ≡ false → has_worked (own_entries h a) ≡ false
      → IsLateStepOf p plan h a look (step_of_dids a (worked p plan (round_of h) (after p plan h a)).dids)
  unfolding scene_of
  late_work look attempted first looks is_look =
      ap₂ (λ b c. done looks (cond b over (cond c (step_behind_unit (looks a)) working))) attempted first
      ∙ same (worked p plan (round_of h) (after p plan h a)).dids
    where
      same : (dids : List Did) → with_work (record { history = h; looks = looks }) a dids
          ≡ with_step (record { history = h; looks = looks }) a (fresh_reads plan h (scene_of p plan h a)) (step_of_dids a dids)
      same [] = refl
      same (d ∷ ds) = refl

  late_attempt : (looks : ℕ → Option (List ℕ)) (look : Option (List ℕ)) → has_attempted (own_entries h a) ≡ false → has_worked (own_entries h a) ≡ true → looks a ≡ look
      → done looks (late_step (own_entries h a) (looks a)) ≡ done looks (step_behind_unit look)
  late_attempt looks look attempted has is_look =
      ap₂ (λ b c. done looks (cond b over (cond c (step_behind_unit (looks a)) working))) attempted has
      ∙ ap (λ (l : Option (List ℕ)). done looks (step_behind_unit l)) is_look

  pub late_look : has_attempted (own_entries h a) ≡ false → has_worked (own_entries h a) ≡ true → IsLateStepOf p plan h a None next.Looks
  late_look attempted has looks is_look = late_attempt looks None attempted has is_look

  pub late_entry : (reads : List ℕ) (e : Entry) → has_attempted (own_entries h a) ≡ false → has_worked (own_entries h a) ≡ true
      → e ≡ attempt_of p plan (after p plan h) (values_at p plan h reads) a reads → IsLateStepOf p plan h a (Some reads) (next.Adds e)
  unfolding scene_of
  late_entry reads e attempted has is looks is_look =
      late_attempt looks (Some reads) attempted has is_look ∙ ap (with_entry (record { history = h; looks = looks })) (sym is)

  -- what may be said of the unit is legal
  pub work_may : (dids : List Did) → (worked p plan (round_of h) (after p plan h a)).dids ≡ dids → 0 < rounds_begun h → a < plan.cores → HasLetIn plan h a → OwesUnit p plan h a
      → MayAdd p plan h (step_of_dids a dids)
  unfolding LegalNext
  work_may [] is begun there entered owes = tt
  work_may (d ∷ ds) is begun there entered owes =
      work_legal p plan h a d begun there entered owes (subst (λ (list : List Did). Contains list d) (sym is) (0, omega arith, refl))

  pub enter_may : (thread at : ℕ) (fresh reads : List ℕ) → reads ≡ placement_by p.place fresh → ReadsFit plan.cores (round_start h) (length h) fresh → 0 < rounds_begun h → a < plan.cores
      → Some thread ≡ option_map (λ (t : Planned). t.id) (entering_next plan (round_of h) a (own_entries h a))
      → target_of p plan.cores (values_at p plan h reads) a ≡ Some at → LegalNext p plan h (entry.Enter thread a at reads)
  unfolding LegalNext scene_of
  enter_may thread at fresh reads is_read fit begun there is target =
      enter_legal p plan h a thread at reads (Some at)
      (subst (PlacementReads p.place plan (scene_of p plan h a)) (sym is_read) (placement_fit p.place plan (scene_of p plan h a) fresh fit), target)
      begun there (some_named thread (entering_next plan (round_of h) a (own_entries h a)) is) refl

  pub wake_may : (thread at : ℕ) (fresh reads : List ℕ) → reads ≡ placement_by p.place fresh → ReadsFit plan.cores (round_start h) (length h) fresh → 0 < rounds_begun h → a < plan.cores
      → HasLetIn plan h a → Some thread ≡ option_map (λ (b : Blocked). b.task.id) (waking_next (round_of h) (after p plan h a))
      → target_of p plan.cores (values_at p plan h reads) a ≡ Some at → LegalNext p plan h (entry.Wake thread a at reads)
  unfolding LegalNext scene_of
  wake_may thread at fresh reads is_read fit begun there entered is target =
      wake_legal p plan h a thread at reads (Some at)
      (subst (PlacementReads p.place plan (scene_of p plan h a)) (sym is_read) (placement_fit p.place plan (scene_of p plan h a) fresh fit), target)
      begun there entered (some_blocked thread (waking_next (round_of h) (after p plan h a)) is) refl

  pub attempt_may : (reads : List ℕ) (x : Attempt) → ReadsFit plan.cores (round_start h) (length h) reads
      → attempt_of p plan (after p plan h) (values_at p plan h reads) a reads ≡ entry_of_attempt a reads x → 0 < rounds_begun h → a < plan.cores → OwesAttempt h a
      → LegalNext p plan h (entry_of_attempt a reads x)
  unfolding LegalNext
  attempt_may reads x fit is begun there owes = as_next x (attempt_legal p plan h a reads x (Some x) (fit, is) begun there owes refl)
    where
      as_next : (y : Attempt) → LegalInRound p plan h a (entry_of_attempt a reads y) → LegalNext p plan h (entry_of_attempt a reads y)
      as_next attempt.Pass legal = legal
      as_next (attempt.Fail from) legal = legal
      as_next (attempt.Steal from thread) legal = legal

-- nothing is found where no number is
pub none_entering : (found : Option Planned) → None ≡ option_map (λ (t : Planned). t.id) found → found ≡ None
none_entering None is = refl
none_entering (Some t) is = absurd (cc)

pub none_waking : (found : Option Blocked) → None ≡ option_map (λ (b : Blocked). b.task.id) found → found ≡ None
none_waking None is = refl
none_waking (Some b) is = absurd (cc)

pub is_none : {X : Type 0} (found : Option X) → found ≡ None → IsNone found
is_none None is = refl
is_none (Some x) is = absurd (cc)
