-- What it is for an entry of one core to be legal, part by part.
use Rattle.std.proofs.Common.{◌≡◌, ℕ, ◌<◌, Bool, true, false, not, eqb, List, Option, Some, None, IsSomeAnd, IsTrue, is_some, option_map, refl, sym, ap, ◌∙◌, subst, arith}
use Rattle.std.specs.Option.{option_eq}
use Rattle.std.proofs.lemmas.Bool.{false≢true}
use Rattle.std.proofs.lemmas.Bool.Decides.{nat_tests}
use Rattle.policy_tree.specs.Meaning.{Meaning}
use Rattle.round_model.specs.declared.attempt.Attempt.{Attempt}
use Rattle.round_model.specs.declared.attempt.Attempt.TheVariants as attempt
use Rattle.round_model.specs.declared.entry.Did.{Did}
use Rattle.round_model.specs.declared.entry.Entry.{Entry}
use Rattle.round_model.specs.declared.entry.Entry.TheVariants as entry
use Rattle.round_model.specs.declared.plan.Plan.{Plan}
use Rattle.round_model.specs.declared.plan.Planned.{Planned}
use Rattle.round_model.specs.declared.state.Blocked.{Blocked}
use Rattle.round_model.specs.After.{after, round_of}
use Rattle.round_model.specs.Choices.{target_of}
use Rattle.round_model.specs.Legal.{LegalInRound, rounds_begun}
use Rattle.round_model.specs.Outcomes.{IsAttemptBy, IsPlacedBy, entry_of_attempt, values_at}
use Rattle.round_model.specs.Progress.{HasLetIn, OwesAttempt, OwesUnit}
use Rattle.round_model.specs.Rows.{LegalAttempt, LegalEnter, LegalWake, LegalWork, PlacementReads, Row}
use Rattle.round_model.specs.Scenes.{entering_next, own_entries, scene_of, waking_next}
use Rattle.round_model.specs.Work.{IsOutcomeOfWork}

-- what can't be isn't legal
pub refuted : {L : Type 0} → (L → ⊥) → (IsTrue false → L) × (L → IsTrue false)
refuted never = (λ e. absurd (false≢true e), λ l. absurd (never l))

-- a thread of that number is the one that is found
pub some_named : (id : ℕ) (found : Option Planned) → Some id ≡ option_map (λ (t : Planned). t.id) found → IsSomeAnd found (λ t. t.id ≡ id)
some_named id None is = absurd (cc)
some_named id (Some t) is = cc

pub named_some : (id : ℕ) (found : Option Planned) → IsSomeAnd found (λ t. t.id ≡ id) → option_map (λ (t : Planned). t.id) found ≡ Some id
named_some id None is = absurd is
named_some id (Some t) is = ap Some is

pub some_blocked : (id : ℕ) (found : Option Blocked) → Some id ≡ option_map (λ (b : Blocked). b.task.id) found → IsSomeAnd found (λ b. b.task.id ≡ id)
some_blocked id None is = absurd (cc)
some_blocked id (Some b) is = cc

pub blocked_some : (id : ℕ) (found : Option Blocked) → IsSomeAnd found (λ b. b.task.id ≡ id) → option_map (λ (b : Blocked). b.task.id) found ≡ Some id
blocked_some id None is = absurd is
blocked_some id (Some b) is = ap Some is

module _ (p : Meaning) (plan : Plan) (history : List Entry) (by : ℕ) where
  -- an Enter that is legal
  pub enter_parts : (thread at : ℕ) (reads : List ℕ) → LegalInRound p plan history by (entry.Enter thread by at reads)
      → LegalEnter p plan (scene_of p plan history by) thread by at reads
  unfolding Row
  enter_parts thread at reads legal = legal.row

  pub wake_parts : (thread at : ℕ) (reads : List ℕ) → LegalInRound p plan history by (entry.Wake thread by at reads)
      → LegalWake p plan (scene_of p plan history by) thread by at reads
  unfolding Row
  wake_parts thread at reads legal = legal.row

  pub work_parts : (did : Did) → LegalInRound p plan history by (entry.Work by did) → LegalWork p plan (scene_of p plan history by) by did
  unfolding Row
  work_parts did legal = legal.row

  pub attempt_parts : (reads : List ℕ) (x : Attempt) → LegalInRound p plan history by (entry_of_attempt by reads x)
      → LegalAttempt p plan (scene_of p plan history by) by reads (entry_of_attempt by reads x)
  unfolding Row
  attempt_parts reads attempt.Pass legal = legal.row
  attempt_parts reads (attempt.Fail from) legal = legal.row
  attempt_parts reads (attempt.Steal from thread) legal = legal.row

  pub attempt_whole : (reads : List ℕ) (x : Attempt) → 0 < rounds_begun history → LegalAttempt p plan (scene_of p plan history by) by reads (entry_of_attempt by reads x)
      → LegalInRound p plan history by (entry_of_attempt by reads x)
  unfolding Row
  attempt_whole reads attempt.Pass begun parts = record { begun = begun; row = parts }
  attempt_whole reads (attempt.Fail from) begun parts = record { begun = begun; row = parts }
  attempt_whole reads (attempt.Steal from thread) begun parts = record { begun = begun; row = parts }

  -- the reads and the target of a placement, by what was computed
  placed_at : (at : ℕ) (reads : List ℕ) (placed : Option ℕ) → IsPlacedBy p plan history by reads placed
      → PlacementReads p.place plan (scene_of p plan history by) reads → target_of p plan.cores (values_at p plan history reads) by ≡ Some at → placed ≡ Some at
  placed_at at reads None is read target = absurd (is read)
  placed_at at reads (Some found) is read target = sym is.1 ∙ target

  pub enter_legal : (thread at : ℕ) (reads : List ℕ) (placed : Option ℕ) → IsPlacedBy p plan history by reads placed → 0 < rounds_begun history → by < plan.cores
      → IsSomeAnd (entering_next plan (round_of history) by (own_entries history by)) (λ t. t.id ≡ thread)
      → placed ≡ Some at → LegalInRound p plan history by (entry.Enter thread by at reads)
  unfolding Row scene_of
  enter_legal thread at reads placed is begun there next e =
      let right = subst (IsPlacedBy p plan history by reads) e is in
      record { begun = begun; row = record { core = there; next = next; placement = record { read = right.0; target = right.1 } } }

  pub enter_placed : (thread at : ℕ) (reads : List ℕ) (placed : Option ℕ) → IsPlacedBy p plan history by reads placed
      → LegalInRound p plan history by (entry.Enter thread by at reads) → placed ≡ Some at
  unfolding scene_of
  enter_placed thread at reads placed is legal =
      let parts = enter_parts thread at reads legal in placed_at at reads placed is parts.placement.read parts.placement.target

  pub wake_legal : (thread at : ℕ) (reads : List ℕ) (placed : Option ℕ) → IsPlacedBy p plan history by reads placed → 0 < rounds_begun history → by < plan.cores
      → HasLetIn plan history by → IsSomeAnd (waking_next (round_of history) (after p plan history by)) (λ b. b.task.id ≡ thread)
      → placed ≡ Some at → LegalInRound p plan history by (entry.Wake thread by at reads)
  unfolding Row scene_of
  wake_legal thread at reads placed is begun there entered next e =
      let right = subst (IsPlacedBy p plan history by reads) e is in
      record { begun = begun; row = record { core = there; entered = entered; next = next; placement = record { read = right.0; target = right.1 } } }

  pub wake_placed : (thread at : ℕ) (reads : List ℕ) (placed : Option ℕ) → IsPlacedBy p plan history by reads placed
      → LegalInRound p plan history by (entry.Wake thread by at reads) → placed ≡ Some at
  unfolding scene_of
  wake_placed thread at reads placed is legal =
      let parts = wake_parts thread at reads legal in placed_at at reads placed is parts.placement.read parts.placement.target

  pub work_legal : (did : Did) → 0 < rounds_begun history → by < plan.cores → HasLetIn plan history by → OwesUnit p plan history by
      → IsOutcomeOfWork p plan (round_of history) (after p plan history by) did → LegalInRound p plan history by (entry.Work by did)
  unfolding Row scene_of
  work_legal did begun there entered owes outcome =
      record { begun = begun; row = record { core = there; entered = entered; woken = owes.woken; first = owes.first; outcome = outcome } }

  -- an entry says what attempt it is of
  same_attempt : (reads : List ℕ) (x y : Attempt) → entry_of_attempt by reads x ≡ entry_of_attempt by reads y → x ≡ y
  same_attempt reads attempt.Pass attempt.Pass e = refl
  same_attempt reads attempt.Pass (attempt.Fail f) e = absurd (cc)
  same_attempt reads attempt.Pass (attempt.Steal f t) e = absurd (cc)
  same_attempt reads (attempt.Fail f) attempt.Pass e = absurd (cc)
  same_attempt reads (attempt.Fail f) (attempt.Fail g) e = let same : f ≡ g = cc in ap attempt.Fail same
  same_attempt reads (attempt.Fail f) (attempt.Steal g t) e = absurd (cc)
  same_attempt reads (attempt.Steal f t) attempt.Pass e = absurd (cc)
  same_attempt reads (attempt.Steal f t) (attempt.Fail g) e = absurd (cc)
  same_attempt reads (attempt.Steal f t) (attempt.Steal g u) e = let victim : f ≡ g = cc in let thread : t ≡ u = cc in cc

  pub attempt_legal : (reads : List ℕ) (x : Attempt) (made : Option Attempt) → IsAttemptBy p plan history by reads made → 0 < rounds_begun history → by < plan.cores
      → OwesAttempt history by → made ≡ Some x → LegalInRound p plan history by (entry_of_attempt by reads x)
  unfolding scene_of
  attempt_legal reads x made is begun there owes e =
      let right = subst (IsAttemptBy p plan history by reads) e is in
      attempt_whole reads x begun (record { core = there; worked = owes.worked; first = owes.first; read = right.0; outcome = sym right.1 })

  pub attempt_made : (reads : List ℕ) (x : Attempt) (made : Option Attempt) → IsAttemptBy p plan history by reads made
      → LegalInRound p plan history by (entry_of_attempt by reads x) → made ≡ Some x
  unfolding scene_of
  attempt_made reads x None is legal = absurd (is (attempt_parts reads x legal).read)
  attempt_made reads x (Some y) is legal = ap Some (same_attempt reads y x (sym is.1 ∙ sym (attempt_parts reads x legal).outcome))

-- what a comparison with a number says
pub option_is : (o : Option ℕ) (k : ℕ) → option_eq eqb o (Some k) ≡ true → o ≡ Some k
option_is None k e = absurd (false≢true e)
option_is (Some x) k e = let same : x ≡ k = grind (arith, nat_tests) in ap Some same

pub is_option : (o : Option ℕ) (k : ℕ) → o ≡ Some k → option_eq eqb o (Some k) ≡ true
is_option None k e = absurd (cc)
is_option (Some x) k e = let same : x ≡ k = cc in grind (arith, nat_tests)

pub is_unless_ne : (o : Option ℕ) (k : ℕ) (ne : Bool) → ne ≡ not (option_eq eqb o (Some k)) → ne ≡ false → o ≡ Some k
is_unless_ne o k ne is false_ne = option_is o k (not_false (option_eq eqb o (Some k)) (sym is ∙ false_ne))
  where
    not_false : (b : Bool) → not b ≡ false → b ≡ true
    not_false true e = refl
    not_false false e = absurd (cc)

pub isnt_if_ne : (o : Option ℕ) (k : ℕ) (ne : Bool) → ne ≡ not (option_eq eqb o (Some k)) → ne ≡ true → o ≡ Some k → ⊥
isnt_if_ne o k ne is true_ne e = false≢true (sym (ap not (is_option o k e)) ∙ (sym is ∙ true_ne))

-- what is there of a changed value
pub is_some-map : {X Y : Type 0} (f : X → Y) (o : Option X) → is_some (option_map f o) ≡ is_some o
is_some-map f None = refl
is_some-map f (Some x) = refl
