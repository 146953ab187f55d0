-- What answers that which a turn asks is what it may be told next.
use Rattle.std.proofs.Common.{◌≡◌, ◌⊎◌, ⊎_elim, inl, inr, ℕ, zero, suc, ◌<◌, ◌≤◌, ◌↔◌, List, [], ◌∷◌, length, option_map, Some, None, refl, sym, subst, arith}
use Rattle.std.specs.Prelude.{slice_get}
use Rattle.turn_steps.specs.declared.asking.Ask.TheVariants as ask
use Rattle.turn_steps.specs.declared.asking.Told.{Told}
use Rattle.turn_steps.specs.declared.asking.Told.TheVariants as told
use Rattle.turn_steps.specs.declared.reached.Reached.TheVariants as reached
use Rattle.turn_steps.specs.Answers.{Answers, Awaits}
use Rattle.turn_steps.specs.States.{TurnState}

-- an item that is found in a place is in the list, and behind the list none is found
pub is_inside : {X : Type 0} (f : X → ℕ) (xs : List X) (n found : ℕ) → Some found ≡ option_map f (slice_get xs n) → n < length xs
is_inside f [] n found is = absurd (cc)
is_inside f (x ∷ xs) zero found is = omega arith
is_inside f (x ∷ xs) (suc n) found is = let rest = is_inside f xs n found is in omega arith

pub is_outside : {X : Type 0} (f : X → ℕ) (xs : List X) (n : ℕ) → None ≡ option_map f (slice_get xs n) → length xs ≤ n
is_outside f [] n is = omega arith
is_outside f (x ∷ xs) zero is = absurd (cc)
is_outside f (x ∷ xs) (suc n) is = let rest = is_outside f xs n is in omega arith

module _ (t : TurnState) where
  -- a thread is left to enter
  pub awaits_arrival : t.reached ≡ reached.Threads → t.arrived < t.entering → (thread : ℕ) (answer : Told) → Answers (ask.Arrive thread) answer ↔ Awaits t answer
  awaits_arrival is left thread answer = ((λ e. subst (Awaits t) (sym e) (is, left)), back answer)
    where
      back : (answer : Told) → Awaits t answer → answer ≡ told.Arrived
      back told.Arrived w = refl
      back told.Woke w = absurd (omega (arith, left, w.1))
      back told.NothingDue w = absurd (omega (arith, left, w.1))
      back (told.Worked did) w = absurd (cc)
      back (told.Looked look) w = let r = w.1 in absurd (cc)
      back told.Acted w = let r = w.2 in absurd (cc)

  -- all have entered
  pub awaits_waking : t.reached ≡ reached.Threads → t.arrived ≡ t.entering → (answer : Told) → Answers ask.Wake answer ↔ Awaits t answer
  awaits_waking is all answer = (⊎_elim (λ e. subst (Awaits t) (sym e) (is, all)) (λ e. subst (Awaits t) (sym e) (is, all)), back answer)
    where
      back : (answer : Told) → Awaits t answer → (answer ≡ told.Woke) ⊎ (answer ≡ told.NothingDue)
      back told.Arrived w = absurd (omega (arith, all, w.1))
      back told.Woke w = inl refl
      back told.NothingDue w = inr refl
      back (told.Worked did) w = absurd (cc)
      back (told.Looked look) w = let r = w.1 in absurd (cc)
      back told.Acted w = let r = w.2 in absurd (cc)
