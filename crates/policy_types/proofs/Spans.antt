-- Faults in the order of their tokens, from one token up to another.
use Rattle.std.proofs.Common.{◌≡◌, ◌≢◌, ◌⊎◌, inl, inr, ℕ, ◌+◌, ◌^◌, ◌<◌, ◌≤◌, Bool, true, false, List, [], ◌∷◌, ◌++◌, All, refl, subst, arith, Some}
use Rattle.std.proofs.lemmas.List.Elements.{All-cons, All-nil}
use Rattle.policy_types.specs.declared.fault.TypeFault.{TypeFault}
use Rattle.policy_types.specs.declared.fault.TypeFault.TheVariants.{Unknown, Twice, NotLinear, NotHere, BadRange, Big, Memory}
use Rattle.policy_types.specs.Correct.{IsLeast, token_of}
use Rattle.policy_types.specs.Faults.{IsFirst, behind, first_of, where_broken}

-- no token falls behind the one before it
abbrev Rises : ℕ → List TypeFault → Type 0
Rises at [] = Unit {0}
Rises at (fault ∷ rest) = (at ≤ token_of fault) × Rises (token_of fault) rest

abbrev AreBelow : ℕ → List TypeFault → Type 0
AreBelow to [] = Unit {0}
AreBelow to (fault ∷ rest) = (token_of fault < to) × AreBelow to rest

pub record Spans (from to : ℕ) (xs : List TypeFault) : Type 0 where
  pub ordered : from ≤ to
  pub rises : Rises from xs
  pub below : AreBelow to xs

rises_from : (a b : ℕ) (xs : List TypeFault) → a ≤ b → Rises b xs → Rises a xs
rises_from a b [] less is = tt
rises_from a b (x ∷ xs) less is = let here = is.0 in (omega arith, is.1)

below_wider : (a b : ℕ) (xs : List TypeFault) → a ≤ b → AreBelow a xs → AreBelow b xs
below_wider a b [] less is = tt
below_wider a b (x ∷ xs) less is = let here = is.0 in (omega arith, below_wider a b xs less is.1)

rises_append : (a m : ℕ) (xs ys : List TypeFault) → a ≤ m → Rises a xs → AreBelow m xs → Rises m ys → Rises a (xs ++ ys)
rises_append a m [] ys less is below later = rises_from a m ys less later
rises_append a m (x ∷ xs) ys less is below later =
    let here = below.0 in (is.0, rises_append (token_of x) m xs ys (omega arith) is.1 below.1 later)

below_append : (m : ℕ) (xs ys : List TypeFault) → AreBelow m xs → AreBelow m ys → AreBelow m (xs ++ ys)
below_append m [] ys is later = later
below_append m (x ∷ xs) ys is later = (is.0, below_append m xs ys is.1 later)

pub spans_none : (from to : ℕ) → from ≤ to → Spans from to []
spans_none from to less = record { ordered = less; rises = tt; below = tt }

pub spans_one : (from to : ℕ) (fault : TypeFault) → from ≤ token_of fault → token_of fault < to → Spans from to (fault ∷ [])
spans_one from to fault low high = record { ordered = omega arith; rises = (low, tt); below = (high, tt) }

pub spans_where : (from to : ℕ) (b : Bool) (fault : TypeFault) → from ≤ token_of fault → token_of fault < to → Spans from to (where_broken b fault)
spans_where from to true fault low high = spans_one from to fault low high
spans_where from to false fault low high = spans_none from to (omega arith)

pub spans_append : (from mid to : ℕ) (xs ys : List TypeFault) → Spans from mid xs → Spans mid to ys → Spans from to (xs ++ ys)
spans_append from mid to xs ys first later =
    let a = first.ordered in let b = later.ordered in record {
      ordered = omega arith;
      rises = rises_append from mid xs ys a first.rises first.below later.rises;
      below = below_append to xs ys (below_wider mid to xs b first.below) later.below;
    }

pub spans_wider : (from low high to : ℕ) (xs : List TypeFault) → from ≤ low → high ≤ to → Spans low high xs → Spans from to xs
spans_wider from low high to xs less more is = let a = is.ordered in record {
  ordered = omega arith;
  rises = rises_from from low xs less is.rises;
  below = below_wider high to xs more is.below;
}

-- a token that there is
pub behind_is : (at more : ℕ) → at + more < 2 ^ 32 → behind at more ≡ at + more
behind_is at more fits = omega arith

rises_all : (at : ℕ) (xs : List TypeFault) → Rises at xs → All (λ g. at ≤ token_of g) xs
rises_all at [] is = All-nil (λ g. at ≤ token_of g)
rises_all at (x ∷ xs) is = All-cons (λ g. at ≤ token_of g) x xs is.0 (rises_all at xs (rises_from at (token_of x) xs is.0 is.1))

least_of : (from : ℕ) (xs : List TypeFault) (fault : TypeFault) → Rises from xs → first_of xs ≡ Some fault → IsLeast xs fault
least_of from [] fault is first = absurd (cc)
least_of from (x ∷ xs) fault is first =
    let same : x ≡ fault = cc in
    subst (λ f. All (λ g. token_of f ≤ token_of g) (x ∷ xs)) same
    (All-cons (λ g. token_of x ≤ token_of g) x xs (omega arith) (rises_all (token_of x) xs is.1))

nothing_less : (xs : List TypeFault) → All (λ g. 0 ≤ token_of g) xs
nothing_less xs k d inside = omega arith

-- the first in the order of the tokens has the least token
pub first_least : (from to : ℕ) (xs : List TypeFault) (fault : TypeFault) → Spans from to xs → IsFirst xs fault → IsLeast xs fault
first_least from to xs (Unknown at) is first = least_of from xs (Unknown at) is.rises first
first_least from to xs (Twice at) is first = least_of from xs (Twice at) is.rises first
first_least from to xs (NotLinear at) is first = least_of from xs (NotLinear at) is.rises first
first_least from to xs (NotHere at) is first = least_of from xs (NotHere at) is.rises first
first_least from to xs (BadRange at) is first = least_of from xs (BadRange at) is.rises first
first_least from to xs (Big at) is first = least_of from xs (Big at) is.rises first
first_least from to xs Memory is first = nothing_less xs

-- a fault behind the first token is no want of memory
pub first_real : (to : ℕ) (fault : TypeFault) (rest : List TypeFault) → Spans 1 to (fault ∷ rest) → IsFirst (fault ∷ rest) fault × (fault ≢ Memory)
first_real to (Unknown at) rest is = (refl, λ e. cc)
first_real to (Twice at) rest is = (refl, λ e. cc)
first_real to (NotLinear at) rest is = (refl, λ e. cc)
first_real to (NotHere at) rest is = (refl, λ e. cc)
first_real to (BadRange at) rest is = (refl, λ e. cc)
first_real to (Big at) rest is = (refl, λ e. cc)
first_real to Memory rest is = let least = is.rises.0 in absurd (omega arith)

-- faults in order are none, or there is a first one, which has the least token and is no want of memory
pub first_answer : (to : ℕ) (faults : List TypeFault) → Spans 1 to faults
    → (faults ≡ []) ⊎ ((fault : TypeFault) × IsFirst faults fault × IsLeast faults fault × (fault ≢ Memory))
first_answer to [] is = inl refl
first_answer to (fault ∷ rest) is =
    let real = first_real to fault rest is in
    inr (fault, real.0, first_least 1 to (fault ∷ rest) fault is real.0, real.1)
