-- What was added behind what an object told, where it tells that.
use Rattle.std.specs.Prelude.{◌≡◌, ◌≢◌, ℕ, List, [], ◌++◌, Option, Some, None}

-- Exactly these items were added, where the items so far are told now; they then were told before.
abbrev pub Grows : {X : Type 0} → List X → Option (List X) → Option (List X) → Type 0
Grows items before None = Unit {0}
Grows items None (Some after) = ⊥
Grows items (Some before) (Some after) = after ≡ before ++ items

-- exactly these bytes were added
abbrev pub Adds : List ℕ → Option (List ℕ) → Option (List ℕ) → Type 0
Adds bytes before after = Grows bytes before after

-- A front of these bytes that isn't all of them was added, and nothing else.
abbrev pub AddsPart : List ℕ → Option (List ℕ) → Option (List ℕ) → Type 0
AddsPart bytes before after = (front rest : List ℕ) × (rest ≢ []) × (bytes ≡ front ++ rest) × Adds front before after
