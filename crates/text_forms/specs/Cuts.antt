-- Texts that are cut at a byte.
use Rattle.std.specs.Prelude.{◌≡◌, ◌≢◌, ℕ, ◌==◌, Bool, List, [], ◌∷◌, ◌++◌, All}

abbrev pub is_byte : ℕ → ℕ → Bool
is_byte byte other = other == byte

-- the byte doesn't stand in the text
abbrev pub Lacks : ℕ → List ℕ → Type 0
Lacks byte text = All (λ other. other ≢ byte) text

-- the text begins with the byte, or is empty
abbrev pub StartsWith : ℕ → List ℕ → Type 0
StartsWith byte [] = Unit {0}
StartsWith byte (first ∷ rest) = first ≡ byte

-- the text before the first such byte, and behind it
pub record IsCut (byte : ℕ) (text before behind : List ℕ) : Type 0 where
  pub whole : text ≡ before ++ byte ∷ behind
  pub first : Lacks byte before
