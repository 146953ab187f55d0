-- What a part of the printer adds.
use Rattle.std.specs.Prelude.{ℕ, ◌≡◌, List, [], ◌∷◌, ◌++◌}
use Rattle.policy_printer.specs.declared.printer.Printer.{Printer}

-- the tokens with a space before each
abbrev pub spaced : List (List ℕ) → List ℕ
spaced [] = []
spaced (text ∷ rest) = 32 ∷ (text ++ spaced rest)

-- the bytes have gained these tokens
pub record Adds (texts : List (List ℕ)) (before after : List ℕ) : Type 0 where
  pub is : after ≡ before ++ spaced texts

-- the printer has gained them
abbrev pub Prints : List (List ℕ) → Printer → Printer → Type 0
Prints texts before after = Adds texts before.bytes.items after.bytes.items
