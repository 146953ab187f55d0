-- What a part of the printer adds.
use Rattle.std.specs.Prelude.{ℕ, ◌≡◌, List, [], ◌∷◌, ◌++◌}
use Rattle.c_printer.specs.declared.printer.Printer.{Printer}

-- the pieces, one right behind the other
abbrev pub glued : List (List ℕ) → List ℕ
glued [] = []
glued (text ∷ rest) = text ++ glued rest

-- the bytes have gained these pieces
pub record Adds (texts : List (List ℕ)) (before after : List ℕ) : Type 0 where
  pub is : after ≡ before ++ glued texts

-- the printer has gained them
abbrev pub Prints : List (List ℕ) → Printer → Printer → Type 0
Prints texts before after = Adds texts before.bytes.items after.bytes.items
