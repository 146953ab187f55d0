-- An item that a list lends.
use Rattle.std.specs.Prelude.{ℕ, List, slice_set}
use Rattle.std.specs.Borrow.{Fml, Lends, MutBor, RattleType}
use Rattle.lists.specs.contracts.Items.{the_row}

-- what the borrower leaves in that place is what the list has there; its other items stay
abbrev pub lends_item : (T : RattleType) → MutBor (List T.Denot) → ℕ → MutBor T.Denot → Fml
lends_item T list at r = Lends (the_row T) T list r (slice_set list.now at)
