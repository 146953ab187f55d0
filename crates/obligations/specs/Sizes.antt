-- The sizes that clauses name, said a second time, so that none is changed by a slip.
use Rattle.std.specs.Prelude.{◌≡◌}
use Rattle.obligations.specs.declared.counts.TheConstants.{MAX_COUNT}
use Rattle.obligations.specs.declared.names.TheConstants.{OB_NAME_ROOM}

-- each is this number
pub record SizesAreSaid : Type 0 where
  pub count : MAX_COUNT ≡ 65535
  pub name : OB_NAME_ROOM ≡ 10
