-- The sizes of elimination, said a second time, so that none is changed by a slip.
use Rattle.std.specs.Prelude.{◌≡◌, ◌^◌}
use Rattle.linear_solver.specs.declared.derived.TheConstants.{MAX_DERIVED, MAX_MULTIPLIER}
use Rattle.linear_solver.specs.declared.factors.TheConstants.{MAX_NUMBER}

-- each is this number
pub record SizesAreSaid : Type 0 where
  pub derived : MAX_DERIVED ≡ 1024
  pub multiplier : MAX_MULTIPLIER ≡ 2 ^ 48
  pub number : MAX_NUMBER ≡ 2 ^ 62
