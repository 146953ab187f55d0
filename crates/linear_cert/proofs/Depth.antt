-- How deep splits may stand. For whoever makes certificates.
use Rattle.std.proofs.Common.{ℕ, ◌≤◌, ◌-◌, arith}
use Rattle.linear_cert.specs.Right.{CertTree, leaf, split, SplitsAtMost}

-- a greater limit
pub splits_within : (tree : CertTree) (few many : ℕ) → few ≤ many → SplitsAtMost few tree → SplitsAtMost many tree
splits_within (leaf mults) few many le within = tt
splits_within (split variable at left right) few many le (some, within_left, within_right) =
    (omega arith, splits_within left (few - 1) (many - 1) (omega arith) within_left, splits_within right (few - 1) (many - 1) (omega arith) within_right)
