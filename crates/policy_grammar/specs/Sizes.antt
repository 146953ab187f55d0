-- The limits of policies and of level texts, said a second time, so that none is changed by a slip.
use Rattle.std.specs.Prelude.{◌≡◌}
use Rattle.policy_grammar.specs.declared.limits.TheConstants.{POLICY_LIMITS}

-- each limit is this number
pub record PolicyLimitsAreSaid : Type 0 where
  pub attrs : POLICY_LIMITS.attrs ≡ 8
  pub cases : POLICY_LIMITS.cases ≡ 8
  pub sets : POLICY_LIMITS.sets ≡ 8
  pub keys : POLICY_LIMITS.keys ≡ 4
  pub comparisons : POLICY_LIMITS.comparisons ≡ 16
  pub operators : POLICY_LIMITS.operators ≡ 32
  pub nesting : POLICY_LIMITS.nesting ≡ 32
  pub levels : POLICY_LIMITS.levels ≡ 3
  pub level_comparisons : POLICY_LIMITS.level_comparisons ≡ 3
  pub level_keys : POLICY_LIMITS.level_keys ≡ 2
