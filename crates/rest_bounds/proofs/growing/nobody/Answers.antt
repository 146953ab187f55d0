use Rattle.std.proofs.Common.{arith, subst, sym}
use Rattle.policy_eval.specs.Ranges.{AreIn, wide_ranges}
use Rattle.rest_bounds.proofs.Taken.{pair_wide}
use Rattle.rest_bounds.proofs.growing.nobody.Goals as goal

pub returns-clause-wide : goal.returns-clause-wide
returns-clause-wide c = subst (AreIn wide_ranges) (sym c.of_pair.ensures) (pair_wide 0 0 0 0 (omega arith) (omega arith) (omega arith) (omega arith))
