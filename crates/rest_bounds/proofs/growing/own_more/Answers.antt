use Rattle.std.proofs.Common.{ap, arith, subst, sym, ◌∙◌}
use Rattle.policy_eval.specs.declared.env.CoreValues.{CoreValues}
use Rattle.policy_eval.specs.Ranges.{AreIn, wide_ranges}
use Rattle.policy_eval.specs.Sights.{pair_values}
use Rattle.rest_bounds.specs.Following.{with_load}
use Rattle.rest_bounds.proofs.Taken.{pair_wide}
use Rattle.rest_bounds.proofs.growing.own_more.Goals as goal

pub returns-clause-wide : goal.returns-clause-wide
returns-clause-wide c =
    subst (AreIn wide_ranges) (sym (c.of_pair.ensures ∙ ap (λ (own : CoreValues). pair_values own (with_load 0 0)) c.with_one.ensures))
    (pair_wide 1 c.args.weight 0 0 (omega arith) (omega arith) (omega arith) (omega arith))
