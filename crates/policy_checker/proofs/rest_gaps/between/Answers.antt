-- Where it isn't known of the gap in the middle, it is less than the one that is left.
use Rattle.std.proofs.Common.{◌+◌, ◌-◌, ◌/◌, subst, arith}
use Rattle.policy_tree.specs.Meaning.{meaning_of}
use Rattle.policy_checker.specs.RestGaps.{IsAsked, IsToldOf}
use Rattle.policy_checker.proofs.rest_gaps.between.Goals as goal

pub returns-in-Open-clause-found : goal.returns-in-Open-clause-found
returns-in-Open-clause-found c =
    let middle = c.loop-passed.passed.gap + (c.loop-passed.left - c.loop-passed.passed.gap) / 2 in
    let less = c.loop-passed.invariant.less in
    record {
      unknown = subst (IsAsked (meaning_of c.args.policy.now) c.args.budget middle) c.in-Open.is c.in_ok-ask.ensures.found;
      leaves = c.loop-passed.invariant.left;
      greater = omega (arith, less);
    }

pub returns-in-Open-clause-decided : goal.returns-in-Open-clause-decided
returns-in-Open-clause-decided c form = subst IsToldOf c.in-Open.is (c.in_ok-ask.ensures.decided form)
