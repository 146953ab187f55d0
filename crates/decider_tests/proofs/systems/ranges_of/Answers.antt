use Rattle.std.proofs.Common.{arith}
use Rattle.std.proofs.lemmas.List.Elements.{All-push}
use Rattle.linear_form.specs.System.{IsBound}
use Rattle.decider_tests.proofs.systems.ranges_of.Goals as goal

pub loop-lo-preserved : goal.loop-lo-preserved
loop-lo-preserved c = record {
  fit = rw c.in_ok-push.ensures.items (All-push IsBound c.loop-lo.list.items c.in-Some.range c.loop-lo.invariant.fit c.in-Some.ensures);
  count = omega (arith, c.in_ok-push.ensures.len);
}
