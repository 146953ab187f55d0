use Rattle.std.proofs.Common.{◌+◌, subst, sym, arith}
use Rattle.std.proofs.lemmas.Grind.{common_steps}
use Rattle.serial_tests.specs.Drawn.{AreMembers, IsMember}
use Rattle.serial_tests.proofs.Drawing.{one_more}
use Rattle.serial_tests.proofs.plans.members.Goals as goal

pub loop-at-preserved : goal.loop-at-preserved
loop-at-preserved c = record {
  count = grind (arith, common_steps);
  long = grind (arith, common_steps);
  each = subst (AreMembers c.args.cores) (sym c.in_ok-push.ensures.items)
      (one_more c.args.cores c.loop-at.threads.items c.in_ok-member.field-0 c.loop-at.invariant.each
      (subst (λ k. IsMember c.args.cores (k + 1) c.in_ok-member.field-0) (sym c.loop-at.invariant.count) c.in_ok-member.ensures));
}
