use Rattle.std.proofs.Common.{◌+◌, ◌%◌, ◌<◌, subst, sym, arith}
use Rattle.std.proofs.Math.Nat.{mod-lt}
use Rattle.std.proofs.lemmas.Grind.{common_steps}
use Rattle.round_model.specs.declared.plan.Planned.{Planned}
use Rattle.table_players.specs.Crowds.{IsMember}
use Rattle.table_players.proofs.Pushing.{each_pushed}
use Rattle.table_players.proofs.crowds.members.Goals as goal

pub loop-at-preserved : goal.loop-at-preserved
loop-at-preserved c = record {
  count = grind (arith, common_steps);
  long = grind (arith, common_steps);
  each = each_pushed (λ k (t : Planned). IsMember c.args.cores (k + 1) t) c.loop-at.threads.items c.push.new.self.items c.in_ok-member.field-0 c.in_ok-push.ensures.items c.loop-at.invariant.each
      (subst (λ k. IsMember c.args.cores (k + 1) c.in_ok-member.field-0) (sym c.loop-at.invariant.count) (c.in_ok-member.ensures c.args.cores (subst (λ n. c.loop-at.rest % n < c.args.cores) (sym c.from.ensures) (mod-lt c.loop-at.rest c.requires.cores))));
}
