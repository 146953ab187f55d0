use Rattle.std.proofs.Common.{◌∙◌}
use Rattle.round_judge.proofs.Pasts.{due_by_flags}
use Rattle.round_judge.proofs.past.round_due.Goals as goal

pub returns : goal.returns
returns c p history stands = c.is_due_by.ensures ∙ due_by_flags p c.args.plan.now c.args.past.now history stands
