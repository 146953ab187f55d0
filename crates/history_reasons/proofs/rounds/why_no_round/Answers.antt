-- Rule after rule.
use Rattle.std.proofs.Common.{arith}
use Rattle.history_reasons.proofs.rounds.why_no_round.Goals as goal

pub overflow_add-next : goal.overflow_add-next
overflow_add-next c =
    let (p, history, stands) = c.requires.history in
    let begun = c.rounds-next.ensures p c.args.plan.now history stands in
    let rounds = stands.rounds in let few = c.requires.rounds in
    omega arith
