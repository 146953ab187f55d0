use Rattle.std.proofs.Common.{sym, subst}
use Rattle.policy_tree.specs.Meaning.{batch_tree, meaning_of}
use Rattle.policy_eval.specs.Ranges.{AreIn, wide_ranges}
use Rattle.policy_eval.proofs.Evaluable.{evaluable_batch}
use Rattle.policy_eval.proofs.Wide.{move_wide}
use Rattle.round_model.proofs.filtering.goes_on.Goals as goal

pub holds-requires-clause-evaluable : goal.holds-requires-clause-evaluable
holds-requires-clause-evaluable c = evaluable_batch (meaning_of c.args.policy.now) c.requires.policy (batch_tree c.args.batch.now) c.requires.batch

pub holds-requires-clause-values : goal.holds-requires-clause-values
holds-requires-clause-values c =
    let t = c.args.task.now in
    subst (AreIn wide_ranges) (sym c.of_move.ensures)
    (move_wide (meaning_of c.args.policy.now) c.requires.policy c.args.own.now c.args.other.now t.weight t.attrs c.requires.own c.requires.other c.requires.task.weight c.requires.task.attrs)
