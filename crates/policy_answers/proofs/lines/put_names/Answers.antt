-- Line after line.
use Rattle.std.proofs.Common.{arith}
use Rattle.std.proofs.lemmas.Result.{err_from_is_err_and}
use Rattle.policy_tree.specs.Meaning.{meaning_of}
use Rattle.obligations.specs.declared.names.ObName.TheVariants.{B1}
use Rattle.policy_answers.specs.Lines.{is_shown, line_held}
use Rattle.policy_answers.proofs.ShownLines.{shown_next, shown_stops}
use Rattle.policy_answers.proofs.lines.put_names.Goals as goal

pub returns-in_err-put_shown : goal.returns-in_err-put_shown
returns-in_err-put_shown g c =
    let fault = err_from_is_err_and c.from_residual.result c.from_residual.ensures.1 in
    rw fault.1 (shown_stops (is_shown (meaning_of c.args.policy.now)) line_held c.args.names.now c.loop-name.name-index B1 (omega arith) _ _ _ c.loop-name.invariant c.in_err-put_shown.ensures)

pub loop-name-preserved : goal.loop-name-preserved
loop-name-preserved g c =
    shown_next (is_shown (meaning_of c.args.policy.now)) line_held c.args.names.now c.loop-name.name-index B1 (omega arith) _ _ _ c.loop-name.invariant c.in_ok-put_shown.ensures
