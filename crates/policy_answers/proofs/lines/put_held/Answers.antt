-- The lines, and then the verdict.
use Rattle.std.proofs.Common.{[], ◌∷◌, codes, map}
use Rattle.std.proofs.lemmas.Result.{err_from_is_err_and}
use Rattle.sched_io.proofs.PutsLemmas.{puts_both, stops_later, stops_sooner}
use Rattle.policy_tree.specs.Meaning.{meaning_of}
use Rattle.policy_answers.specs.Lines.{line_held, shown_names}
use Rattle.policy_answers.proofs.lines.put_held.Goals as goal

pub returns-in_err-put_names : goal.returns-in_err-put_names
returns-in_err-put_names g c =
    let fault = err_from_is_err_and c.from_residual.result c.from_residual.ensures.1 in
    rw fault.1 (stops_sooner (map line_held (shown_names (meaning_of c.args.policy.now))) (codes "accepted\n" ∷ []) _ _ (rw c.ob_names.ensures at c.in_err-put_names.ensures))

pub returns-in_err-put_all : goal.returns-in_err-put_all
returns-in_err-put_all g c =
    let fault = err_from_is_err_and c.from_residual-in_err-put_all.result c.from_residual-in_err-put_all.ensures.1 in
    rw fault.1 (stops_later (map line_held (shown_names (meaning_of c.args.policy.now))) (codes "accepted\n" ∷ []) _ _ _ (rw c.ob_names.ensures at c.in_ok-put_names.ensures) c.in_err-put_all.ensures)

pub returns : goal.returns
returns g c = puts_both (map line_held (shown_names (meaning_of c.args.policy.now))) (codes "accepted\n" ∷ []) _ _ _ (rw c.ob_names.ensures at c.in_ok-put_names.ensures) c.in_ok-put_all.ensures
