-- The lines, and then the verdict.
use Rattle.std.proofs.Common.{[], ◌∷◌, map}
use Rattle.std.proofs.lemmas.Result.{err_from_is_err_and}
use Rattle.sched_io.proofs.PutsLemmas.{puts_both, stops_later, stops_sooner}
use Rattle.policy_tree.specs.Meaning.{meaning_of}
use Rattle.policy_answers.specs.Lines.{line_answered, shown_answers}
use Rattle.policy_answers.proofs.lines.put_answers.Goals as goal

pub returns-in_err-put_answered : goal.returns-in_err-put_answered
returns-in_err-put_answered g c =
    let fault = err_from_is_err_and c.from_residual.result c.from_residual.ensures.1 in
    rw fault.1 (stops_sooner (map line_answered (shown_answers (meaning_of c.args.policy.now) c.args.answers.now)) (c.args.verdict.now ∷ []) _ _ c.in_err-put_answered.ensures)

pub returns-in_err-put_all : goal.returns-in_err-put_all
returns-in_err-put_all g c =
    let fault = err_from_is_err_and c.from_residual-in_err-put_all.result c.from_residual-in_err-put_all.ensures.1 in
    rw fault.1 (stops_later (map line_answered (shown_answers (meaning_of c.args.policy.now) c.args.answers.now)) (c.args.verdict.now ∷ []) _ _ _ c.in_ok-put_answered.ensures c.in_err-put_all.ensures)

pub returns : goal.returns
returns g c = puts_both (map line_answered (shown_answers (meaning_of c.args.policy.now) c.args.answers.now)) (c.args.verdict.now ∷ []) _ _ _ c.in_ok-put_answered.ensures c.in_ok-put_all.ensures
