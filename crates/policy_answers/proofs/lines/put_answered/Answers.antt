-- Line after line.
use Rattle.std.proofs.Common.{Bool, [], ◌∷◌, cond, ap, ◌∙◌, arith}
use Rattle.std.proofs.lemmas.Result.{err_from_is_err_and}
use Rattle.policy_tree.specs.Meaning.{meaning_of}
use Rattle.policy_checker.specs.declared.answer.Answered.{Answered}
use Rattle.policy_answers.specs.Lines.{is_shown, line_answered, line_of}
use Rattle.policy_answers.proofs.ShownLines.{line_there, shown_next, shown_stops}
use Rattle.policy_answers.proofs.lines.put_answered.Goals as goal

pub returns-in_err-put_shown : goal.returns-in_err-put_shown
returns-in_err-put_shown g c =
    let fault = err_from_is_err_and c.from_residual.result c.from_residual.ensures.1 in
    let shows : Answered → Bool = λ answered. is_shown (meaning_of c.args.policy.now) answered.name in
    let item = c.answered-item.result in
    let line = ap (λ told. cond (shows item) (line_of item.name told ∷ []) []) c.outcome.ensures ∙ ap (line_there shows line_answered) c.answered-item.is in
    rw fault.1 (shown_stops shows line_answered c.args.answers.now c.loop-answered.answered-index item (omega arith) _ _ _ c.loop-answered.invariant (rw line at c.in_err-put_shown.ensures))

pub loop-answered-preserved : goal.loop-answered-preserved
loop-answered-preserved g c =
    let shows : Answered → Bool = λ answered. is_shown (meaning_of c.args.policy.now) answered.name in
    let item = c.answered-item.result in
    let line = ap (λ told. cond (shows item) (line_of item.name told ∷ []) []) c.outcome.ensures ∙ ap (line_there shows line_answered) c.answered-item.is in
    shown_next shows line_answered c.args.answers.now c.loop-answered.answered-index item (omega arith) _ _ _ c.loop-answered.invariant (rw line at c.in_ok-put_shown.ensures)
