use Rattle.std.proofs.Common.{sym, ◌∙◌}
use Rattle.policy_lexer.proofs.Firsts.{blanks_are_first, comment_is_first}
use Rattle.policy_lexer.proofs.piece.first_step.Goals as goal

pub returns-then-is_blank-clause-step : goal.returns-then-is_blank-clause-step
returns-then-is_blank-clause-step c =
    rw c.blanks_size.ensures (blanks_are_first _ c.requires.some (sym c.is_blank.ensures ∙ c.if-is_blank.true))

pub returns-then-first-eq35-clause-step : goal.returns-then-first-eq35-clause-step
returns-then-first-eq35-clause-step c =
    rw c.comment_size.ensures (comment_is_first _ c.requires.some c.if-first-eq35.true)
