-- An obligation is the question of its statement, under its name.
use Rattle.std.proofs.Common.{ap, ◌∙◌}
use Rattle.policy_tree.specs.Meaning.{meaning_of}
use Rattle.obligations.specs.declared.obligation.Obligation.{Obligation}
use Rattle.obligations.specs.declared.obligation.Question.{Question}
use Rattle.obligations.specs.Systems.{question_of}
use Rattle.obligations.proofs.making.obligation_of.Goals as goal

pub returns : goal.returns
returns c = ap named (c.in_ok-question.ensures ∙ ap (question_of (meaning_of c.args.policy.now)) c.statement_of.ensures)
  where
    named : Question → Obligation
    named question = record { name = c.args.name; vars = question.vars; systems = question.systems }
