-- Where no obligation has too many cases, this statement hasn't: it has as many as the first.
use Rattle.std.proofs.Common.{◌≡◌, ◌↔◌, sym, subst}
use Rattle.std.proofs.lemmas.Result.{IfOk-weaker}
use Rattle.policy_tree.specs.Meaning.{meaning_of}
use Rattle.policy_eval.specs.Obligations.{RestGap, rest_gap}
use Rattle.obligations.specs.declared.names.ObName.TheVariants as name
use Rattle.obligations.specs.declared.obligation.Question.{Question}
use Rattle.obligations.specs.Laws.{HaveNoSolution}
use Rattle.obligations.specs.Systems.{question_of}
use Rattle.obligations.proofs.Few.{few_cases}
use Rattle.obligations.proofs.Law.{systems_are_statements}
use Rattle.obligations.proofs.rest_gaps.rest_gap.Goals as goal

pub question_of-requires-clause-few : goal.question_of-requires-clause-few
question_of-requires-clause-few c = few_cases (meaning_of c.args.policy.now) name.B1 c.requires.few

pub returns-clause-says : goal.returns-clause-says
returns-clause-says c =
    let p = meaning_of c.args.policy.now in
    IfOk-weaker c.question_of.result (λ (q : Question). q ≡ question_of p (rest_gap c.args.gap)) (λ (q : Question). RestGap p c.args.gap ↔ HaveNoSolution q.systems)
    (λ q is. subst (λ (r : Question). RestGap p c.args.gap ↔ HaveNoSolution r.systems) (sym is) (systems_are_statements p c.requires.resolved (rest_gap c.args.gap)))
    c.question_of.ensures
