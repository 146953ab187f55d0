use Rattle.std.proofs.Common.{◌↔◌, subst, sym}
use Rattle.std.proofs.lemmas.List.Elements.{All-map}
use Rattle.policy_tree.specs.Meaning.{meaning_of}
use Rattle.policy_eval.specs.Obligations.{IsMet}
use Rattle.obligations.specs.declared.obligation.Obligation.{Obligation}
use Rattle.obligations.specs.Laws.{HaveNoSolution, SayTheStatements}
use Rattle.obligations.specs.Names.{ob_names, statement_of}
use Rattle.obligations.specs.Systems.{obligation_of}
use Rattle.obligations.proofs.Law.{systems_are_statements}
use Rattle.obligations.proofs.making.oblige.Goals as goal

pub returns-in-Ok-clause-says : goal.returns-in-Ok-clause-says
returns-in-Ok-clause-says c =
    let p = meaning_of c.args.policy.now in
    subst (SayTheStatements p) (sym c.in-Ok.ensures)
    (All-map (λ (o : Obligation). IsMet p (statement_of o.name) ↔ HaveNoSolution o.systems) (obligation_of p) ob_names
    (λ k d inside. systems_are_statements p c.requires (statement_of _)))
