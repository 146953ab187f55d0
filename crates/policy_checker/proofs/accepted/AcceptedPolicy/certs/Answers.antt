-- The answer at the obligation's place keeps its certificates.
use Rattle.std.proofs.Common.{map, subst}
use Rattle.linear_cert.specs.Right.{cert_tree}
use Rattle.obligations.specs.Names.{statement_of}
use Rattle.obligations.specs.Systems.{systems_of}
use Rattle.policy_tree.specs.declared.typed.Policy.{Policy}
use Rattle.policy_tree.specs.Meaning.{meaning_of}
use Rattle.policy_checker.specs.Certified.{Certifies, Keeps}
use Rattle.policy_checker.specs.declared.answer.ObAnswer.{ObAnswer}
use Rattle.policy_checker.proofs.Places.{certifies_there, kept_there}
use Rattle.policy_checker.proofs.accepted.AcceptedPolicy.certs.Goals as goal

pub returns : goal.returns
returns c =
    let p = meaning_of c.self.inside.policy in
    let kept = kept_there p c.self.inside.answers c.place_of.result c.args.ob _ c.self.invariant.1 c.place_of.ensures c.get.ensures.item in
    let holds = subst (λ (answer : ObAnswer). Keeps (systems_of p (statement_of c.args.ob)) answer) c.in-Holds.is kept in
    subst (λ (policy : Policy). Certifies (meaning_of policy) c.args.ob (map cert_tree c.in-Holds.certs)) c.self.view_is (certifies_there p c.args.ob c.in-Holds.certs holds)
