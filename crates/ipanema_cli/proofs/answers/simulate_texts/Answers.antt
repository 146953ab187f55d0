-- The policy that can be played is the one that was judged.
use Rattle.std.proofs.Common.{inr, refl, subst, sym}
use Rattle.sched_base.specs.declared.limits.TheConstants.{CHECK_BUDGET}
use Rattle.policy_tree.specs.declared.typed.Policy.{Policy}
use Rattle.policy_tree.specs.Meaning.{meaning_of}
use Rattle.policy_reader.proofs.Resolved.{spells_resolved}
use Rattle.policy_checker.specs.Verdicts.{policy_of}
use Rattle.policy_answers.specs.Checks.{IsCheckOf, IsJudged}
use Rattle.ipanema_cli.specs.Simulations.{IsPlayable}
use Rattle.ipanema_cli.proofs.PolicyFacts.{handlers_of}
use Rattle.ipanema_cli.proofs.answers.simulate_texts.Goals as goal

pub playable-requires-clause-resolved : goal.playable-requires-clause-resolved
playable-requires-clause-resolved c =
    let v = c.in-Judged.verdict in
    let judged : IsJudged c.args.policy.now (meaning_of (policy_of v)) v = subst (IsCheckOf c.args.policy.now) c.in-Judged.is c.in_ok-refusal.ensures in
    spells_resolved c.args.policy.now (meaning_of (policy_of v)) c.requires.policy judged.spells

pub playable-requires-clause-verdict : goal.playable-requires-clause-verdict
playable-requires-clause-verdict c =
    let v = c.in-Judged.verdict in
    let judged : IsJudged c.args.policy.now (meaning_of (policy_of v)) v = subst (IsCheckOf c.args.policy.now) c.in-Judged.is c.in_ok-refusal.ensures in
    (CHECK_BUDGET, judged.is)

pub returns-in_ok-simulated_under-in-Ok-clause-answer : goal.returns-in_ok-simulated_under-in-Ok-clause-answer
returns-in_ok-simulated_under-in-Ok-clause-answer c =
    let text = c.args.policy.now in
    let v = c.in-Judged.verdict in
    let p = meaning_of (policy_of v) in
    let judged : IsJudged text p v = subst (IsCheckOf text) c.in-Judged.is c.in_ok-refusal.ensures in
    let there : IsPlayable text p = record { spells = judged.spells; few = judged.few; certified = handlers_of p v judged.is (c.in-Ok.ensures.exactly.0 refl) } in
    inr (c.in_ok-simulated_under-in-Ok.field-0, refl, (meaning_of c.in-Ok.kept, subst (λ (q : Policy). IsPlayable text (meaning_of q)) (sym c.in-Ok.ensures.keeps) there, c.in_ok-simulated_under-in-Ok.ensures.answer))
