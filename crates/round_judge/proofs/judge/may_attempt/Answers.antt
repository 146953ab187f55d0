use Rattle.std.proofs.Common.{◌<◌, Some, sym, ap, ◌∙◌, refl, subst}
use Rattle.std.proofs.lemmas.Bool.{false≢true}
use Rattle.policy_tree.specs.Meaning.{meaning_of}
use Rattle.round_model.specs.Scenes.{scene_of}
use Rattle.round_model.proofs.Judging.{attempt_legal, attempt_made, attempt_parts, refuted}
use Rattle.round_judge.proofs.judge.may_attempt.Goals as goal

pub returns-then-not-may_act : goal.returns-then-not-may_act
returns-then-not-may_act c history stands = refuted (λ legal.
    let parts = attempt_parts (meaning_of c.args.policy.now) c.args.plan.now history c.args.by c.args.reads c.args.claimed legal in
    false≢true (c.if-not-may_act.ensures.1 (subst (λ n. 0 < n) (sym stands.rounds) legal.begun, parts.core)))

pub returns-then-not-owes_attempt : goal.returns-then-not-owes_attempt
unfolding scene_of
returns-then-not-owes_attempt c history stands = refuted (λ legal.
    let p = meaning_of c.args.policy.now in
    let parts = attempt_parts p c.args.plan.now history c.args.by c.args.reads c.args.claimed legal in
    false≢true ((c.if-not-owes_attempt.ensures p c.args.plan.now history stands parts.core).1 (record { worked = parts.worked; first = parts.first })))

pub returns-in-None : goal.returns-in-None
returns-in-None c history stands = refuted (λ legal.
    let p = meaning_of c.args.policy.now in
    let made = attempt_made p c.args.plan.now history c.args.by c.args.reads c.args.claimed c.attempt_by.result (c.attempt_by.ensures history stands) legal in
    let none = c.in-None.is in cc)

pub returns-in-Some : goal.returns-in-Some
returns-in-Some c history stands =
    let p = meaning_of c.args.policy.now in let plan = c.args.plan.now in
    let acts = c.if-not-may_act.ensures.0 refl in
    let owes = (c.if-not-owes_attempt.ensures p plan history stands acts.1).0 refl in
    let made = c.attempt_by.ensures history stands in (
      λ e. attempt_legal p plan history c.args.by c.args.reads c.args.claimed c.attempt_by.result made (subst (λ n. 0 < n) stands.rounds acts.0) acts.1 owes
          (c.in-Some.is ∙ ap Some (c.is.ensures.0 e)),
      λ legal. c.is.ensures.1 (let same = sym c.in-Some.is ∙ attempt_made p plan history c.args.by c.args.reads c.args.claimed c.attempt_by.result made legal in cc),
    )
