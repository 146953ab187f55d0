use Rattle.std.proofs.Common.{◌<◌, sym, ◌∙◌, refl, subst}
use Rattle.std.proofs.lemmas.Bool.{false≢true}
use Rattle.policy_tree.specs.Meaning.{meaning_of}
use Rattle.round_model.specs.After.{after, round_of}
use Rattle.round_model.specs.Scenes.{scene_of, waking_next}
use Rattle.round_model.proofs.Judging.{blocked_some, is_option, is_unless_ne, isnt_if_ne, option_is, refuted, some_blocked, wake_legal, wake_parts, wake_placed}
use Rattle.round_judge.proofs.judge.may_wake.Goals as goal

pub returns-then-not-has_let_in : goal.returns-then-not-has_let_in
unfolding scene_of
returns-then-not-has_let_in c history stands = refuted (λ legal.
    let p = meaning_of c.args.policy.now in
    let parts = wake_parts p c.args.plan.now history c.args.by c.args.thread c.args.at c.args.reads legal in
    false≢true ((c.if-not-has_let_in.ensures.let_in p history stands).1 (subst (λ n. 0 < n) (sym stands.rounds) legal.begun, parts.core, parts.entered)))

pub returns-then-ne : goal.returns-then-ne
unfolding scene_of
returns-then-ne c history stands = refuted (λ legal.
    let p = meaning_of c.args.policy.now in let plan = c.args.plan.now in
    let parts = wake_parts p plan history c.args.by c.args.thread c.args.at c.args.reads legal in
    let found = waking_next (round_of history) (after p plan history c.args.by) in
    isnt_if_ne c.waking.result c.args.thread c.ne.result c.ne.ensures c.if-ne.true
    (c.waking.ensures p plan history stands parts.core ∙ blocked_some c.args.thread found parts.next))

pub returns : goal.returns
returns c history stands =
    let p = meaning_of c.args.policy.now in let plan = c.args.plan.now in
    let ready = (c.if-not-has_let_in.ensures.let_in p history stands).0 refl in
    let found = waking_next (round_of history) (after p plan history c.args.by) in
    let wakes = is_unless_ne c.waking.result c.args.thread c.ne.result c.ne.ensures c.if-ne.false in
    let next = some_blocked c.args.thread found (sym wakes ∙ c.waking.ensures p plan history stands ready.1) in
    let placed = c.placement.ensures history stands in (
      λ e. wake_legal p plan history c.args.by c.args.thread c.args.at c.args.reads c.placement.result placed
          (subst (λ n. 0 < n) stands.rounds ready.0) ready.1 ready.2 next (option_is c.placement.result c.args.at (sym c.eq.ensures ∙ e)),
      λ legal. c.eq.ensures ∙ is_option c.placement.result c.args.at (wake_placed p plan history c.args.by c.args.thread c.args.at c.args.reads c.placement.result placed legal),
    )
