use Rattle.std.proofs.Common.{◌<◌, sym, ◌∙◌, refl, subst}
use Rattle.std.proofs.lemmas.Bool.{false≢true}
use Rattle.policy_tree.specs.Meaning.{meaning_of}
use Rattle.round_model.specs.After.{round_of}
use Rattle.round_model.specs.Scenes.{entering_next, own_entries, scene_of}
use Rattle.round_model.proofs.Judging.{enter_legal, enter_parts, enter_placed, is_option, is_unless_ne, isnt_if_ne, named_some, option_is, refuted, some_named}
use Rattle.round_judge.proofs.judge.may_enter.Goals as goal

pub returns-then-not-may_act : goal.returns-then-not-may_act
returns-then-not-may_act c history stands = refuted (λ legal.
    let parts = enter_parts (meaning_of c.args.policy.now) c.args.plan.now history c.args.by c.args.thread c.args.at c.args.reads legal in
    false≢true (c.if-not-may_act.ensures.1 (subst (λ n. 0 < n) (sym stands.rounds) legal.begun, parts.core)))

pub returns-then-ne : goal.returns-then-ne
unfolding scene_of
returns-then-ne c history stands = refuted (λ legal.
    let p = meaning_of c.args.policy.now in let plan = c.args.plan.now in
    let parts = enter_parts p plan history c.args.by c.args.thread c.args.at c.args.reads legal in
    let found = entering_next plan (round_of history) c.args.by (own_entries history c.args.by) in
    isnt_if_ne c.arriving.result c.args.thread c.ne.result c.ne.ensures c.if-ne.true
    (c.arriving.ensures p plan history stands ∙ named_some c.args.thread found parts.next))

pub returns : goal.returns
returns c history stands =
    let p = meaning_of c.args.policy.now in let plan = c.args.plan.now in
    let acts = c.if-not-may_act.ensures.0 refl in
    let found = entering_next plan (round_of history) c.args.by (own_entries history c.args.by) in
    let arrives = is_unless_ne c.arriving.result c.args.thread c.ne.result c.ne.ensures c.if-ne.false in
    let next = some_named c.args.thread found (sym arrives ∙ c.arriving.ensures p plan history stands) in
    let placed = c.placement.ensures history stands in (
      λ e. enter_legal p plan history c.args.by c.args.thread c.args.at c.args.reads c.placement.result placed
          (subst (λ n. 0 < n) stands.rounds acts.0) acts.1 next (option_is c.placement.result c.args.at (sym c.eq.ensures ∙ e)),
      λ legal. c.eq.ensures ∙ is_option c.placement.result c.args.at (enter_placed p plan history c.args.by c.args.thread c.args.at c.args.reads c.placement.result placed legal),
    )
