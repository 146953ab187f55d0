use Rattle.std.proofs.Common.{◌≡◌, ◌-◌, List, Option, Some, None, length, take, drop, sym, ap, ap₂, subst, ◌∙◌, arith}
use Rattle.policy_tree.specs.Meaning.{meaning_of}
use Rattle.round_model.specs.declared.entry.Entry.{Entry}
use Rattle.round_model.specs.declared.state.ModelCore.{ModelCore}
use Rattle.round_model.specs.After.{after}
use Rattle.round_model.specs.Legal.{Legal}
use Rattle.round_model.proofs.Grows.{legal_prefix}
use Rattle.starving_plays.specs.declared.coming_back.Return.{Return}
use Rattle.starving_plays.specs.Code.{IsFirstReturn}
use Rattle.starving_plays.specs.Starving.{first_hungry}
use Rattle.starving_plays.proofs.Returns.{return_inside, returned_first, watched_core}
use Rattle.starving_plays.proofs.Starved.{in_order, never_opened, none_fed, none_without_return, opened_at, starves}
use Rattle.starving_plays.proofs.starving.starved_in.Goals as goal

pub returns-in_default : goal.returns-in_default
returns-in_default c = λ thread round s. never_opened c.args.history.now (sym c.in_default.ensures) s.low s.comes_back.begins

pub past_of-requires-clause-legal : goal.past_of-requires-clause-legal
past_of-requires-clause-legal c =
    let p = meaning_of c.args.policy.now in let plan = c.args.plan.now in
    subst (λ (h : List Entry). Legal p plan h) (sym c.split_at.ensures.front) (legal_prefix p plan c.args.history.now c.in-Some.low c.requires.legal)

pub returns-in_default-2 : goal.returns-in_default-2
returns-in_default-2 c =
    let p = meaning_of c.args.policy.now in let plan = c.args.plan.now in let h = c.args.history.now in let low = c.in-Some.low in
    let core = watched_core p plan h low c.split_at.result.0.now c.state.result.now c.get-core.result.now c.requires.alone (c.state.ensures p plan c.split_at.result.0.now c.in_ok-past.ensures.stands)
    c.get-core.ensures.item c.split_at.ensures.front in
    let back = returned_first p plan h core c.in_default-2.is c.in_ok-back.ensures in
    none_without_return p plan h c.requires.legal low (opened_at h low (sym c.in-Some.ensures)) back

pub overflow_sub-back : goal.overflow_sub-back
overflow_sub-back c =
    let p = meaning_of c.args.policy.now in let plan = c.args.plan.now in let h = c.args.history.now in let low = c.in-Some.low in
    let core = watched_core p plan h low c.split_at.result.0.now c.state.result.now c.get-core.result.now c.requires.alone (c.state.ensures p plan c.split_at.result.0.now c.in_ok-past.ensures.stands)
    c.get-core.ensures.item c.split_at.ensures.front in
    let back = returned_first p plan h core c.in-Some-2.is c.in_ok-back.ensures in
    in_order p plan h c.requires.legal low (opened_at h low (sym c.in-Some.ensures)) c.in-Some-2.back.round c.in-Some-2.back.at back.0

pub split_at-requires-2 : goal.split_at-requires-2
split_at-requires-2 c =
    let p = meaning_of c.args.policy.now in let plan = c.args.plan.now in let h = c.args.history.now in
    let back = subst (λ (o : Option Return). IsFirstReturn p plan h c.get-core.result.now o) c.in-Some-2.is c.in_ok-back.ensures in
    let inside = return_inside p plan h c.get-core.result.now c.in-Some-2.back.round c.in-Some-2.back.at back.0 in
    let rest = c.split_at.ensures.back_len in omega arith

pub returns-in-Some-first_hungry : goal.returns-in-Some-first_hungry
returns-in-Some-first_hungry c =
    let p = meaning_of c.args.policy.now in let plan = c.args.plan.now in let h = c.args.history.now in let low = c.in-Some.low in
    let core = watched_core p plan h low c.split_at.result.0.now c.state.result.now c.get-core.result.now c.requires.alone (c.state.ensures p plan c.split_at.result.0.now c.in_ok-past.ensures.stands)
    c.get-core.ensures.item c.split_at.ensures.front in
    let back = returned_first p plan h core c.in-Some-2.is c.in_ok-back.ensures in
    let queue = c.as_slice.ensures.items ∙ ap (λ (m : ModelCore). m.queue) core in
    let between = c.split_at-2.ensures.front ∙ ap (take (c.in-Some-2.back.at - low)) c.split_at.ensures.back in
    starves p plan h c.requires.legal low (opened_at h low (sym c.in-Some.ensures)) c.in-Some-2.back back.0 c.in-Some-first_hungry.thread
    (sym (ap₂ first_hungry queue between) ∙ sym c.in-Some-first_hungry.ensures)

pub returns : goal.returns
returns c =
    let p = meaning_of c.args.policy.now in let plan = c.args.plan.now in let h = c.args.history.now in let low = c.in-Some.low in
    let core = watched_core p plan h low c.split_at.result.0.now c.state.result.now c.get-core.result.now c.requires.alone (c.state.ensures p plan c.split_at.result.0.now c.in_ok-past.ensures.stands)
    c.get-core.ensures.item c.split_at.ensures.front in
    let back = returned_first p plan h core c.in-Some-2.is c.in_ok-back.ensures in
    let queue = c.as_slice.ensures.items ∙ ap (λ (m : ModelCore). m.queue) core in
    let between = c.split_at-2.ensures.front ∙ ap (take (c.in-Some-2.back.at - low)) c.split_at.ensures.back in
    none_fed p plan h c.requires.legal low (opened_at h low (sym c.in-Some.ensures)) c.in-Some-2.back back.0 back.1
    (sym (ap₂ first_hungry queue between) ∙ sym c.in-None.ensures)
