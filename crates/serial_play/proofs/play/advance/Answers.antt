use Rattle.std.proofs.Common.{◌∙◌, ℕ, List, Option, Some, true, get_or, set, subst, sym, arith}
use Rattle.policy_tree.specs.Meaning.{meaning_of}
use Rattle.round_judge.specs.Readable.{ReadIn}
use Rattle.serial_steps.specs.declared.turns.NextStep.TheVariants as next
use Rattle.serial_steps.specs.Turns.{ActsBy, IsStepOf, MayAdd}
use Rattle.sched_base.specs.declared.limits.TheConstants.{MAX_ENTRIES}
use Rattle.round_model.proofs.OwedTotals.{room_for}
use Rattle.serial_play.specs.Plays.{Advances, fresh_of}
use Rattle.serial_play.proofs.Stepping.{advanced_by, advanced_look, advanced_none, fresh_read, look_read, none_is}
use Rattle.serial_play.proofs.play.advance.Goals as goal

pub next_step-requires-clause-fresh : goal.next_step-requires-clause-fresh
next_step-requires-clause-fresh c =
    let p = meaning_of c.args.policy.now in let plan = c.args.plan.now in
    subst (ReadIn plan c.args.play.now.past) (sym c.fresh_reads-fresh.ensures) (fresh_read p plan c.args.play.now c.requires.fits c.requires.play)

pub add-requires-clause-room : goal.add-requires-clause-room
add-requires-clause-room c =
    let p = meaning_of c.args.policy.now in let plan = c.args.plan.now in let h = c.args.play.now.history in
    let legal = subst (MayAdd p plan h) c.in-Adds.is (c.next_step.ensures.legal h c.requires.play.stands) in
    let acts = subst (ActsBy c.args.core) c.in-Adds.is c.next_step.ensures.acts in
    room_for p plan h c.in-Adds.entry c.args.core MAX_ENTRIES c.requires.fits c.requires.handlers c.requires.play.stands.legal legal acts c.requires.core c.requires.room

pub returns-in_ok-add-in-Adds : goal.returns-in_ok-add-in-Adds
returns-in_ok-add-in-Adds c =
    let p = meaning_of c.args.policy.now in let plan = c.args.plan.now in let play = c.args.play.now in let a = c.args.core in let e = c.in-Adds.entry in
    let played = c.requires.play in
    let here = get_or play.looks a c.index-play-core.result in
    let look = sym c.index-play-core.is ∙ look_read play.looks a c.index-play-core.result (omega arith) c.index-play-core.is in
    let step = subst (λ (reads : List ℕ). IsStepOf p plan play.history a reads here c.next_step.result) c.fresh_reads-fresh.ensures (c.next_step.ensures.step play.history played.stands) in
    advanced_by p plan play c.add.new.play a here c.requires.fits c.requires.handlers played c.requires.core look e
    c.in_ok-add-in-Adds.ensures
    (subst (MayAdd p plan play.history) c.in-Adds.is (c.next_step.ensures.legal play.history played.stands))
    (subst (ActsBy a) c.in-Adds.is c.next_step.ensures.acts)
    (subst (IsStepOf p plan play.history a (fresh_of plan play) here) c.in-Adds.is step)

pub returns-in-Looks : goal.returns-in-Looks
returns-in-Looks c =
    let p = meaning_of c.args.policy.now in let plan = c.args.plan.now in let play = c.args.play.now in let a = c.args.core in
    let played = c.requires.play in
    let here = get_or play.looks a c.index-play-core.result in
    let look = sym c.index-play-core.is ∙ look_read play.looks a c.index-play-core.result (omega arith) c.index-play-core.is in
    let looks = c.next_step.ensures.looks play.history played.stands c.in-Looks.is in
    let none = none_is here looks.0 in
    let step = subst (λ (reads : List ℕ). IsStepOf p plan play.history a reads here c.next_step.result) c.fresh_reads-fresh.ensures (c.next_step.ensures.step play.history played.stands) in
    let few = c.requires.play.belongs.limits.few_cores in
    subst (λ (reads : List ℕ). Advances p plan a play (record play { looks = set play.looks a (Some reads) }) true) (sym c.fresh_reads-fresh.ensures)
    (advanced_look p plan play a c.requires.fits played c.requires.core (omega arith) (sym look ∙ none)
    (subst (λ (l : Option (List ℕ)). IsStepOf p plan play.history a (fresh_of plan play) l next.Looks) none
    (subst (IsStepOf p plan play.history a (fresh_of plan play) here) c.in-Looks.is step)))

pub returns-in-Over : goal.returns-in-Over
returns-in-Over c =
    let p = meaning_of c.args.policy.now in let plan = c.args.plan.now in let play = c.args.play.now in let a = c.args.core in
    let played = c.requires.play in
    let here = get_or play.looks a c.index-play-core.result in
    let look = sym c.index-play-core.is ∙ look_read play.looks a c.index-play-core.result (omega arith) c.index-play-core.is in
    let step = subst (λ (reads : List ℕ). IsStepOf p plan play.history a reads here c.next_step.result) c.fresh_reads-fresh.ensures (c.next_step.ensures.step play.history played.stands) in
    advanced_none p plan play a here c.requires.fits played c.requires.core look
    (subst (IsStepOf p plan play.history a (fresh_of plan play) here) c.in-Over.is step)
