use Rattle.std.proofs.Common.{◌+◌, sym, ap, ◌∙◌, subst, arith}
use Rattle.sched_base.specs.declared.task.Place.{Place}
use Rattle.policy_tree.specs.Meaning.{meaning_of}
use Rattle.policy_tree.specs.declared.typed.Event.TheVariants as event
use Rattle.round_model.specs.Programs.{Meeting}
use Rattle.round_model.specs.Work.{after_meeting}
use Rattle.round_model.proofs.Units.{blocking_ends, burst_fits, unit_idle}
use Rattle.round_judge.specs.Code.UnitSteps.{IsMet}
use Rattle.round_judge.specs.Units.{without}
use Rattle.round_judge.proofs.Units.{ran, unit_met, unit_over, unit_stuck, worked_meeting}
use Rattle.round_judge.proofs.unit.unit_of.Goals as goal

pub returns-in_default : goal.returns-in_default
returns-in_default c = unit_idle (meaning_of c.args.policy.now) c.args.plan.now c.args.round c.args.core.now c.in_default.ensures

pub returns-in_default-next_burst_of : goal.returns-in_default-next_burst_of
returns-in_default-next_burst_of c =
    unit_stuck (meaning_of c.args.policy.now) c.args.plan.now c.args.round c.args.core.now c.in-Some.elected c.in-Some.task c.in-Some.ensures
    (sym c.next_burst_of.ensures ∙ c.in_default-next_burst_of.is)

pub place_after-ran-requires-clause-units : goal.place_after-ran-requires-clause-units
place_after-ran-requires-clause-units c =
    (burst_fits (meaning_of c.args.policy.now) c.args.plan.now c.requires.fits c.in-Some.task c.in-Some-next_burst_of.burst (sym c.next_burst_of.ensures ∙ c.in-Some-next_burst_of.is)).units

pub place_after-ran-requires-clause-bursts : goal.place_after-ran-requires-clause-bursts
place_after-ran-requires-clause-bursts c =
    (burst_fits (meaning_of c.args.policy.now) c.args.plan.now c.requires.fits c.in-Some.task c.in-Some-next_burst_of.burst (sym c.next_burst_of.ensures ∙ c.in-Some-next_burst_of.is)).place

pub meeting_of-requires : goal.meeting_of-requires
meeting_of-requires c =
    (burst_fits (meaning_of c.args.policy.now) c.args.plan.now c.requires.fits c.in-Some.task c.in-Some-next_burst_of.burst (sym c.next_burst_of.ensures ∙ c.in-Some-next_burst_of.is)).units

pub overflow_add-round : goal.overflow_add-round
overflow_add-round c =
    let numbers = burst_fits (meaning_of c.args.policy.now) c.args.plan.now c.requires.fits c.in-Some.task c.in-Some-next_burst_of.burst (sym c.next_burst_of.ensures ∙ c.in-Some-next_burst_of.is) in
    let small = numbers.rounds c.in-Block.rounds (blocking_ends c.in-Some-next_burst_of.burst c.in-Some.task.place c.in-Block.rounds c.in-Block.ensures) in
    let round = c.requires.round in omega arith

pub returns-in-Tick : goal.returns-in-Tick
returns-in-Tick c =
    let p = meaning_of c.args.policy.now in let core = c.args.core.now in let t = c.in-Some.task in let place = c.in-Some.elected in
    let b = c.in-Some-next_burst_of.burst in let runs = c.in-Some.ensures in
    let meets = subst (λ (at : Place). IsMet p core place (record t { place = at }) event.Tick 0 c.met.result) c.place_after-ran.ensures c.met.ensures in
    unit_met p c.args.plan.now c.args.round core place t runs b event.Tick 0
    (worked_meeting p c.args.plan.now c.args.round core place t runs b (sym c.next_burst_of.ensures ∙ c.in-Some-next_burst_of.is)
    ∙ ap (λ (m : Meeting). after_meeting p c.args.round m (ran p c.args.plan.now c.args.round core place t runs b) (without place core)) c.in-Tick.ensures)
    c.met.result meets

pub returns-in-Yield : goal.returns-in-Yield
returns-in-Yield c =
    let p = meaning_of c.args.policy.now in let core = c.args.core.now in let t = c.in-Some.task in let place = c.in-Some.elected in
    let b = c.in-Some-next_burst_of.burst in let runs = c.in-Some.ensures in
    let meets = subst (λ (at : Place). IsMet p core place (record t { place = at }) event.Yield 0 c.met-in-Yield.result) c.place_after-ran.ensures c.met-in-Yield.ensures in
    unit_met p c.args.plan.now c.args.round core place t runs b event.Yield 0
    (worked_meeting p c.args.plan.now c.args.round core place t runs b (sym c.next_burst_of.ensures ∙ c.in-Some-next_burst_of.is)
    ∙ ap (λ (m : Meeting). after_meeting p c.args.round m (ran p c.args.plan.now c.args.round core place t runs b) (without place core)) c.in-Yield.ensures)
    c.met-in-Yield.result meets

pub returns-in-Block : goal.returns-in-Block
returns-in-Block c =
    let p = meaning_of c.args.policy.now in let core = c.args.core.now in let t = c.in-Some.task in let place = c.in-Some.elected in
    let b = c.in-Some-next_burst_of.burst in let runs = c.in-Some.ensures in let wake = c.args.round + c.in-Block.rounds in
    let meets = subst (λ (at : Place). IsMet p core place (record t { place = at }) event.Block wake c.met-in-Block.result) c.place_after-ran.ensures c.met-in-Block.ensures in
    unit_met p c.args.plan.now c.args.round core place t runs b event.Block wake
    (worked_meeting p c.args.plan.now c.args.round core place t runs b (sym c.next_burst_of.ensures ∙ c.in-Some-next_burst_of.is)
    ∙ ap (λ (m : Meeting). after_meeting p c.args.round m (ran p c.args.plan.now c.args.round core place t runs b) (without place core)) c.in-Block.ensures)
    c.met-in-Block.result meets

pub returns-in-End : goal.returns-in-End
returns-in-End c =
    let p = meaning_of c.args.policy.now in let core = c.args.core.now in let t = c.in-Some.task in let place = c.in-Some.elected in
    let b = c.in-Some-next_burst_of.burst in let runs = c.in-Some.ensures in
    unit_over p c.args.plan.now c.args.round core place t runs b
    (worked_meeting p c.args.plan.now c.args.round core place t runs b (sym c.next_burst_of.ensures ∙ c.in-Some-next_burst_of.is)
    ∙ ap (λ (m : Meeting). after_meeting p c.args.round m (ran p c.args.plan.now c.args.round core place t runs b) (without place core)) c.in-End.ensures)
