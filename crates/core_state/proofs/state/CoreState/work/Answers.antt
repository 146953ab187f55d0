use Rattle.std.proofs.Common.{MatchOption, Contains, sym, ap, subst, ◌∙◌, refl, arith}
use Rattle.policy_tree.specs.Meaning.{meaning_of}
use Rattle.policy_eval.specs.Ranges.{AreIn, attribute_ranges}
use Rattle.round_model.specs.declared.entry.Did.TheVariants as did
use Rattle.round_model.specs.Work.{Worked}
use Rattle.round_model.proofs.Units.{blocking_ends, burst_fits, unit_idle}
use Rattle.core_state.specs.Code.Steps.{HasNoNext, TakesNext}
use Rattle.core_state.specs.Views.{CoreView}
use Rattle.core_state.proofs.Taking.{next_consts, next_room, unit_ends, worked_meeting}
use Rattle.core_state.proofs.state.CoreState.work.Goals as goal

pub returns-in_default-clause-core : goal.returns-in_default-clause-core
returns-in_default-clause-core c =
    let old = c.args.self.now in let mid = c.take_next.new.self in
    let none = subst (λ o. MatchOption o (HasNoNext old mid) (TakesNext old mid)) c.in_default.is c.take_next.ensures in
    let idle = unit_idle (meaning_of c.args.policy.now) c.args.plan.now c.args.round old.core (record { current = none.current; queue = none.queue }) in
    none.same ∙ ap (λ (w : Worked). let v : CoreView = record old { core = w.core } in v) (sym idle)

pub returns-in_default-clause-did : goal.returns-in_default-clause-did
returns-in_default-clause-did c =
    let old = c.args.self.now in let mid = c.take_next.new.self in
    let none = subst (λ o. MatchOption o (HasNoNext old mid) (TakesNext old mid)) c.in_default.is c.take_next.ensures in
    let idle = unit_idle (meaning_of c.args.policy.now) c.args.plan.now c.args.round old.core (record { current = none.current; queue = none.queue }) in
    subst (λ (w : Worked). Contains w.dids did.Nothing) (sym idle) (0, omega arith, refl)

pub place_after-ran-requires-clause-bursts : goal.place_after-ran-requires-clause-bursts
place_after-ran-requires-clause-bursts c =
    (burst_fits (meaning_of c.args.policy.now) c.args.plan.now c.requires.fits c.in-Some.task c.in-Some-next_burst.burst
    (sym c.next_burst.ensures ∙ c.in-Some-next_burst.is)).place

pub meet-requires-clause-consts : goal.meet-requires-clause-consts
meet-requires-clause-consts c =
    let old = c.args.self.now in let mid = c.take_next.new.self in let p = meaning_of c.args.policy.now in
    let next = subst (λ o. MatchOption o (HasNoNext old mid) (TakesNext old mid)) c.in-Some.is c.take_next.ensures in
    subst (AreIn (attribute_ranges p.core_attrs)) (sym (next_consts old mid c.in-Some.task next p (sym c.requires.order))) c.requires.bounds.consts

pub meet-requires-clause-room : goal.meet-requires-clause-room
meet-requires-clause-room c =
    let old = c.args.self.now in let mid = c.take_next.new.self in let p = meaning_of c.args.policy.now in
    let next = subst (λ o. MatchOption o (HasNoNext old mid) (TakesNext old mid)) c.in-Some.is c.take_next.ensures in
    next_room old mid c.in-Some.task next p (sym c.requires.order) c.requires.room

pub meet-requires-in-Yield-clause-consts : goal.meet-requires-in-Yield-clause-consts
meet-requires-in-Yield-clause-consts c =
    let old = c.args.self.now in let mid = c.take_next.new.self in let p = meaning_of c.args.policy.now in
    let next = subst (λ o. MatchOption o (HasNoNext old mid) (TakesNext old mid)) c.in-Some.is c.take_next.ensures in
    subst (AreIn (attribute_ranges p.core_attrs)) (sym (next_consts old mid c.in-Some.task next p (sym c.requires.order))) c.requires.bounds.consts

pub meet-requires-in-Yield-clause-room : goal.meet-requires-in-Yield-clause-room
meet-requires-in-Yield-clause-room c =
    let old = c.args.self.now in let mid = c.take_next.new.self in let p = meaning_of c.args.policy.now in
    let next = subst (λ o. MatchOption o (HasNoNext old mid) (TakesNext old mid)) c.in-Some.is c.take_next.ensures in
    next_room old mid c.in-Some.task next p (sym c.requires.order) c.requires.room

pub meet-requires-in-Block-clause-consts : goal.meet-requires-in-Block-clause-consts
meet-requires-in-Block-clause-consts c =
    let old = c.args.self.now in let mid = c.take_next.new.self in let p = meaning_of c.args.policy.now in
    let next = subst (λ o. MatchOption o (HasNoNext old mid) (TakesNext old mid)) c.in-Some.is c.take_next.ensures in
    subst (AreIn (attribute_ranges p.core_attrs)) (sym (next_consts old mid c.in-Some.task next p (sym c.requires.order))) c.requires.bounds.consts

pub meet-requires-in-Block-clause-room : goal.meet-requires-in-Block-clause-room
meet-requires-in-Block-clause-room c =
    let old = c.args.self.now in let mid = c.take_next.new.self in let p = meaning_of c.args.policy.now in
    let next = subst (λ o. MatchOption o (HasNoNext old mid) (TakesNext old mid)) c.in-Some.is c.take_next.ensures in
    next_room old mid c.in-Some.task next p (sym c.requires.order) c.requires.room

pub overflow_add-round : goal.overflow_add-round
overflow_add-round c =
    let b = c.in-Some-next_burst.burst in let t = c.in-Some.task in
    let fits = burst_fits (meaning_of c.args.policy.now) c.args.plan.now c.requires.fits t b (sym c.next_burst.ensures ∙ c.in-Some-next_burst.is) in
    let few = fits.rounds c.in-Block.rounds (blocking_ends b t.place c.in-Block.rounds c.in-Block.ensures) in
    let round = c.requires.round in
    omega arith

pub returns-in-Tick-clause-core : goal.returns-in-Tick-clause-core
returns-in-Tick-clause-core c =
    let old = c.args.self.now in let mid = c.take_next.new.self in let p = meaning_of c.args.policy.now in let t = c.in-Some.task in
    let next = subst (λ o. MatchOption o (HasNoNext old mid) (TakesNext old mid)) c.in-Some.is c.take_next.ensures in
    let works = worked_meeting old mid t next p (sym c.requires.order) c.args.plan.now c.args.round c.in-Some-next_burst.burst
    (sym c.next_burst.ensures ∙ c.in-Some-next_burst.is) c.place_after-ran.result c.place_after-ran.ensures _ c.in-Tick.ensures in
    unit_ends old mid t next p (sym c.requires.order) c.args.plan.now c.args.round _ works c.meet.new.self c.meet.ensures.core

pub returns-in-Tick-clause-did : goal.returns-in-Tick-clause-did
returns-in-Tick-clause-did c =
    let old = c.args.self.now in let mid = c.take_next.new.self in let p = meaning_of c.args.policy.now in let t = c.in-Some.task in
    let next = subst (λ o. MatchOption o (HasNoNext old mid) (TakesNext old mid)) c.in-Some.is c.take_next.ensures in
    let works = worked_meeting old mid t next p (sym c.requires.order) c.args.plan.now c.args.round c.in-Some-next_burst.burst
    (sym c.next_burst.ensures ∙ c.in-Some-next_burst.is) c.place_after-ran.result c.place_after-ran.ensures _ c.in-Tick.ensures in
    subst (λ (w : Worked). Contains w.dids c.meet.result) (sym works) c.meet.ensures.did

pub returns-in-Yield-clause-core : goal.returns-in-Yield-clause-core
returns-in-Yield-clause-core c =
    let old = c.args.self.now in let mid = c.take_next.new.self in let p = meaning_of c.args.policy.now in let t = c.in-Some.task in
    let next = subst (λ o. MatchOption o (HasNoNext old mid) (TakesNext old mid)) c.in-Some.is c.take_next.ensures in
    let works = worked_meeting old mid t next p (sym c.requires.order) c.args.plan.now c.args.round c.in-Some-next_burst.burst
    (sym c.next_burst.ensures ∙ c.in-Some-next_burst.is) c.place_after-ran.result c.place_after-ran.ensures _ c.in-Yield.ensures in
    unit_ends old mid t next p (sym c.requires.order) c.args.plan.now c.args.round _ works c.meet-in-Yield.new.self c.meet-in-Yield.ensures.core

pub returns-in-Yield-clause-did : goal.returns-in-Yield-clause-did
returns-in-Yield-clause-did c =
    let old = c.args.self.now in let mid = c.take_next.new.self in let p = meaning_of c.args.policy.now in let t = c.in-Some.task in
    let next = subst (λ o. MatchOption o (HasNoNext old mid) (TakesNext old mid)) c.in-Some.is c.take_next.ensures in
    let works = worked_meeting old mid t next p (sym c.requires.order) c.args.plan.now c.args.round c.in-Some-next_burst.burst
    (sym c.next_burst.ensures ∙ c.in-Some-next_burst.is) c.place_after-ran.result c.place_after-ran.ensures _ c.in-Yield.ensures in
    subst (λ (w : Worked). Contains w.dids c.meet-in-Yield.result) (sym works) c.meet-in-Yield.ensures.did

pub returns-in-Block-clause-core : goal.returns-in-Block-clause-core
returns-in-Block-clause-core c =
    let old = c.args.self.now in let mid = c.take_next.new.self in let p = meaning_of c.args.policy.now in let t = c.in-Some.task in
    let next = subst (λ o. MatchOption o (HasNoNext old mid) (TakesNext old mid)) c.in-Some.is c.take_next.ensures in
    let works = worked_meeting old mid t next p (sym c.requires.order) c.args.plan.now c.args.round c.in-Some-next_burst.burst
    (sym c.next_burst.ensures ∙ c.in-Some-next_burst.is) c.place_after-ran.result c.place_after-ran.ensures _ c.in-Block.ensures in
    unit_ends old mid t next p (sym c.requires.order) c.args.plan.now c.args.round _ works c.meet-in-Block.new.self c.meet-in-Block.ensures.core

pub returns-in-Block-clause-did : goal.returns-in-Block-clause-did
returns-in-Block-clause-did c =
    let old = c.args.self.now in let mid = c.take_next.new.self in let p = meaning_of c.args.policy.now in let t = c.in-Some.task in
    let next = subst (λ o. MatchOption o (HasNoNext old mid) (TakesNext old mid)) c.in-Some.is c.take_next.ensures in
    let works = worked_meeting old mid t next p (sym c.requires.order) c.args.plan.now c.args.round c.in-Some-next_burst.burst
    (sym c.next_burst.ensures ∙ c.in-Some-next_burst.is) c.place_after-ran.result c.place_after-ran.ensures _ c.in-Block.ensures in
    subst (λ (w : Worked). Contains w.dids c.meet-in-Block.result) (sym works) c.meet-in-Block.ensures.did

pub returns-in-End-clause-core : goal.returns-in-End-clause-core
returns-in-End-clause-core c =
    let old = c.args.self.now in let mid = c.take_next.new.self in let p = meaning_of c.args.policy.now in let t = c.in-Some.task in
    let next = subst (λ o. MatchOption o (HasNoNext old mid) (TakesNext old mid)) c.in-Some.is c.take_next.ensures in
    let works = worked_meeting old mid t next p (sym c.requires.order) c.args.plan.now c.args.round c.in-Some-next_burst.burst
    (sym c.next_burst.ensures ∙ c.in-Some-next_burst.is) c.place_after-ran.result c.place_after-ran.ensures _ c.in-End.ensures in
    unit_ends old mid t next p (sym c.requires.order) c.args.plan.now c.args.round _ works mid refl

pub returns-in-End-clause-did : goal.returns-in-End-clause-did
returns-in-End-clause-did c =
    let old = c.args.self.now in let mid = c.take_next.new.self in let p = meaning_of c.args.policy.now in let t = c.in-Some.task in
    let next = subst (λ o. MatchOption o (HasNoNext old mid) (TakesNext old mid)) c.in-Some.is c.take_next.ensures in
    let works = worked_meeting old mid t next p (sym c.requires.order) c.args.plan.now c.args.round c.in-Some-next_burst.burst
    (sym c.next_burst.ensures ∙ c.in-Some-next_burst.is) c.place_after-ran.result c.place_after-ran.ensures _ c.in-End.ensures in
    subst (λ (w : Worked). Contains w.dids (did.Ended t.id)) (sym works) (0, omega arith, refl)
