use Rattle.std.proofs.Common.{◌<◌, ◌∙◌, ℕ, List, Option, refl, sym, ap, subst}
use Rattle.policy_tree.specs.Meaning.{meaning_of}
use Rattle.round_judge.specs.declared.past.Turn.{Turn}
use Rattle.serial_steps.specs.declared.turns.NextStep.TheVariants as next
use Rattle.round_model.specs.After.{after, round_of}
use Rattle.serial_steps.specs.Turns.{IsLateStepOf, MayAdd}
use Rattle.round_model.specs.Scenes.{entering_next, own_entries, waking_next}
use Rattle.round_model.specs.Work.{worked}
use Rattle.serial_steps.proofs.Ordering.{enters_first, looks_next, over_next, tries_next, wakes_next, works_next}
use Rattle.serial_play.proofs.NextSteps.{read_fit}
use Rattle.serial_steps.proofs.Turning.{enter_may, enters, is_late, is_none, late_entry, late_look, late_over, late_work, none_entering, none_waking, wake_may, wakes, work_may}
use Rattle.serial_play.proofs.steps.next_step.Goals as goal

pub returns-in-Enter-clause-step : goal.returns-in-Enter-clause-step
returns-in-Enter-clause-step c history stands looks is_fresh is_look =
    let p = meaning_of c.args.policy.now in let plan = c.args.plan.now in let a = c.args.core in let t = c.turn-turn.result in
    let left = enters_first c.arriving-entering.result c.waking-due.result t.worked t.attempted c.args.look c.in-Enter.thread (sym c.next_in_turn.ensures ∙ c.in-Enter.is) in
    enters p plan history a looks c.args.fresh.now c.place-at.result.1 c.in-Enter.thread c.place-at.result.0 is_fresh c.place-at.ensures.reads
    (sym left ∙ c.arriving-entering.ensures p plan history stands) (c.place-at.ensures.target history stands)

pub returns-in-Enter-clause-legal : goal.returns-in-Enter-clause-legal
returns-in-Enter-clause-legal c history stands =
    let p = meaning_of c.args.policy.now in let plan = c.args.plan.now in let a = c.args.core in let t = c.turn-turn.result in
    let left = enters_first c.arriving-entering.result c.waking-due.result t.worked t.attempted c.args.look c.in-Enter.thread (sym c.next_in_turn.ensures ∙ c.in-Enter.is) in
    enter_may p plan history a c.in-Enter.thread c.place-at.result.0 c.args.fresh.now c.place-at.result.1 c.place-at.ensures.reads
    (read_fit p plan c.args.past.now history c.args.fresh.now stands c.requires.fresh) (subst (λ (n : ℕ). 0 < n) stands.rounds c.requires.begun) c.requires.core
    (sym left ∙ c.arriving-entering.ensures p plan history stands) (c.place-at.ensures.target history stands)

pub returns-in-Wake-clause-step : goal.returns-in-Wake-clause-step
returns-in-Wake-clause-step c history stands looks is_fresh is_look =
    let p = meaning_of c.args.policy.now in let plan = c.args.plan.now in let a = c.args.core in let t = c.turn-turn.result in
    let left = wakes_next c.arriving-entering.result c.waking-due.result t.worked t.attempted c.args.look c.in-Wake.thread (sym c.next_in_turn.ensures ∙ c.in-Wake.is) in
    wakes p plan history a looks c.args.fresh.now c.place-at-in-Wake.result.1 c.in-Wake.thread c.place-at-in-Wake.result.0 is_fresh c.place-at-in-Wake.ensures.reads
    (none_entering (entering_next plan (round_of history) a (own_entries history a)) (sym left.0 ∙ c.arriving-entering.ensures p plan history stands))
    (sym left.1 ∙ c.waking-due.ensures p plan history stands c.requires.core) (c.place-at-in-Wake.ensures.target history stands)

pub returns-in-Wake-clause-legal : goal.returns-in-Wake-clause-legal
returns-in-Wake-clause-legal c history stands =
    let p = meaning_of c.args.policy.now in let plan = c.args.plan.now in let a = c.args.core in let t = c.turn-turn.result in
    let left = wakes_next c.arriving-entering.result c.waking-due.result t.worked t.attempted c.args.look c.in-Wake.thread (sym c.next_in_turn.ensures ∙ c.in-Wake.is) in
    let found = entering_next plan (round_of history) a (own_entries history a) in
    wake_may p plan history a c.in-Wake.thread c.place-at-in-Wake.result.0 c.args.fresh.now c.place-at-in-Wake.result.1 c.place-at-in-Wake.ensures.reads
    (read_fit p plan c.args.past.now history c.args.fresh.now stands c.requires.fresh) (subst (λ (n : ℕ). 0 < n) stands.rounds c.requires.begun) c.requires.core
    (is_none found (none_entering found (sym left.0 ∙ c.arriving-entering.ensures p plan history stands)))
    (sym left.1 ∙ c.waking-due.ensures p plan history stands c.requires.core) (c.place-at-in-Wake.ensures.target history stands)

pub returns-in-Work-clause-step : goal.returns-in-Work-clause-step
returns-in-Work-clause-step c history stands =
    let p = meaning_of c.args.policy.now in let plan = c.args.plan.now in let a = c.args.core in let t = c.turn-turn.result in
    let left = works_next c.arriving-entering.result c.waking-due.result t.worked t.attempted c.args.look (sym c.next_in_turn.ensures ∙ c.in-Work.is) in
    let entered = none_entering (entering_next plan (round_of history) a (own_entries history a)) (sym left.0.entered ∙ c.arriving-entering.ensures p plan history stands) in
    let woken = none_waking (waking_next (round_of history) (after p plan history a)) (sym left.0.woken ∙ c.waking-due.ensures p plan history stands c.requires.core) in
    let row = c.turn-turn.ensures p plan history stands c.requires.core in
    is_late p plan history a c.args.fresh.now c.args.look c.work_step.result entered woken
    (subst (IsLateStepOf p plan history a c.args.look) (sym (c.work_step.ensures.step history stands))
    (late_work p plan history a c.args.look (sym (ap (λ (x : Turn). x.attempted) row) ∙ left.1) (sym (ap (λ (x : Turn). x.worked) row) ∙ left.2)))

pub returns-in-Work-clause-legal : goal.returns-in-Work-clause-legal
returns-in-Work-clause-legal c history stands =
    let p = meaning_of c.args.policy.now in let plan = c.args.plan.now in let a = c.args.core in let t = c.turn-turn.result in
    let left = works_next c.arriving-entering.result c.waking-due.result t.worked t.attempted c.args.look (sym c.next_in_turn.ensures ∙ c.in-Work.is) in
    let entered = none_entering (entering_next plan (round_of history) a (own_entries history a)) (sym left.0.entered ∙ c.arriving-entering.ensures p plan history stands) in
    let woken = none_waking (waking_next (round_of history) (after p plan history a)) (sym left.0.woken ∙ c.waking-due.ensures p plan history stands c.requires.core) in
    let row = c.turn-turn.ensures p plan history stands c.requires.core in
    subst (MayAdd p plan history) (sym (c.work_step.ensures.step history stands))
    (work_may p plan history a (worked p plan (round_of history) (after p plan history a)).dids refl (subst (λ (n : ℕ). 0 < n) stands.rounds c.requires.begun) c.requires.core
    (is_none (entering_next plan (round_of history) a (own_entries history a)) entered)
    (record { woken = is_none (waking_next (round_of history) (after p plan history a)) woken; first = sym (ap (λ (x : Turn). x.worked) row) ∙ left.2 }))

pub returns-in-Work-clause-over : goal.returns-in-Work-clause-over
returns-in-Work-clause-over c history stands over =
    absurd (c.work_step.ensures.runs history stands over)

pub returns-in-Look-clause-step : goal.returns-in-Look-clause-step
returns-in-Look-clause-step c history stands =
    let p = meaning_of c.args.policy.now in let plan = c.args.plan.now in let a = c.args.core in let t = c.turn-turn.result in
    let left = looks_next c.arriving-entering.result c.waking-due.result t.worked t.attempted c.args.look (sym c.next_in_turn.ensures ∙ c.in-Look.is) in
    let entered = none_entering (entering_next plan (round_of history) a (own_entries history a)) (sym left.0.entered ∙ c.arriving-entering.ensures p plan history stands) in
    let woken = none_waking (waking_next (round_of history) (after p plan history a)) (sym left.0.woken ∙ c.waking-due.ensures p plan history stands c.requires.core) in
    let row = c.turn-turn.ensures p plan history stands c.requires.core in
    is_late p plan history a c.args.fresh.now c.args.look next.Looks entered woken
    (subst (λ (look : Option (List ℕ)). IsLateStepOf p plan history a look next.Looks) (sym left.3)
    (late_look p plan history a (sym (ap (λ (x : Turn). x.attempted) row) ∙ left.1) (sym (ap (λ (x : Turn). x.worked) row) ∙ left.2)))

pub returns-in-Look-clause-looks : goal.returns-in-Look-clause-looks
returns-in-Look-clause-looks c history stands looks =
    let p = meaning_of c.args.policy.now in let plan = c.args.plan.now in let a = c.args.core in let t = c.turn-turn.result in
    let left = looks_next c.arriving-entering.result c.waking-due.result t.worked t.attempted c.args.look (sym c.next_in_turn.ensures ∙ c.in-Look.is) in
    let row = c.turn-turn.ensures p plan history stands c.requires.core in
    (is_none c.args.look left.3, sym (ap (λ (x : Turn). x.attempted) row) ∙ left.1)

pub returns-in-Attempt-clause-step : goal.returns-in-Attempt-clause-step
returns-in-Attempt-clause-step c history stands =
    let p = meaning_of c.args.policy.now in let plan = c.args.plan.now in let a = c.args.core in let t = c.turn-turn.result in
    let left = tries_next c.arriving-entering.result c.waking-due.result t.worked t.attempted c.args.look c.in-Attempt.reads (sym c.next_in_turn.ensures ∙ c.in-Attempt.is) in
    let entered = none_entering (entering_next plan (round_of history) a (own_entries history a)) (sym left.0.entered ∙ c.arriving-entering.ensures p plan history stands) in
    let woken = none_waking (waking_next (round_of history) (after p plan history a)) (sym left.0.woken ∙ c.waking-due.ensures p plan history stands c.requires.core) in
    let row = c.turn-turn.ensures p plan history stands c.requires.core in
    is_late p plan history a c.args.fresh.now c.args.look (next.Adds c.attempt_entry.result) entered woken
    (subst (λ (look : Option (List ℕ)). IsLateStepOf p plan history a look (next.Adds c.attempt_entry.result)) (sym left.3)
    (late_entry p plan history a c.in-Attempt.reads c.attempt_entry.result (sym (ap (λ (x : Turn). x.attempted) row) ∙ left.1) (sym (ap (λ (x : Turn). x.worked) row) ∙ left.2)
    (c.attempt_entry.ensures.attempt history stands)))

pub returns-in-Attempt-clause-legal : goal.returns-in-Attempt-clause-legal
returns-in-Attempt-clause-legal c history stands =
    let p = meaning_of c.args.policy.now in let plan = c.args.plan.now in let a = c.args.core in let t = c.turn-turn.result in
    let left = tries_next c.arriving-entering.result c.waking-due.result t.worked t.attempted c.args.look c.in-Attempt.reads (sym c.next_in_turn.ensures ∙ c.in-Attempt.is) in
    let row = c.turn-turn.ensures p plan history stands c.requires.core in
    c.attempt_entry.ensures.legal history stands (subst (λ (n : ℕ). 0 < n) stands.rounds c.requires.begun)
    (record { worked = sym (ap (λ (x : Turn). x.worked) row) ∙ left.2; first = sym (ap (λ (x : Turn). x.attempted) row) ∙ left.1 })

pub returns-in-Over-clause-step : goal.returns-in-Over-clause-step
returns-in-Over-clause-step c history stands =
    let p = meaning_of c.args.policy.now in let plan = c.args.plan.now in let a = c.args.core in let t = c.turn-turn.result in
    let left = over_next c.arriving-entering.result c.waking-due.result t.worked t.attempted c.args.look (sym c.next_in_turn.ensures ∙ c.in-Over.is) in
    let entered = none_entering (entering_next plan (round_of history) a (own_entries history a)) (sym left.0.entered ∙ c.arriving-entering.ensures p plan history stands) in
    let woken = none_waking (waking_next (round_of history) (after p plan history a)) (sym left.0.woken ∙ c.waking-due.ensures p plan history stands c.requires.core) in
    let row = c.turn-turn.ensures p plan history stands c.requires.core in
    is_late p plan history a c.args.fresh.now c.args.look next.Over entered woken (late_over p plan history a c.args.look (sym (ap (λ (x : Turn). x.attempted) row) ∙ left.1))

pub returns-in-Over-clause-over : goal.returns-in-Over-clause-over
returns-in-Over-clause-over c history stands over =
    let p = meaning_of c.args.policy.now in let plan = c.args.plan.now in let a = c.args.core in let t = c.turn-turn.result in
    let left = over_next c.arriving-entering.result c.waking-due.result t.worked t.attempted c.args.look (sym c.next_in_turn.ensures ∙ c.in-Over.is) in
    let row = c.turn-turn.ensures p plan history stands c.requires.core in
    sym (ap (λ (x : Turn). x.attempted) row) ∙ left.1
