use Rattle.std.proofs.Common.{◌∙◌, None, refl, sym, subst, arith}
use Rattle.std.proofs.lemmas.List.{get_or_default}
use Rattle.policy_tree.specs.Meaning.{meaning_of}
use Rattle.serial_steps.proofs.Ordering.{enters_first, looks_next, over_next, tries_next, wakes_next, works_next}
use Rattle.core_worker.specs.Runs.{IsMoment}
use Rattle.core_worker.proofs.Asking.{attempt_of_turn, enters_of, late_of, let_in_of, look_of_turn, over_of, unit_of, wakes_of}
use Rattle.core_worker.proofs.Stepping.{core_there}
use Rattle.core_worker.proofs.run.Run.advance.Goals as goal

pub due-due-requires : goal.due-due-requires
due-due-requires c =
    let p = meaning_of c.args.policy.now in let plan = c.args.plan.now in let run = c.args.self.now in let a = c.args.core in let fits = c.requires.fits in let handlers = c.requires.handlers in
    let (s, m, is) = c.requires.at in
    core_there p plan fits handlers run s a m c.requires.core

pub let_in-requires-clause-at : goal.let_in-requires-clause-at
let_in-requires-clause-at c =
    let p = meaning_of c.args.policy.now in let plan = c.args.plan.now in let run = c.args.self.now in let a = c.args.core in let fits = c.requires.fits in let handlers = c.requires.handlers in
    let (s, m, is) = c.requires.at in
    let left = enters_first _ _ _ _ _ c.in-Enter.thread (sym c.next_in_turn.ensures ∙ c.in-Enter.is) in
    (s, m, enters_of p plan fits handlers run s a m c.requires.core _ c.first_arrival-entering.result c.as_slice.ensures.value c.first_arrival-entering.ensures c.in-Enter.thread left)

pub returns-in-Enter-clause-step : goal.returns-in-Enter-clause-step
returns-in-Enter-clause-step c s m is =
    let p = meaning_of c.args.policy.now in let plan = c.args.plan.now in let run = c.args.self.now in let a = c.args.core in let fits = c.requires.fits in let handlers = c.requires.handlers in
    let left = enters_first _ _ _ _ _ c.in-Enter.thread (sym c.next_in_turn.ensures ∙ c.in-Enter.is) in
    c.let_in.ensures s m (enters_of p plan fits handlers run s a m c.requires.core _ c.first_arrival-entering.result c.as_slice.ensures.value c.first_arrival-entering.ensures c.in-Enter.thread left)

pub wake-requires-clause-at : goal.wake-requires-clause-at
wake-requires-clause-at c =
    let p = meaning_of c.args.policy.now in let plan = c.args.plan.now in let run = c.args.self.now in let a = c.args.core in let fits = c.requires.fits in let handlers = c.requires.handlers in
    let (s, m, is) = c.requires.at in
    let left = wakes_next _ _ _ _ _ c.in-Wake.thread (sym c.next_in_turn.ensures ∙ c.in-Wake.is) in
    let entered = let_in_of p plan fits handlers run s a m c.requires.core _ c.first_arrival-entering.result c.as_slice.ensures.value c.first_arrival-entering.ensures left.0 in
    (s, m, wakes_of p plan fits handlers run s a m c.requires.core c.due-due.result (c.due-due.ensures p plan s.history m.at.cores c.requires.core) c.in-Wake.thread entered left.1)

pub returns-in-Wake-clause-step : goal.returns-in-Wake-clause-step
returns-in-Wake-clause-step c s m is =
    let p = meaning_of c.args.policy.now in let plan = c.args.plan.now in let run = c.args.self.now in let a = c.args.core in let fits = c.requires.fits in let handlers = c.requires.handlers in
    let left = wakes_next _ _ _ _ _ c.in-Wake.thread (sym c.next_in_turn.ensures ∙ c.in-Wake.is) in
    let entered = let_in_of p plan fits handlers run s a m c.requires.core _ c.first_arrival-entering.result c.as_slice.ensures.value c.first_arrival-entering.ensures left.0 in
    c.wake.ensures s m (wakes_of p plan fits handlers run s a m c.requires.core c.due-due.result (c.due-due.ensures p plan s.history m.at.cores c.requires.core) c.in-Wake.thread entered left.1)

pub work-requires-clause-at : goal.work-requires-clause-at
work-requires-clause-at c =
    let p = meaning_of c.args.policy.now in let plan = c.args.plan.now in let run = c.args.self.now in let a = c.args.core in let fits = c.requires.fits in let handlers = c.requires.handlers in
    let (s, m, is) = c.requires.at in
    let left = works_next _ _ _ _ _ (sym c.next_in_turn.ensures ∙ c.in-Work.is) in
    let entered = let_in_of p plan fits handlers run s a m c.requires.core _ c.first_arrival-entering.result c.as_slice.ensures.value c.first_arrival-entering.ensures left.0.entered in
    let late = late_of p plan fits handlers run s a m c.requires.core c.due-due.result (c.due-due.ensures p plan s.history m.at.cores c.requires.core) entered left.0.woken in
    (s, m, unit_of p plan fits handlers run s a m c.requires.core _ _ (get_or_default run.turns.worked a _ _ (let few = c.requires.limits.few_cores in omega arith)) (get_or_default run.turns.attempted a _ _ (let few = c.requires.limits.few_cores in omega arith)) late left.1 left.2)

pub returns-in-Work-clause-step : goal.returns-in-Work-clause-step
returns-in-Work-clause-step c s m is =
    let p = meaning_of c.args.policy.now in let plan = c.args.plan.now in let run = c.args.self.now in let a = c.args.core in let fits = c.requires.fits in let handlers = c.requires.handlers in
    let left = works_next _ _ _ _ _ (sym c.next_in_turn.ensures ∙ c.in-Work.is) in
    let entered = let_in_of p plan fits handlers run s a m c.requires.core _ c.first_arrival-entering.result c.as_slice.ensures.value c.first_arrival-entering.ensures left.0.entered in
    let late = late_of p plan fits handlers run s a m c.requires.core c.due-due.result (c.due-due.ensures p plan s.history m.at.cores c.requires.core) entered left.0.woken in
    c.work.ensures s m (unit_of p plan fits handlers run s a m c.requires.core _ _ (get_or_default run.turns.worked a _ _ (let few = c.requires.limits.few_cores in omega arith)) (get_or_default run.turns.attempted a _ _ (let few = c.requires.limits.few_cores in omega arith)) late left.1 left.2)

pub look-requires-clause-at : goal.look-requires-clause-at
look-requires-clause-at c =
    let p = meaning_of c.args.policy.now in let plan = c.args.plan.now in let run = c.args.self.now in let a = c.args.core in let fits = c.requires.fits in let handlers = c.requires.handlers in
    let (s, m, is) = c.requires.at in
    let left = looks_next _ _ _ _ _ (sym c.next_in_turn.ensures ∙ c.in-Look.is) in
    let entered = let_in_of p plan fits handlers run s a m c.requires.core _ c.first_arrival-entering.result c.as_slice.ensures.value c.first_arrival-entering.ensures left.0.entered in
    let late = late_of p plan fits handlers run s a m c.requires.core c.due-due.result (c.due-due.ensures p plan s.history m.at.cores c.requires.core) entered left.0.woken in
    let kept = get_or_default run.turns.looks a None _ (let few = c.requires.limits.few_cores in omega arith) in
    (s, m, look_of_turn p plan fits handlers run s a m c.requires.core _ _ (get_or_default run.turns.worked a _ _ (let few = c.requires.limits.few_cores in omega arith)) (get_or_default run.turns.attempted a _ _ (let few = c.requires.limits.few_cores in omega arith)) late left.1 left.2 (kept ∙ left.3))

pub returns-in-Look-clause-step : goal.returns-in-Look-clause-step
returns-in-Look-clause-step c s m is =
    let p = meaning_of c.args.policy.now in let plan = c.args.plan.now in let run = c.args.self.now in let a = c.args.core in let fits = c.requires.fits in let handlers = c.requires.handlers in
    let left = looks_next _ _ _ _ _ (sym c.next_in_turn.ensures ∙ c.in-Look.is) in
    let entered = let_in_of p plan fits handlers run s a m c.requires.core _ c.first_arrival-entering.result c.as_slice.ensures.value c.first_arrival-entering.ensures left.0.entered in
    let late = late_of p plan fits handlers run s a m c.requires.core c.due-due.result (c.due-due.ensures p plan s.history m.at.cores c.requires.core) entered left.0.woken in
    let kept = get_or_default run.turns.looks a None _ (let few = c.requires.limits.few_cores in omega arith) in
    c.look.ensures s m (look_of_turn p plan fits handlers run s a m c.requires.core _ _ (get_or_default run.turns.worked a _ _ (let few = c.requires.limits.few_cores in omega arith)) (get_or_default run.turns.attempted a _ _ (let few = c.requires.limits.few_cores in omega arith)) late left.1 left.2 (kept ∙ left.3))

pub attempt-requires-clause-at : goal.attempt-requires-clause-at
attempt-requires-clause-at c =
    let p = meaning_of c.args.policy.now in let plan = c.args.plan.now in let run = c.args.self.now in let a = c.args.core in let fits = c.requires.fits in let handlers = c.requires.handlers in
    let (s, m, is) = c.requires.at in
    let left = tries_next _ _ _ _ _ c.in-Attempt.look (sym c.next_in_turn.ensures ∙ c.in-Attempt.is) in
    let entered = let_in_of p plan fits handlers run s a m c.requires.core _ c.first_arrival-entering.result c.as_slice.ensures.value c.first_arrival-entering.ensures left.0.entered in
    let late = late_of p plan fits handlers run s a m c.requires.core c.due-due.result (c.due-due.ensures p plan s.history m.at.cores c.requires.core) entered left.0.woken in
    let kept = get_or_default run.turns.looks a None _ (let few = c.requires.limits.few_cores in omega arith) in
    (s, m, attempt_of_turn p plan fits handlers run s a m c.requires.core _ _ (get_or_default run.turns.worked a _ _ (let few = c.requires.limits.few_cores in omega arith)) (get_or_default run.turns.attempted a _ _ (let few = c.requires.limits.few_cores in omega arith)) late c.in-Attempt.look left.1 left.2 (kept ∙ left.3))

pub returns-in-Attempt-clause-step : goal.returns-in-Attempt-clause-step
returns-in-Attempt-clause-step c s m is =
    let p = meaning_of c.args.policy.now in let plan = c.args.plan.now in let run = c.args.self.now in let a = c.args.core in let fits = c.requires.fits in let handlers = c.requires.handlers in
    let left = tries_next _ _ _ _ _ c.in-Attempt.look (sym c.next_in_turn.ensures ∙ c.in-Attempt.is) in
    let entered = let_in_of p plan fits handlers run s a m c.requires.core _ c.first_arrival-entering.result c.as_slice.ensures.value c.first_arrival-entering.ensures left.0.entered in
    let late = late_of p plan fits handlers run s a m c.requires.core c.due-due.result (c.due-due.ensures p plan s.history m.at.cores c.requires.core) entered left.0.woken in
    let kept = get_or_default run.turns.looks a None _ (let few = c.requires.limits.few_cores in omega arith) in
    c.attempt.ensures s m (attempt_of_turn p plan fits handlers run s a m c.requires.core _ _ (get_or_default run.turns.worked a _ _ (let few = c.requires.limits.few_cores in omega arith)) (get_or_default run.turns.attempted a _ _ (let few = c.requires.limits.few_cores in omega arith)) late c.in-Attempt.look left.1 left.2 (kept ∙ left.3))

pub returns-in-Over-clause-step : goal.returns-in-Over-clause-step
returns-in-Over-clause-step c s m is =
    let p = meaning_of c.args.policy.now in let plan = c.args.plan.now in let run = c.args.self.now in let a = c.args.core in let fits = c.requires.fits in let handlers = c.requires.handlers in
    let left = over_next _ _ _ _ _ (sym c.next_in_turn.ensures ∙ c.in-Over.is) in
    let entered = let_in_of p plan fits handlers run s a m c.requires.core _ c.first_arrival-entering.result c.as_slice.ensures.value c.first_arrival-entering.ensures left.0.entered in
    let late = late_of p plan fits handlers run s a m c.requires.core c.due-due.result (c.due-due.ensures p plan s.history m.at.cores c.requires.core) entered left.0.woken in
    subst (IsMoment p plan run) (sym (over_of p plan fits handlers run s a m c.requires.core _ _ refl (get_or_default run.turns.attempted a _ _ (let few = c.requires.limits.few_cores in omega arith)) late left.1)) m

pub returns-in-Over-clause-over : goal.returns-in-Over-clause-over
returns-in-Over-clause-over c none s m =
    let p = meaning_of c.args.policy.now in let plan = c.args.plan.now in let run = c.args.self.now in let a = c.args.core in let fits = c.requires.fits in let handlers = c.requires.handlers in
    let left = over_next _ _ _ _ _ (sym c.next_in_turn.ensures ∙ c.in-Over.is) in
    let entered = let_in_of p plan fits handlers run s a m c.requires.core _ c.first_arrival-entering.result c.as_slice.ensures.value c.first_arrival-entering.ensures left.0.entered in
    let late = late_of p plan fits handlers run s a m c.requires.core c.due-due.result (c.due-due.ensures p plan s.history m.at.cores c.requires.core) entered left.0.woken in
    over_of p plan fits handlers run s a m c.requires.core _ _ refl (get_or_default run.turns.attempted a _ _ (let few = c.requires.limits.few_cores in omega arith)) late left.1
