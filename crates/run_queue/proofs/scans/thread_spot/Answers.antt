use Rattle.std.proofs.Common.{◌≡◌, suc, ◌+◌, ◌++◌, take, List, sym, ap, ◌∙◌, arith, eq-eqb, ne_eqb}
use Rattle.sched_base.specs.declared.task.Task.{Task}
use Rattle.run_queue.specs.Code.Lines.{spot_at, tasks_of}
use Rattle.run_queue.specs.Tasks.{is_thread}
use Rattle.run_queue.proofs.Scanning.{find-here, find-next, without_first-here, without_first-next}
use Rattle.run_queue.proofs.scans.thread_spot.Goals as goal

pub returns-then-task-id : goal.returns-then-task-id
returns-then-task-id c =
    let tasks = tasks_of c.args.line.now.cells in let place = c.loop-place._place in
    let there = sym c.loop-place.invariant.next ∙ c.in-Some.is in
    let at = c.task.ensures place there in
    record {
      place = place;
      there = there;
      found = sym c.loop-place.invariant.found ∙ find-here (is_thread c.args.id) tasks place _ at (eq-eqb _ _ c.if-task-id.true);
      rest = c.loop-place.invariant.rest ∙ ap (λ (rest : List Task). take place tasks ++ rest) (without_first-here (is_thread c.args.id) tasks place _ at (eq-eqb _ _ c.if-task-id.true));
    }

pub loop-place-preserved : goal.loop-place-preserved
loop-place-preserved c =
    let cells = c.args.line.now.cells in let tasks = tasks_of cells in let place = c.loop-place._place in
    let there = sym c.loop-place.invariant.next ∙ c.in-Some.is in
    let at = c.task.ensures place there in
    let next : suc place ≡ place + 1 = omega arith in
    record {
      next = c.after-next.ensures place there ∙ ap (λ n. spot_at cells n) next;
      found = find-next (is_thread c.args.id) tasks place _ at (ne_eqb _ _ c.if-task-id.false) ∙ c.loop-place.invariant.found;
      rest = c.loop-place.invariant.rest ∙ without_first-next (is_thread c.args.id) tasks place _ at (ne_eqb _ _ c.if-task-id.false);
    }
