use Rattle.std.proofs.Common.{◌≡◌, ◌++◌, drop, take, find}
use Rattle.run_queue.specs.Code.Lines.{spot_at, tasks_of}
use Rattle.run_queue.specs.Tasks.{is_thread, without_first}
use Rattle.run_queue.proofs.scans.thread_spot.Given as goal

-- the tasks passed over have other numbers
abbrev pub invariant-loop-place : goal.invariant-loop-place
invariant-loop-place l = record {
  next : l.next ≡ spot_at l.line.cells l._place;
  found : find (is_thread l.id) (drop l._place (tasks_of l.line.cells)) ≡ find (is_thread l.id) (tasks_of l.line.cells);
  rest : without_first (is_thread l.id) (tasks_of l.line.cells)
      ≡ take l._place (tasks_of l.line.cells) ++ without_first (is_thread l.id) (drop l._place (tasks_of l.line.cells));
}
