use Rattle.std.proofs.Common.{◌-◌, MatchOption, find, sym, ap, subst, ◌∙◌, arith}
use Rattle.std.specs.Vec.{vec_capacity}
use Rattle.policy_tree.specs.Meaning.{order_tree}
use Rattle.run_queue.specs.Code.Scans.{HasNoThread, IsThreadSpot}
use Rattle.run_queue.specs.Tasks.{QueueView, is_thread, without_first}
use Rattle.run_queue.proofs.Keeping.{kept_removed, weight_within}
use Rattle.run_queue.proofs.Scanning.{view_without}
use Rattle.run_queue.proofs.queue.Queue.take_thread.Goals as goal

pub take_out-task-requires : goal.take_out-task-requires
take_out-task-requires c =
    let cells = c.self.inside.line.cells in
    let found = subst (λ o. MatchOption o (HasNoThread c.args.id cells) (IsThreadSpot c.args.id cells)) c.in_ok-spot.was c.thread_spot.ensures in
    record { spot = (found.place, found.there); heap = c.self.invariant.heap }

pub overflow_sub-self : goal.overflow_sub-self
overflow_sub-self c =
    let cells = c.self.inside.line.cells in let taken = c.take_out-task in
    let found = subst (λ o. MatchOption o (HasNoThread c.args.id cells) (IsThreadSpot c.args.id cells)) c.in_ok-spot.was c.thread_spot.ensures in
    let less = weight_within (order_tree c.self.inside.order) c.self.inside.line c.self.inside.line c.self.inside.heap.items (vec_capacity c.self.inside.heap) c.self.inside.next c.self.inside.sum
    c.self.invariant found.place taken.result (taken.ensures.task found.place found.there) in
    omega (arith, c.from.ensures)

pub invariant_of-self : goal.invariant_of-self
invariant_of-self c =
    let cells = c.self.inside.line.cells in let taken = c.take_out-task in
    let found = subst (λ o. MatchOption o (HasNoThread c.args.id cells) (IsThreadSpot c.args.id cells)) c.in_ok-spot.was c.thread_spot.ensures in
    kept_removed (order_tree c.self.inside.order) c.self.inside.line taken.new.line c.self.inside.heap.items (vec_capacity c.self.inside.heap) c.self.inside.next c.self.inside.sum
    c.self.invariant found.place taken.result (taken.ensures.task found.place found.there) (taken.ensures.rest found.place found.there) taken.new.heap.items _ _
    taken.ensures.heap (taken.ensures.came c.self.inside.next c.self.invariant.came) taken.ensures.capacity (ap (λ w. c.self.inside.sum - w) c.from.ensures)

pub returns-clause-task : goal.returns-clause-task
returns-clause-task c =
    let cells = c.self.inside.line.cells in
    let found = subst (λ o. MatchOption o (HasNoThread c.args.id cells) (IsThreadSpot c.args.id cells)) c.in_ok-spot.was c.thread_spot.ensures in
    sym (c.take_out-task.ensures.task found.place found.there) ∙ (sym found.found ∙ ap (λ (q : QueueView). find (is_thread c.args.id) q.tasks) c.self.view_is)

pub returns-clause-rest : goal.returns-clause-rest
returns-clause-rest c =
    let line = c.self.inside.line in let cells = line.cells in let keys = order_tree c.self.inside.order in
    let found = subst (λ o. MatchOption o (HasNoThread c.args.id cells) (IsThreadSpot c.args.id cells)) c.in_ok-spot.was c.thread_spot.ensures in
    view_without line c.take_out-task.new.line keys found.place _ (c.take_out-task.ensures.rest found.place found.there) (sym found.rest)
    ∙ ap (λ (q : QueueView). let r : QueueView = record q { tasks = without_first (is_thread c.args.id) q.tasks } in r) c.self.view_is
