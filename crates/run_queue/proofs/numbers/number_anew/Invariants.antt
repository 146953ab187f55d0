use Rattle.std.proofs.Common.{◌≡◌, take}
use Rattle.std.specs.Vec.{vec_capacity}
use Rattle.policy_tree.specs.Meaning.{order_tree}
use Rattle.run_queue.specs.Code.Ahead.{ahead}
use Rattle.run_queue.specs.Code.Heaps.{IsHeap}
use Rattle.run_queue.specs.Code.Lines.{spot_at}
use Rattle.run_queue.specs.Code.Queues.{CameBefore, IsRanked}
use Rattle.run_queue.proofs.numbers.number_anew.Given as goal

-- the nodes so far have the numbers from 0 on
abbrev pub invariant-loop-arrival : goal.invariant-loop-arrival
invariant-loop-arrival l = record {
  next : l.next ≡ spot_at l.line.cells l.arrival;
  ranked : IsRanked (take l.arrival l.line.cells) l.heap.items;
  came : CameBefore l.arrival l.heap.items;
  heap : IsHeap (ahead (order_tree l.order) l.line.cells) l.heap.items;
  capacity : vec_capacity l.heap ≡ vec_capacity l.initial.heap;
}
