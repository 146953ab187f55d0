use Rattle.std.proofs.Common.{◌≡◌, ◌-◌, ◌<◌, IsPermutation, length}
use Rattle.std.specs.Vec.{vec_capacity}
use Rattle.policy_tree.specs.Meaning.{order_tree}
use Rattle.run_queue.specs.Code.Ahead.{ahead}
use Rattle.run_queue.specs.Code.Heaps.{FollowsParent, IsHeapBut}
use Rattle.run_queue.proofs.sift.sift_down.Given as goal

-- the item is in its place but for its children
abbrev pub invariant-loop-child : goal.invariant-loop-child
invariant-loop-child l = record {
  items : IsPermutation l.initial.heap.items l.heap.items;
  inside : l.here < length l.heap.items;
  but : IsHeapBut (ahead (order_tree l.order) l.line.cells) l.heap.items l.here;
  follows : FollowsParent (ahead (order_tree l.order) l.line.cells) l.heap.items l.here;
  capacity : vec_capacity l.heap ≡ vec_capacity l.initial.heap;
}

abbrev pub decreases-loop-child : goal.decreases-loop-child
decreases-loop-child l = length l.heap.items - l.here
