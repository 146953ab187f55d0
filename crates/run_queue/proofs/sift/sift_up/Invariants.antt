use Rattle.std.proofs.Common.{◌≡◌, ◌<◌, IsPermutation, length}
use Rattle.std.specs.Vec.{vec_capacity}
use Rattle.policy_tree.specs.Meaning.{order_tree}
use Rattle.run_queue.specs.Code.Ahead.{ahead}
use Rattle.run_queue.specs.Code.Heaps.{IsHeapBut, LeadsChildren}
use Rattle.run_queue.proofs.sift.sift_up.Given as goal

-- the item is in its place but for its parent
abbrev pub invariant-loop-parent : goal.invariant-loop-parent
invariant-loop-parent l = record {
  items : IsPermutation l.initial.heap.items l.heap.items;
  inside : l.here < length l.heap.items;
  but : IsHeapBut (ahead (order_tree l.order) l.line.cells) l.heap.items l.here;
  leads : LeadsChildren (ahead (order_tree l.order) l.line.cells) l.heap.items l.here;
  capacity : vec_capacity l.heap ≡ vec_capacity l.initial.heap;
}

abbrev pub decreases-loop-parent : goal.decreases-loop-parent
decreases-loop-parent l = l.here
