use Rattle.std.proofs.Common.{◌<◌, List, length, sym, subst, ◌∙◌, arith}
use Rattle.std.proofs.lemmas.List.Sorted.{All-permutation, IsPermutation-swap, IsPermutation-trans, length_permutation}
use Rattle.policy_tree.specs.Meaning.{order_tree}
use Rattle.run_queue.specs.declared.ranked.Ranked.{Ranked}
use Rattle.run_queue.specs.Code.Ahead.{AllNodes, HasNode, ahead}
use Rattle.run_queue.specs.Code.Heaps.{FollowsParent, IsParentBehind}
use Rattle.run_queue.proofs.Ordered.{items_order}
use Rattle.run_queue.proofs.Sifting.{leads_up, mended, moved_up, parent_before}
use Rattle.run_queue.proofs.sift.sift_up.Goals as goal

pub parent_behind-requires-clause-nodes : goal.parent_behind-requires-clause-nodes
parent_behind-requires-clause-nodes c =
    subst (AllNodes c.args.line.now.cells) (sym c.deref.ensures.value)
    (All-permutation (λ (item : Ranked). HasNode c.args.line.now.cells item.node) _ _ c.loop-parent.invariant.items c.requires.nodes)

pub parent_behind-requires-clause-inside : goal.parent_behind-requires-clause-inside
parent_behind-requires-clause-inside c = subst (λ (xs : List Ranked). c.loop-parent.here < length xs) (sym c.deref.ensures.value) c.loop-parent.invariant.inside

pub swap-requires : goal.swap-requires
swap-requires c =
    let less = parent_before c.in-Some.parent c.loop-parent.here c.in-Some.ensures.child in
    record { i_in_bounds = omega arith; j_in_bounds = omega arith }

pub loop-parent-smaller : goal.loop-parent-smaller
loop-parent-smaller c = parent_before c.in-Some.parent c.loop-parent.here c.in-Some.ensures.child

pub loop-parent-preserved : goal.loop-parent-preserved
loop-parent-preserved c =
    let cells = c.args.line.now.cells in let keys = order_tree c.args.order.now in
    let xs = c.loop-parent.heap.items in let ys = c.swap.new.self.items in
    let here = c.loop-parent.here in let parent = c.in-Some.parent in let was = c.loop-parent.invariant in
    let is : IsParentBehind (ahead (order_tree c.args.order.now) c.args.line.now.cells) c.loop-parent.heap.items c.loop-parent.here c.in-Some.parent =
    subst (λ (all : List Ranked). IsParentBehind (ahead (order_tree c.args.order.now) c.args.line.now.cells) all c.loop-parent.here c.in-Some.parent) c.deref.ensures.value c.in-Some.ensures in
    let less = parent_before parent here is.child in
    let moved = IsPermutation-swap xs ys here parent was.inside (omega arith) c.swap.ensures.items in
    let size = length_permutation xs ys moved in
    record {
      items = IsPermutation-trans _ xs ys was.items moved;
      inside = omega arith;
      but = moved_up (ahead keys cells) (items_order keys cells) xs ys here parent is.child c.swap.ensures.by_index size was.inside was.but is.first;
      leads = leads_up (ahead keys cells) (items_order keys cells) xs ys here parent is.child c.swap.ensures.by_index size was.inside was.but is.first;
      capacity = c.swap.ensures.capacity ∙ was.capacity;
    }

pub returns-clause-heap : goal.returns-clause-heap
returns-clause-heap c =
    let cells = c.args.line.now.cells in let keys = order_tree c.args.order.now in
    mended (ahead keys cells) (items_order keys cells) c.loop-parent.heap.items c.loop-parent.here c.loop-parent.invariant.but c.loop-parent.invariant.leads (subst (λ (all : List Ranked). FollowsParent (ahead keys cells) all c.loop-parent.here) c.deref.ensures.value c.in_default.ensures)
