use Rattle.std.proofs.Common.{◌<◌, List, length, sym, subst, ◌∙◌, arith}
use Rattle.std.proofs.lemmas.List.Sorted.{All-permutation, IsPermutation-swap, IsPermutation-trans, length_permutation}
use Rattle.policy_tree.specs.Meaning.{order_tree}
use Rattle.run_queue.specs.declared.ranked.Ranked.{Ranked}
use Rattle.run_queue.specs.Code.Ahead.{AllNodes, HasNode, ahead}
use Rattle.run_queue.specs.Code.Heaps.{IsChildAhead, LeadsChildren}
use Rattle.run_queue.proofs.Ordered.{items_order}
use Rattle.run_queue.proofs.Sifting.{follows_down, mended, moved_down, parent_before}
use Rattle.run_queue.proofs.sift.sift_down.Goals as goal

pub child_ahead-requires-clause-nodes : goal.child_ahead-requires-clause-nodes
child_ahead-requires-clause-nodes c =
    subst (AllNodes c.args.line.now.cells) (sym c.deref.ensures.value)
    (All-permutation (λ (item : Ranked). HasNode c.args.line.now.cells item.node) _ _ c.loop-child.invariant.items c.requires.nodes)

pub child_ahead-requires-clause-inside : goal.child_ahead-requires-clause-inside
child_ahead-requires-clause-inside c = subst (λ (xs : List Ranked). c.loop-child.here < length xs) (sym c.deref.ensures.value) c.loop-child.invariant.inside

pub swap-requires : goal.swap-requires
swap-requires c =
    let is : IsChildAhead (ahead (order_tree c.args.order.now) c.args.line.now.cells) c.loop-child.heap.items c.loop-child.here c.in-Some.child =
    subst (λ (all : List Ranked). IsChildAhead (ahead (order_tree c.args.order.now) c.args.line.now.cells) all c.loop-child.here c.in-Some.child) c.deref.ensures.value c.in-Some.ensures in
    let inside = is.place.inside in
    record { i_in_bounds = omega arith; j_in_bounds = omega arith }

pub loop-child-smaller : goal.loop-child-smaller
loop-child-smaller c =
    let xs = c.loop-child.heap.items in let ys = c.swap.new.self.items in
    let is : IsChildAhead (ahead (order_tree c.args.order.now) c.args.line.now.cells) c.loop-child.heap.items c.loop-child.here c.in-Some.child =
    subst (λ (all : List Ranked). IsChildAhead (ahead (order_tree c.args.order.now) c.args.line.now.cells) all c.loop-child.here c.in-Some.child) c.deref.ensures.value c.in-Some.ensures in
    let child = is.place in
    let less = parent_before c.loop-child.here c.in-Some.child child.child in
    let size = length_permutation xs ys (IsPermutation-swap xs ys c.loop-child.here c.in-Some.child c.loop-child.invariant.inside child.inside c.swap.ensures.items) in
    let inside = child.inside in
    omega arith

pub loop-child-preserved : goal.loop-child-preserved
loop-child-preserved c =
    let cells = c.args.line.now.cells in let keys = order_tree c.args.order.now in
    let xs = c.loop-child.heap.items in let ys = c.swap.new.self.items in
    let here = c.loop-child.here in let child = c.in-Some.child in let was = c.loop-child.invariant in
    let is : IsChildAhead (ahead (order_tree c.args.order.now) c.args.line.now.cells) c.loop-child.heap.items c.loop-child.here c.in-Some.child =
    subst (λ (all : List Ranked). IsChildAhead (ahead (order_tree c.args.order.now) c.args.line.now.cells) all c.loop-child.here c.in-Some.child) c.deref.ensures.value c.in-Some.ensures in
    let moved = IsPermutation-swap xs ys here child was.inside is.place.inside c.swap.ensures.items in
    let size = length_permutation xs ys moved in
    let inside = is.place.inside in
    record {
      items = IsPermutation-trans _ xs ys was.items moved;
      inside = omega arith;
      but = moved_down (ahead keys cells) (items_order keys cells) xs ys here child c.swap.ensures.by_index size was.but is;
      follows = follows_down (ahead keys cells) (items_order keys cells) xs ys here child c.swap.ensures.by_index size was.but is;
      capacity = c.swap.ensures.capacity ∙ was.capacity;
    }

pub returns-clause-heap : goal.returns-clause-heap
returns-clause-heap c =
    let cells = c.args.line.now.cells in let keys = order_tree c.args.order.now in
    mended (ahead keys cells) (items_order keys cells) c.loop-child.heap.items c.loop-child.here c.loop-child.invariant.but (subst (λ (all : List Ranked). LeadsChildren (ahead keys cells) all c.loop-child.here) c.deref.ensures.value c.in_default.ensures) c.loop-child.invariant.follows
