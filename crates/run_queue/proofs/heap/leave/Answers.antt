use Rattle.std.proofs.Common.{◌≡◌, ℕ, ◌<◌, ◌∷◌, IsPermutation, get_or, length, List, sym, subst, arith}
use Rattle.std.specs.List.{swap_remove}
use Rattle.std.proofs.lemmas.List.Elements.{All-tail}
use Rattle.std.proofs.lemmas.List.Sorted.{All-permutation, IsPermutation-cons, IsPermutation-swap_remove, IsPermutation-trans}
use Rattle.policy_tree.specs.Meaning.{order_tree}
use Rattle.run_queue.specs.declared.ranked.Ranked.{Ranked}
use Rattle.run_queue.specs.Code.Ahead.{HasNode, ahead}
use Rattle.run_queue.proofs.Ordered.{items_order}
use Rattle.run_queue.proofs.Sifting.{mended_at_end, removed_but}
use Rattle.run_queue.proofs.heap.leave.Goals as goal

-- the items are those left and the one that left
moved : (items rest : List Ranked) (at : ℕ) (item : Ranked) → at < length items → item ≡ get_or items at item → rest ≡ swap_remove items at item → IsPermutation items (item ∷ rest)
moved items rest at item inside is left =
    subst (λ (xs : List Ranked). IsPermutation items (item ∷ xs)) (sym left) (IsPermutation-swap_remove items at item inside is)

pub returns-then-at-len-clause-items : goal.returns-then-at-len-clause-items
returns-then-at-len-clause-items c =
    moved c.args.heap.now.items c.swap_remove-item.new.self.items c.args.at c.swap_remove-item.result c.requires.inside c.swap_remove-item.ensures.value c.swap_remove-item.ensures.items

pub returns-then-at-len-clause-heap : goal.returns-then-at-len-clause-heap
returns-then-at-len-clause-heap c =
    let ranks = ahead (order_tree c.args.order.now) c.args.line.now.cells in
    let order = items_order (order_tree c.args.order.now) c.args.line.now.cells in
    let items = c.args.heap.now.items in let rest = c.swap_remove-item.new.self.items in
    let old = c.args.heap.now.ok.0 in let new = c.swap_remove-item.new.self.ok.0 in let less = c.swap_remove-item.ensures.len in
    let end = c.if-at-len.true in let size = c.len.ensures in
    mended_at_end ranks order rest c.args.at
    (removed_but ranks order items rest c.args.at c.requires.heap c.requires.inside (omega arith)
    (λ j d else more. c.swap_remove-item.ensures.by_index.1 j d else (omega arith)))
    (omega arith)

pub mend-requires-clause-nodes : goal.mend-requires-clause-nodes
mend-requires-clause-nodes c =
    let items = c.args.heap.now.items in let rest = c.swap_remove-item.new.self.items in
    All-tail (λ (item : Ranked). HasNode c.args.line.now.cells item.node) c.swap_remove-item.result rest
    (All-permutation (λ (item : Ranked). HasNode c.args.line.now.cells item.node) items (c.swap_remove-item.result ∷ rest)
    (moved items rest c.args.at c.swap_remove-item.result c.requires.inside c.swap_remove-item.ensures.value c.swap_remove-item.ensures.items) c.requires.nodes)

pub mend-requires-clause-inside : goal.mend-requires-clause-inside
mend-requires-clause-inside c =
    let old = c.args.heap.now.ok.0 in let new = c.swap_remove-item.new.self.ok.0 in let less = c.swap_remove-item.ensures.len in
    let else = c.if-at-len.false in let size = c.len.ensures in let inside = c.requires.inside in
    omega arith

pub mend-requires-clause-but : goal.mend-requires-clause-but
mend-requires-clause-but c =
    let old = c.args.heap.now.ok.0 in let new = c.swap_remove-item.new.self.ok.0 in let less = c.swap_remove-item.ensures.len in
    removed_but (ahead (order_tree c.args.order.now) c.args.line.now.cells) (items_order (order_tree c.args.order.now) c.args.line.now.cells)
    c.args.heap.now.items c.swap_remove-item.new.self.items c.args.at c.requires.heap c.requires.inside (omega arith)
    (λ j d else more. c.swap_remove-item.ensures.by_index.1 j d else (omega arith))

pub returns-clause-items : goal.returns-clause-items
returns-clause-items c =
    let items = c.args.heap.now.items in let rest = c.swap_remove-item.new.self.items in
    IsPermutation-trans items (c.swap_remove-item.result ∷ rest) (c.swap_remove-item.result ∷ c.mend.new.heap.items)
    (moved items rest c.args.at c.swap_remove-item.result c.requires.inside c.swap_remove-item.ensures.value c.swap_remove-item.ensures.items)
    (IsPermutation-cons c.swap_remove-item.result rest c.mend.new.heap.items c.mend.ensures.items)
