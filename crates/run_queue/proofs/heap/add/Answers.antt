use Rattle.std.proofs.Common.{◌≡◌, IsPermutation, length, List, sym, ap, subst, ◌∙◌, arith}
use Rattle.std.proofs.lemmas.List.{length_push}
use Rattle.policy_tree.specs.Meaning.{order_tree}
use Rattle.run_queue.specs.declared.ranked.Ranked.{Ranked}
use Rattle.run_queue.specs.Code.Ahead.{AllNodes, ahead}
use Rattle.run_queue.specs.Code.Heaps.{IsHeapBut, LeadsChildren}
use Rattle.run_queue.proofs.Ordered.{items_order}
use Rattle.run_queue.proofs.Sifting.{pushed_but, pushed_leads}
use Rattle.run_queue.proofs.heap.add.Goals as goal

pub sift_up-requires-clause-nodes : goal.sift_up-requires-clause-nodes
sift_up-requires-clause-nodes c = subst (AllNodes c.args.line.now.cells) (sym c.push_reserved.ensures.items) c.requires.nodes

pub sift_up-requires-clause-inside : goal.sift_up-requires-clause-inside
sift_up-requires-clause-inside c =
    let more = ap (λ (xs : List Ranked). length xs) c.push_reserved.ensures.items ∙ length_push c.args.heap.now.items c.args.item in
    let end = c.len-end.ensures in let ok = c.args.heap.now.ok.0 in
    omega arith

pub sift_up-requires-clause-but : goal.sift_up-requires-clause-but
sift_up-requires-clause-but c =
    let keys = order_tree c.args.order.now in let cells = c.args.line.now.cells in let items = c.args.heap.now.items in
    let end : length items ≡ c.len-end.result = let ok = c.args.heap.now.ok.0 in let e = c.len-end.ensures in omega arith in
    subst (λ k. IsHeapBut (ahead keys cells) c.push_reserved.new.self.items k) end
    (subst (λ (xs : List Ranked). IsHeapBut (ahead keys cells) xs (length items)) (sym c.push_reserved.ensures.items)
    (pushed_but (ahead keys cells) (items_order keys cells) items c.args.item c.requires.heap))

pub sift_up-requires-clause-leads : goal.sift_up-requires-clause-leads
sift_up-requires-clause-leads c =
    let keys = order_tree c.args.order.now in let cells = c.args.line.now.cells in let items = c.args.heap.now.items in
    let end : length items ≡ c.len-end.result = let ok = c.args.heap.now.ok.0 in let e = c.len-end.ensures in omega arith in
    subst (λ k. LeadsChildren (ahead keys cells) c.push_reserved.new.self.items k) end
    (subst (λ (xs : List Ranked). LeadsChildren (ahead keys cells) xs (length items)) (sym c.push_reserved.ensures.items)
    (pushed_leads (ahead keys cells) (items_order keys cells) items c.args.item c.requires.heap))

pub returns-clause-items : goal.returns-clause-items
returns-clause-items c = subst (λ (xs : List Ranked). IsPermutation xs c.sift_up.new.heap.items) c.push_reserved.ensures.items c.sift_up.ensures.items
