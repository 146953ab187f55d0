use Rattle.std.proofs.Common.{◌<◌, List, length, sym, subst}
use Rattle.policy_tree.specs.Meaning.{order_tree}
use Rattle.run_queue.specs.declared.ranked.Ranked.{Ranked}
use Rattle.run_queue.specs.Code.Ahead.{AllNodes, ahead}
use Rattle.run_queue.specs.Code.Heaps.{FollowsParent, IsParentBehind}
use Rattle.run_queue.proofs.Ordered.{items_order}
use Rattle.run_queue.proofs.Sifting.{leads_if_ahead}
use Rattle.run_queue.proofs.heap.mend.Goals as goal

pub parent_behind-requires-clause-nodes : goal.parent_behind-requires-clause-nodes
parent_behind-requires-clause-nodes c = subst (AllNodes c.args.line.now.cells) (sym c.deref.ensures.value) c.requires.nodes

pub parent_behind-requires-clause-inside : goal.parent_behind-requires-clause-inside
parent_behind-requires-clause-inside c = subst (λ (xs : List Ranked). c.args.at < length xs) (sym c.deref.ensures.value) c.requires.inside

pub sift_up-requires-clause-leads : goal.sift_up-requires-clause-leads
sift_up-requires-clause-leads c =
    let keys = order_tree c.args.order.now in let cells = c.args.line.now.cells in
    let is : IsParentBehind (ahead keys cells) c.args.heap.now.items c.args.at c.in-Some._parent =
    subst (λ (all : List Ranked). IsParentBehind (ahead (order_tree c.args.order.now) c.args.line.now.cells) all c.args.at c.in-Some._parent) c.deref.ensures.value c.in-Some.ensures in
    leads_if_ahead (ahead keys cells) (items_order keys cells) c.args.heap.now.items c.args.at c.in-Some._parent c.requires.but is.child is.first

pub sift_down-requires-clause-follows : goal.sift_down-requires-clause-follows
sift_down-requires-clause-follows c =
    subst (λ (all : List Ranked). FollowsParent (ahead (order_tree c.args.order.now) c.args.line.now.cells) all c.args.at) c.deref.ensures.value c.in-None.ensures
