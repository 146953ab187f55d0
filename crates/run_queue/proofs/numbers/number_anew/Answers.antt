use Rattle.std.proofs.Common.{◌≡◌, suc, ◌+◌, refl, sym, ap, subst, ◌∙◌, arith}
use Rattle.std.proofs.lemmas.List.{length-take}
use Rattle.policy_tree.specs.Meaning.{order_tree}
use Rattle.run_queue.specs.declared.ranked.Ranked.{Ranked}
use Rattle.run_queue.specs.Code.Ahead.{ahead}
use Rattle.run_queue.specs.Code.Heaps.{IsHeap}
use Rattle.run_queue.specs.Code.Lines.{spot_at}
use Rattle.run_queue.specs.Code.Queues.{CameBefore}
use Rattle.run_queue.proofs.Numbering.{came_more, nodes_more, ranked_more, ranked_none, ranked_whole}
use Rattle.run_queue.proofs.Scanning.{spot_inside}
use Rattle.run_queue.proofs.numbers.number_anew.Goals as goal

pub loop-arrival-init : goal.loop-arrival-init
loop-arrival-init c =
    let empty = sym c.clear.ensures.items in
    record {
      next = c.first-next.ensures;
      ranked = ranked_none c.clear.new.self.items c.clear.ensures.items;
      came = subst (CameBefore 0) empty (λ k d inside. absurd (omega arith));
      heap = subst (IsHeap (ahead (order_tree c.args.order.now) c.args.line.now.cells)) empty (λ p k child inside. absurd (omega arith));
      capacity = refl;
    }

pub unreachable-requires : goal.unreachable-requires
unreachable-requires c =
    let len = c.len-arrival-end.ensures in
    spot_inside c.args.line.now.cells c.loop-arrival.arrival (omega arith) (sym c.loop-arrival.invariant.next ∙ c.in_default.is)

pub add-requires : goal.add-requires
add-requires c =
    let cells = c.args.line.now.cells in let k = c.loop-arrival.arrival in let was = c.loop-arrival.invariant in
    let there = sym was.next ∙ c.in-Some.is in
    let ok = c.loop-arrival.heap.ok.0 in let count = was.ranked.count in let size = length-take k cells in
    let len = c.len-arrival-end.ensures in let capacity = was.capacity in let same = c.clear.ensures.capacity in
    record {
      scan = c.requires.heap.scan;
      nodes = nodes_more cells c.requires.heap.apart k c.in-Some.spot there c.loop-arrival.heap.items was.ranked was.came _ refl refl;
      heap = was.heap;
      room = omega arith;
    }

pub loop-arrival-preserved : goal.loop-arrival-preserved
loop-arrival-preserved c =
    let cells = c.args.line.now.cells in let k = c.loop-arrival.arrival in let was = c.loop-arrival.invariant in
    let there = sym was.next ∙ c.in-Some.is in
    let items = c.loop-arrival.heap.items in let more = c.add.new.heap.items in
    let a : Ranked = record { node = c.in-Some.spot.node; arrival = k } in
    let next : suc k ≡ k + 1 = omega arith in
    record {
      next = c.after-next.ensures k there ∙ ap (λ n. spot_at cells n) next;
      ranked = ranked_more cells c.requires.heap.apart k c.in-Some.spot there items was.ranked was.came a refl refl more c.add.ensures.items;
      came = came_more cells c.requires.heap.apart k c.in-Some.spot there items was.ranked was.came a refl refl more c.add.ensures.items;
      heap = c.add.ensures.heap;
      capacity = c.add.ensures.capacity ∙ was.capacity;
    }

pub returns-clause-heap : goal.returns-clause-heap
returns-clause-heap c =
    let cells = c.args.line.now.cells in let was = c.loop-arrival.invariant in let len = c.len-arrival-end.ensures in
    record {
      scan = c.requires.heap.scan;
      apart = c.requires.heap.apart;
      ranked = ranked_whole cells c.loop-arrival.arrival c.loop-arrival.heap.items (omega arith) was.ranked;
      heap = was.heap;
    }
