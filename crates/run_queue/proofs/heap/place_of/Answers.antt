use Rattle.std.proofs.Common.{ap, ◌∙◌, arith}
use Rattle.run_queue.specs.declared.ranked.Ranked.{Ranked}
use Rattle.run_queue.proofs.heap.place_of.Goals as goal

pub unreachable-requires : goal.unreachable-requires
unreachable-requires c =
    let inside = c.requires.1.1 in
    c.loop-at.invariant (c.requires.1.0) c.requires.0 (omega arith) (ap (λ (item : Ranked). item.node) (c.requires.1.2) ∙ c.requires.2)
