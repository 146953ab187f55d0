use Rattle.std.proofs.Common.{◌≡◌, ℕ, ◌<◌, Some}
use Rattle.run_queue.specs.Code.Lines.{node_at, spot_at}
use Rattle.run_queue.proofs.line.Line.spot_of.Given as goal

-- the nodes passed over are others
abbrev pub invariant-loop-place : goal.invariant-loop-place
invariant-loop-place l = record {
  next : l.next ≡ spot_at l.self.cells l._place;
  others : (k : ℕ) → k < l._place → node_at l.self.cells k ≡ Some l.node → ⊥;
}
