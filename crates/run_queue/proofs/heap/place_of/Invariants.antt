use Rattle.std.proofs.Common.{◌≢◌, ℕ, ◌<◌, get_or}
use Rattle.run_queue.specs.declared.ranked.Ranked.{Ranked}
use Rattle.run_queue.proofs.heap.place_of.Given as goal

-- the items passed over have other nodes
abbrev pub invariant-loop-at : goal.invariant-loop-at
invariant-loop-at l = (k : ℕ) (d : Ranked) → k < l.at → (get_or l.heap k d).node ≢ l.node
