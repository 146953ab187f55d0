-- What was taken so far and what is left are the rest.
use Rattle.std.proofs.Common.{◌≡◌, ℕ, List, [], ◌++◌, length, None}
use Rattle.sched_io.specs.Written.{Adds}
use Rattle.sched_io.proofs.sinks.put_rest.Given as goal

abbrev pub invariant-loop-left : goal.invariant-loop-left
invariant-loop-left g l = record {
  written : (front : List ℕ) × (l.rest ≡ front ++ l.left) × Adds front (g.S.Sink.shown l.initial.out).written (g.S.Sink.shown l.out).written;
  steady : (g.S.Sink.shown l.out).faults ≡ (g.S.Sink.shown l.initial.out).faults;
  silent : (g.S.Sink.shown l.initial.out).offered ≡ None → (g.S.Sink.shown l.out).offered ≡ None;
  idle : l.rest ≡ [] → (g.S.Sink.shown l.out).offered ≡ (g.S.Sink.shown l.initial.out).offered;
}

abbrev pub decreases-loop-left : goal.decreases-loop-left
decreases-loop-left g l = length l.left
