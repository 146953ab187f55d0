use Rattle.std.proofs.Common.{◌≡◌, ◌==◌, ◌≤◌, map, filter, take}
use Rattle.std.specs.Prelude.{vec_capacity, vec_len}
use Rattle.round_model.specs.declared.plan.Planned.{Planned}
use Rattle.round_judge.specs.Past.{arrival_of}
use Rattle.core_worker.proofs.run.await_all.Given as goal

-- the arrivals among the threads passed over
abbrev pub invariant-loop-thread : goal.invariant-loop-thread
invariant-loop-thread l = record {
  found : l.arrivals.items ≡ map arrival_of (filter (λ (t : Planned). t.round == l.number) (take l.thread-index l.plan.threads));
  few : vec_len l.arrivals ≤ l.thread-index;
  room : vec_capacity l.arrivals ≡ vec_capacity l.fn.arrivals;
}
