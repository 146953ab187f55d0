use Rattle.std.proofs.Common.{◌≡◌, ◌==◌, drop, find}
use Rattle.round_model.specs.declared.plan.Planned.{Planned}
use Rattle.round_model.specs.Programs.{planned_of}
use Rattle.round_model.proofs.programs.planned.Given as goal

-- the threads passed over have other numbers
abbrev pub invariant-loop-thread : goal.invariant-loop-thread
invariant-loop-thread l = find (λ (t : Planned). t.id == l.id) (drop l.thread-index l.plan.threads) ≡ planned_of l.plan l.id
