use Rattle.std.proofs.Common.{◌≡◌, ◌≤◌, ℕ, []}
use Rattle.core_table.specs.Logs.{own_log}
use Rattle.turn_tests.specs.Memory.{IsReady, IsSameMemory, history_of}
use Rattle.turn_tests.proofs.playing.play_round.Given as goal

-- the cores to come have done nothing
abbrev pub invariant-loop-core : goal.invariant-loop-core
invariant-loop-core g l = record {
  ready : IsReady l.calls;
  same : IsSameMemory l.fn.calls l.calls;
  fresh : (c : ℕ) → l.core ≤ c → own_log c (history_of l.calls) ≡ [];
}
