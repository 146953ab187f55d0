use Rattle.std.proofs.Common.{◌≡◌, length}
use Rattle.sched_base.specs.declared.limits.TheConstants.{MAX_CORES}
use Rattle.turn_tests.specs.Memory.{history_of, meaning_in_memory, plan_of}
use Rattle.turn_tests.proofs.Reading.{AreSeen}
use Rattle.turn_tests.proofs.memory_calls.MemoryCalls.values_read.Given as goal

-- the cores passed over were seen
abbrev pub invariant-loop-core : goal.invariant-loop-core
invariant-loop-core l = record {
  long : length l.values ≡ MAX_CORES;
  seen : AreSeen (meaning_in_memory l.self) (plan_of l.self) (history_of l.self) l.reads l.values l.core;
}
