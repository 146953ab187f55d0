use Rattle.std.proofs.Common.{◌≡◌, length}
use Rattle.std.specs.Prelude.{vec_len}
use Rattle.serial_tests.specs.Drawn.{AreMembers}
use Rattle.serial_tests.proofs.plans.members.Given as goal

-- so many threads are made
abbrev pub invariant-loop-at : goal.invariant-loop-at
invariant-loop-at l = record {
  count : length l.threads.items ≡ l.at;
  long : vec_len l.threads ≡ l.at;
  each : AreMembers l.cores l.threads.items;
}
