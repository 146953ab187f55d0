-- What no call of a core in memory changes.
use Rattle.std.specs.Prelude.{◌≡◌, ◌≢◌, ℕ}
use Rattle.core_table.specs.Logs.{own_log}
use Rattle.turn_tests.specs.declared.memory_calls.MemoryCalls.{MemoryCalls}
use Rattle.turn_tests.specs.Memory.{core_of, history_of, plan_of, policy_of}

-- no other core than this one has done anything in the open round
abbrev pub OthersStay : ℕ → (before now : MemoryCalls) → Type 0
OthersStay core before now = (c : ℕ) → c ≢ core → own_log c (history_of now) ≡ own_log c (history_of before)

-- it is the same core's turn by the same policy and plan, and no other core has done anything in the open round
pub record IsSame (before now : MemoryCalls) : Type 0 where
  pub policy : policy_of now ≡ policy_of before
  pub plan : plan_of now ≡ plan_of before
  pub core : core_of now ≡ core_of before
  pub others : OthersStay (core_of before) before now
