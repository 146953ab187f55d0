-- The numbers of the limits, said a second time, so that none is changed by a slip.
use Rattle.std.specs.Prelude.{◌≡◌, ◌^◌, pos}
use Rattle.sched_base.specs.declared.limits.TheConstants.{MAX_CORES, MAX_THREADS, MAX_WEIGHT, MAX_LOAD, MAX_ROUNDS}
use Rattle.sched_base.specs.declared.limits.TheConstants.{MAX_ENTRIES, DEFAULT_ENTRIES, MAX_BURSTS, MAX_UNITS}
use Rattle.sched_base.specs.declared.limits.TheConstants.{MAX_BLOCK_ROUNDS, MAX_ORDER_CORES, MAX_ATTRIBUTES}
use Rattle.sched_base.specs.declared.limits.TheConstants.{MAX_ATTRIBUTE, MAX_CASES, MAX_SETS, MAX_KEYS, MAX_COMPARISONS}
use Rattle.sched_base.specs.declared.limits.TheConstants.{MAX_OPERATORS, MAX_NESTING, MAX_COEFFICIENT, MAX_VARIABLES}
use Rattle.sched_base.specs.declared.limits.TheConstants.{MAX_SYSTEM_CASES, MAX_ROWS, MAX_END, MAX_ROW_COEFFICIENT}
use Rattle.sched_base.specs.declared.limits.TheConstants.{MAX_ROW_BOUND, MAX_SPLITS, CHECK_BUDGET, MAX_NAME_BYTES}
use Rattle.sched_base.specs.declared.limits.TheConstants.{MAX_DIGITS, MAX_POLICY_BYTES, MAX_TRACE_BYTES}
use Rattle.sched_base.specs.declared.limits.TheConstants.{MAX_HISTORY_BYTES, MAX_CERTIFICATE_BYTES, MAX_STOLEN}
use Rattle.sched_base.specs.declared.limits.TheConstants.{MAX_LEVELS, MAX_LEVEL_COMPARISONS, MAX_LEVEL_KEYS}
use Rattle.sched_base.specs.declared.limits.TheConstants.{MAX_WORKERS}

-- each limit is this number
pub record LimitsAreSaid : Type 0 where
  pub cores : MAX_CORES ≡ 64
  pub workers : MAX_WORKERS ≡ 64
  pub stolen : MAX_STOLEN ≡ 8
  pub levels : MAX_LEVELS ≡ 3
  pub level_comparisons : MAX_LEVEL_COMPARISONS ≡ 3
  pub level_keys : MAX_LEVEL_KEYS ≡ 2
  pub threads : MAX_THREADS ≡ 1023
  pub weight : MAX_WEIGHT ≡ 1048575
  pub load : MAX_LOAD ≡ 1072692225
  pub rounds : MAX_ROUNDS ≡ 4096
  pub entries : MAX_ENTRIES ≡ 65536
  pub entries_unless_told : DEFAULT_ENTRIES ≡ 8192
  pub bursts : MAX_BURSTS ≡ 16
  pub units : MAX_UNITS ≡ 1048575
  pub block_rounds : MAX_BLOCK_ROUNDS ≡ 4096
  pub order_cores : MAX_ORDER_CORES ≡ 256
  pub attributes : MAX_ATTRIBUTES ≡ 8
  pub attribute : MAX_ATTRIBUTE ≡ pos 1048575
  pub cases : MAX_CASES ≡ 8
  pub sets : MAX_SETS ≡ 8
  pub keys : MAX_KEYS ≡ 4
  pub comparisons : MAX_COMPARISONS ≡ 16
  pub operators : MAX_OPERATORS ≡ 32
  pub nesting : MAX_NESTING ≡ 32
  pub coefficient : MAX_COEFFICIENT ≡ pos (2 ^ 40)
  pub variables : MAX_VARIABLES ≡ 30
  pub system_cases : MAX_SYSTEM_CASES ≡ 256
  pub rows : MAX_ROWS ≡ 256
  pub range_end : MAX_END ≡ 2 ^ 41
  pub row_coefficient : MAX_ROW_COEFFICIENT ≡ 2 ^ 42
  pub row_bound : MAX_ROW_BOUND ≡ 2 ^ 62
  pub splits : MAX_SPLITS ≡ 128
  pub budget : CHECK_BUDGET ≡ 65536
  pub name_bytes : MAX_NAME_BYTES ≡ 32
  pub digits : MAX_DIGITS ≡ 19
  pub policy_bytes : MAX_POLICY_BYTES ≡ 65536
  pub trace_bytes : MAX_TRACE_BYTES ≡ 4194304
  pub history_bytes : MAX_HISTORY_BYTES ≡ 33554432
  pub certificate_bytes : MAX_CERTIFICATE_BYTES ≡ 33554432
