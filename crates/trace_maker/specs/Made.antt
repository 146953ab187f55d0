-- The made trace.
use Rattle.std.specs.Prelude.{◌≡◌, ℕ, zero, suc, ◌+◌, ◌/◌, ◌%◌, ◌==◌, List, [], ◌∷◌, ◌++◌, Result, Ok, Err, nat_lt}
use Rattle.std.specs.Prelude.{◌||◌, if◌then◌else◌}
use Rattle.sched_base.specs.declared.limits.TheConstants.{MAX_ENTRIES, MAX_THREADS}
use Rattle.round_model.specs.declared.plan.Burst.{Burst}
use Rattle.round_model.specs.declared.plan.Ending.TheVariants as ending
use Rattle.round_model.specs.declared.plan.Planned.{Planned}
use Rattle.job_trace.specs.declared.trace.TraceLine.TheVariants.{Cores, Rounds, Entries, Thread}
use Rattle.job_trace.specs.declared.trace.Numbered.{Numbered}
use Rattle.job_trace.specs.Forms.{burst}
use Rattle.job_trace.specs.TraceText.{numbered}
use Rattle.trace_maker.specs.declared.fault.MakeFault.{MakeFault}
use Rattle.trace_maker.specs.declared.fault.MakeFault.TheVariants.{Size, Memory}
use Rattle.trace_maker.specs.Generator.{drawn, state_after}

-- the cores of a made trace
abbrev pub made_cores : ℕ
made_cores = 32

-- the rounds of a made trace
abbrev pub made_rounds : ℕ
made_rounds = 60

-- the bursts of a kind, of so many units, and so many rounds of a block
abbrev pub bursts_of_kind : ℕ → ℕ → ℕ → List Burst
bursts_of_kind kind units rounds =
    if kind == 0 then burst 1 ending.Forever ∷ []
    else if kind == 1 then burst units ending.End ∷ []
    else if kind == 2 then burst units (ending.Block rounds) ∷ burst units ending.End ∷ []
    else burst units ending.Yield ∷ burst units ending.End ∷ []

-- the bursts that are made of what was drawn
abbrev pub made_bursts : ℕ → List Burst
made_bursts draw = bursts_of_kind (draw / 4096 % 4) (1 + draw / 256 % 16) (1 + draw / 16384 % 8)

-- the thread of that number that is made of what was drawn
abbrev pub made_thread : ℕ → ℕ → Planned
made_thread id draw = record {
  id = id;
  core = draw % 4;
  round = 1 + draw / 4 % 8;
  weight = 1 + draw / 32 % 8;
  bursts = made_bursts draw;
}

-- the lines before the threads
abbrev pub header : List Numbered
header = numbered 1 (Cores made_cores) ∷ numbered 2 (Rounds made_rounds) ∷ numbered 3 (Entries MAX_ENTRIES) ∷ []

-- the line of the thread of that number
abbrev pub thread_line : ℕ → ℕ → Numbered
thread_line id draw = numbered (id + 3) (Thread (made_thread id draw))

-- the lines of the first so many threads, each drawn from the state behind the one before
abbrev pub thread_lines : ℕ → ℕ → List Numbered
thread_lines seed zero = []
thread_lines seed (suc done) =
    thread_lines seed done ++ thread_line (suc done) (drawn (state_after seed (suc done))) ∷ []

-- the made trace
abbrev pub made_trace : ℕ → ℕ → List Numbered
made_trace seed size = header ++ thread_lines seed size

-- the answer: no trace has no thread, or more than there may be
abbrev pub made : ℕ → ℕ → Result (List Numbered) MakeFault
made seed size = if size == 0 || nat_lt MAX_THREADS size then Err Size else Ok (made_trace seed size)

-- the result is this answer, or the want of memory
abbrev pub IsMadeUnlessMemory : Result (List Numbered) MakeFault → Result (List Numbered) MakeFault → Type 0
IsMadeUnlessMemory answer (Ok trace) = answer ≡ Ok trace
IsMadeUnlessMemory answer (Err Size) = answer ≡ Err Size
IsMadeUnlessMemory answer (Err Memory) = Unit {0}
