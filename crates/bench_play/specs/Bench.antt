-- What a bench tells: the totals of one history, which a seed and a size determine.
use Rattle.std.specs.Prelude.{◌≡◌, ℕ, ◌≤◌, List, Ok, length}
use Rattle.sched_base.specs.declared.limits.TheConstants.{MAX_ENTRIES, MAX_THREADS}
use Rattle.round_model.specs.declared.plan.Plan.{Plan}
use Rattle.round_model.specs.Fits.{Fits}
use Rattle.round_model.specs.Legal.{Whole}
use Rattle.round_model.specs.Limits.{IsWithinLimits}
use Rattle.serial_steps.specs.SerialRounds.{serial_history}
use Rattle.job_trace.specs.declared.trace.Numbered.{Numbered}
use Rattle.job_trace.specs.Plans.{SpellsPlan}
use Rattle.trace_maker.specs.Made.{made}
use Rattle.sched_report.specs.Reports.{totals_of}
use Rattle.sched_report.specs.RoundRows.{round_rows}
use Rattle.fair_policy.specs.Fair.{fair_meaning}
use Rattle.bench_play.specs.declared.playing.BenchTotals.{BenchTotals}

-- a trace may have so many threads
pub record IsSize (size : ℕ) : Type 0 where
  pub some : 1 ≤ size
  pub few : size ≤ MAX_THREADS

-- the made trace means that plan under the policy `fair`
pub record IsMadePlan (seed size : ℕ) (plan : Plan) : Type 0 where
  pub trace : List Numbered
  pub made : made seed size ≡ Ok trace
  pub means : SpellsPlan fair_meaning trace plan
  pub fits : Fits fair_meaning plan
  pub limits : IsWithinLimits plan
  pub threads : length plan.threads ≡ size

-- the totals are those of the plan's serial history, which is whole
pub record IsBench (seed size : ℕ) (told : BenchTotals) : Type 0 where
  pub plan : Plan
  pub planned : IsMadePlan seed size plan
  pub whole : Whole fair_meaning plan (serial_history fair_meaning plan)
  pub few : length (serial_history fair_meaning plan) ≤ MAX_ENTRIES
  pub threads : told.threads ≡ size
  pub totals : told.totals ≡ totals_of (serial_history fair_meaning plan)
      (round_rows fair_meaning plan (serial_history fair_meaning plan))

-- a seed and a size have one bench
abbrev pub OneBenchLaw : Type 0
OneBenchLaw = (seed size : ℕ) (one other : BenchTotals) → IsBench seed size one → IsBench seed size other → one ≡ other
