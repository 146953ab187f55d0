-- A seed and a size have one bench.
use Rattle.std.proofs.Common.{◌≡◌, ◌∙◌, ℕ, List, ap, ap₂, sym, subst, arith}
use Rattle.round_model.specs.declared.entry.Entry.{Entry}
use Rattle.round_model.specs.declared.plan.Plan.{Plan}
use Rattle.serial_steps.specs.SerialRounds.{serial_history}
use Rattle.serial_steps.specs.SerialEnds.{EndsWhole}
use Rattle.job_trace.specs.Plans.{plan_of}
use Rattle.sched_report.specs.declared.rows.Totals.{Totals}
use Rattle.sched_report.specs.Reports.{totals_of}
use Rattle.sched_report.specs.RoundRows.{round_rows}
use Rattle.fair_policy.specs.Fair.{fair_meaning}
use Rattle.bench_play.specs.declared.playing.BenchTotals.{BenchTotals}
use Rattle.bench_play.specs.Bench.{IsBench, IsMadePlan, OneBenchLaw}

-- the totals of a history of that plan
abbrev totals_in : Plan → List Entry → Totals
totals_in plan history = totals_of history (round_rows fair_meaning plan history)

pub is_bench : (seed size : ℕ) (plan : Plan) (history : List Entry) (told : BenchTotals) → IsMadePlan seed size plan → EndsWhole fair_meaning plan history → told.threads ≡ size
    → told.totals ≡ totals_of history (round_rows fair_meaning plan history) → IsBench seed size told
is_bench seed size plan history told planned ends threads totals =
    let played = subst (EndsWhole fair_meaning plan) ends.serial ends in
    record { plan = plan; planned = planned; whole = played.whole; few = let within = played.few in let most = planned.limits.few_entries in omega arith; threads = threads; totals = totals ∙ ap (totals_in plan) ends.serial }

one_plan : (seed size : ℕ) (one other : Plan) → IsMadePlan seed size one → IsMadePlan seed size other → one ≡ other
one_plan seed size one other is also =
    let same : is.trace ≡ also.trace = cc (is.made, also.made) in
    is.means.is ∙ (ap (plan_of fair_meaning) same ∙ sym also.means.is)

pub one_bench : OneBenchLaw
one_bench seed size one other is also =
    let same = one_plan seed size is.plan also.plan is.planned also.planned in
    let totals : one.totals ≡ other.totals = is.totals ∙ (ap (λ (plan : Plan). totals_in plan (serial_history fair_meaning plan)) same ∙ sym also.totals) in
    let threads : one.threads ≡ other.threads = is.threads ∙ sym also.threads in
    ap₂ told threads totals
  where
    told : ℕ → Totals → BenchTotals
    told n t = record { threads = n; totals = t }
