-- What `bench` says is true.
use Rattle.std.specs.Prelude.{◌≡◌, ℕ, List, [], ◌∷◌, Option}
use Rattle.sched_io.specs.Puts.{joined}
use Rattle.sched_io.specs.Written.{Adds}
use Rattle.sched_base.specs.declared.limits.TheConstants.{CHECK_BUDGET}
use Rattle.policy_tree.specs.Meaning.{meaning_of}
use Rattle.policy_checker.specs.Verdicts.{IsVerdict, policy_of}
use Rattle.policy_checker.specs.declared.verdict.Verdict.{Verdict}
use Rattle.policy_answers.specs.Lines.{verdict_lines}
use Rattle.serial_steps.specs.SerialRounds.{serial_history}
use Rattle.round_laws.specs.MainTheorem.{KeepsLaws}
use Rattle.fair_policy.specs.Fair.{fair_meaning}
use Rattle.bench_play.specs.declared.playing.BenchTotals.{BenchTotals}
use Rattle.bench_play.specs.Bench.{IsBench}
use Rattle.bench_play.specs.Lines.{bench_lines}
use Rattle.ipanema_cli.specs.Causes.{OneOf}
use Rattle.ipanema_cli.specs.Status.{code_of, verdict_status}
use Rattle.ipanema_cli.specs.CheckTruths.{AllToldTruly, SomeIsOpen}

-- The totals of the serial history of the made plan are written, which is whole and keeps the laws of every
-- interleaving.
pub record WritesBench (seed size : ℕ) (before after : Option (List ℕ)) : Type 0 where
  pub told : BenchTotals
  pub is : IsBench seed size told
  pub laws : KeepsLaws fair_meaning is.plan (serial_history fair_meaning is.plan)
  pub written : Adds (joined (bench_lines told)) before after

-- The lines of `check` are written, which answer for the policy `fair`.
pub record AnswersForFair (before after : Option (List ℕ)) (code : ℕ) : Type 0 where
  pub verdict : Verdict
  pub of : meaning_of (policy_of verdict) ≡ fair_meaning
  pub reasons : IsVerdict fair_meaning CHECK_BUDGET verdict
  pub words : AllToldTruly fair_meaning verdict
  pub written : Adds (joined (verdict_lines verdict)) before after
  pub status : code ≡ code_of (verdict_status verdict)

-- What `bench` writes is the bench, or that the policy `fair` is left undecided, of which a system is open then.
pub record BenchesTruly (seed size : ℕ) (before after : Option (List ℕ)) (code : ℕ) : Type 0 where
  pub ends : OneOf (0 ∷ 3 ∷ 5 ∷ 6 ∷ []) code
  pub benches : code ≡ 0 → WritesBench seed size before after
  pub lines : code ≡ 3 → AnswersForFair before after code
  pub decides : (SomeIsOpen fair_meaning → ⊥) → OneOf (0 ∷ 5 ∷ 6 ∷ []) code
