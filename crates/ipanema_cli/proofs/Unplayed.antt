-- A policy that was judged, and that can't be played.
use Rattle.std.specs.Prelude.{IsFalse}
use Rattle.std.proofs.Common.{◌≡◌, ℕ, List, Option, subst, sym}
use Rattle.sched_io.specs.Puts.{joined}
use Rattle.sched_io.specs.Told.{Told}
use Rattle.sched_io.specs.Written.{Adds}
use Rattle.policy_tree.specs.Meaning.{Meaning, meaning_of}
use Rattle.policy_checker.specs.Laws.{HasUncertainHandler}
use Rattle.policy_checker.specs.Playable.{is_playable}
use Rattle.policy_checker.specs.Verdicts.{policy_of}
use Rattle.policy_checker.specs.declared.verdict.Verdict.{Verdict}
use Rattle.policy_checker.proofs.KeptHandlers.{playable_law}
use Rattle.policy_answers.specs.Checks.{IsCheckOf}
use Rattle.policy_answers.specs.Lines.{check_lines}
use Rattle.policy_answers.specs.declared.answer.CheckAnswer.TheVariants as checked
use Rattle.ipanema_cli.specs.Status.{code_of, verdict_status}
use Rattle.ipanema_cli.specs.Texts.{MayRead}
use Rattle.ipanema_cli.specs.CheckTruths.{Spells}
use Rattle.ipanema_cli.specs.SimulationTruths.{WritesUnplayable}
use Rattle.ipanema_cli.specs.declared.texts.TextKind.TheVariants as kind
use Rattle.ipanema_cli.proofs.CheckTruths.{answered_policy, verdict_answers}
use Rattle.ipanema_cli.proofs.PolicyFacts.{resolved, same_policy}

module _ (policy : Told) (text : List ℕ) (v : Verdict) (read : MayRead kind.Policy policy text) (is : IsCheckOf text (checked.Judged v)) (unplayable : IsFalse (is_playable v)) where
  -- some handler obligation isn't met, or has an open system
  uncertain : HasUncertainHandler (meaning_of (policy_of v))
  uncertain = playable_law.others (meaning_of (policy_of v)) (resolved policy text (meaning_of (policy_of v)) read is.spells) v is.is unplayable

  -- so the file holds no policy whose handlers are certain
  pub never_certain : (other : Meaning) → Spells policy other → (HasUncertainHandler other → ⊥) → ⊥
  never_certain other held certain = certain (subst HasUncertainHandler (same_policy policy text (meaning_of (policy_of v)) other read is.spells held) uncertain)

  -- and the lines of `check` say so
  pub unplayable_lines : (before after : Option (List ℕ)) (code : ℕ) → code ≡ code_of (verdict_status v) → Adds (joined (check_lines (checked.Judged v))) before after
      → WritesUnplayable policy before after code
  unplayable_lines before after code own added = record {
    answers = verdict_answers policy text v before after code read is own added;
    uncertain = subst HasUncertainHandler (sym (answered_policy policy text v before after code read is own added)) uncertain;
  }
