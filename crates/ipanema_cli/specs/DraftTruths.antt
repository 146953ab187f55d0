-- What `draft` says is true.
use Rattle.std.specs.Prelude.{◌≡◌, ℕ, List, [], ◌∷◌, Option}
use Rattle.sched_io.specs.Told.{Told}
use Rattle.sched_io.specs.Written.{Adds}
use Rattle.sched_base.specs.declared.limits.TheConstants.{CHECK_BUDGET}
use Rattle.policy_eval.specs.Obligations.{MeetsHandlerObligations}
use Rattle.policy_tree.specs.Meaning.{Meaning, meaning_of}
use Rattle.policy_checker.specs.Laws.{HasUncertainHandler}
use Rattle.policy_checker.specs.Verdicts.{IsVerdict, policy_of}
use Rattle.policy_checker.specs.declared.verdict.Verdict.{Verdict}
use Rattle.c_drafts.specs.Drafts.{draft_text}
use Rattle.ipanema_cli.specs.Causes.{OneOf}
use Rattle.ipanema_cli.specs.CheckTruths.{AllToldTruly, MaySpell, Refuses, Spells, TellsFault}
use Rattle.ipanema_cli.specs.SimulationTruths.{WritesUnplayable}

-- The header of a policy that can be played was written. What it says of the policy's obligations is the verdict on it,
-- and that is true.
pub record WritesDraft (policy : Told) (before after : Option (List ℕ)) : Type 0 where
  pub p : Meaning
  pub verdict : Verdict
  pub spelled : MaySpell policy p
  pub of : meaning_of (policy_of verdict) ≡ p
  pub reasons : IsVerdict p CHECK_BUDGET verdict
  pub words : AllToldTruly p verdict
  -- in each handler exactly one case holds, whatever the thread is
  pub handlers : MeetsHandlerObligations p
  pub written : Adds (draft_text verdict) before after

-- When each status must come, if the outside lets it be.
pub record MustDraft (policy : Told) (code : ℕ) : Type 0 where
  -- a policy that can be played gets its header
  pub drafts : (p : Meaning) → Spells policy p → (HasUncertainHandler p → ⊥) → OneOf (0 ∷ 4 ∷ 5 ∷ 6 ∷ []) code
  -- and one that doesn't meet its handler obligations a status that `check` has for such ones
  pub refuses : (p : Meaning) → Spells policy p → (MeetsHandlerObligations p → ⊥) →
      OneOf (1 ∷ 3 ∷ 4 ∷ 5 ∷ 6 ∷ []) code
  pub unjudged : Refuses policy code

-- What `draft` says of the policy in a file of which this is told is true.
pub record DraftsTruly (policy : Told) (before after : Option (List ℕ)) (code : ℕ) : Type 0 where
  pub drafted : code ≡ 0 → WritesDraft policy before after
  pub must : MustDraft policy code
  pub lines : OneOf (1 ∷ 3 ∷ []) code → WritesUnplayable policy before after code
  pub bad_text : code ≡ 2 → TellsFault policy before after
