-- What `prove` and `emit` say is true.
use Rattle.std.specs.Prelude.{◌≡◌, ◌≢◌, ℕ, List, [], ◌∷◌, Option}
use Rattle.sched_io.specs.Told.{Told}
use Rattle.sched_io.specs.Written.{Adds}
use Rattle.policy_tree.specs.Meaning.{Meaning}
use Rattle.obligations.specs.DifferencePolicies.{ComparesDifferences}
use Rattle.cert_file.specs.Answers.{IsUncrowded}
use Rattle.cert_file.specs.Wrong.{Proves}
use Rattle.ipanema_cli.specs.PolicyAnswers.{Exporting, IsHeader}
use Rattle.ipanema_cli.specs.Causes.{OneOf}
use Rattle.ipanema_cli.specs.CheckTruths.{AcceptedPolicy, AnswersFor, Decides, Refuses, Spells, TellsFault}

module _ (Is : Exporting) where
  -- The policy is accepted, and such a text of it was written.
  pub record WritesExport (policy : Told) (before after : Option (List ℕ)) : Type 0 where
    pub p : Meaning
    pub accepted : AcceptedPolicy policy p
    pub few : IsUncrowded p
    pub text : List ℕ
    pub is : Is p text
    pub written : Adds text before after

  -- What a command says that writes such a text of the policy in a file of which this is told is true.
  pub record ExportsTruly (policy : Told) (before after : Option (List ℕ)) (code : ℕ) : Type 0 where
    pub exported : code ≡ 0 → WritesExport policy before after
    -- a policy that isn't accepted gets the lines of `check`
    pub lines : OneOf (1 ∷ 3 ∷ []) code → AnswersFor policy before after code
    -- each status must come as it must of `check`
    pub decides : Decides policy code
    pub differences : (p : Meaning) → Spells policy p → ComparesDifferences p → code ≢ 3
    pub refuses : Refuses policy code
    pub bad_text : code ≡ 2 → TellsFault policy before after

-- What `prove` says is true: what is written is a file of certificates, a right one for each of the policy's systems.
abbrev pub ProvesTruly : (policy : Told) (before after : Option (List ℕ)) (code : ℕ) → Type 0
ProvesTruly = ExportsTruly Proves

-- What `emit` says is true: what is written is the policy's header in C.
abbrev pub EmitsTruly : (policy : Told) (before after : Option (List ℕ)) (code : ℕ) → Type 0
EmitsTruly = ExportsTruly IsHeader
