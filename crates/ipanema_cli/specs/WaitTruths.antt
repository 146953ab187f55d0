-- What `waits` says is true.
use Rattle.std.specs.Prelude.{◌≡◌, ◌≢◌, ◌⊎◌, ℕ, ℤ, List, [], ◌∷◌, Option, Some, None}
use Rattle.sched_io.specs.Puts.{joined}
use Rattle.sched_io.specs.Told.{Told}
use Rattle.sched_io.specs.Written.{Adds}
use Rattle.policy_tree.specs.Meaning.{Meaning}
use Rattle.policy_eval.specs.Obligations.{MeetsObligations, RestGap}
use Rattle.policy_eval.specs.Ranges.{greatest_weight, least_weight}
use Rattle.round_model.specs.declared.entry.Entry.{Entry}
use Rattle.round_model.specs.declared.plan.Plan.{Plan}
use Rattle.round_model.specs.Fits.{Fits}
use Rattle.round_model.specs.Legal.{Legal}
use Rattle.waiting_laws.specs.Least.{WaitsByLags}
use Rattle.waiting_laws.specs.Slices.{WaitsInSlices}
use Rattle.waiting_laws.specs.Waiting.{WaitsInTurn}
use Rattle.turn_laws.specs.Turns.{FairShare, TurnsAtRest}
use Rattle.obligations.specs.DifferencePolicies.{ComparesDifferences}
use Rattle.starving_plays.specs.Searches.{NoneStarve, ShowsStarving}
use Rattle.starving_plays.specs.declared.searching.Starving.{Starving}
use Rattle.wait_classes.specs.declared.classes.WaitClass.{WaitClass}
use Rattle.wait_classes.specs.declared.classes.WaitClass.TheVariants as wait
use Rattle.wait_classes.specs.Classes.{class_of}
use Rattle.wait_answers.specs.Waits.{IsToldOfWaits, wait_lines}
use Rattle.wait_answers.specs.declared.answering.WaitAnswer.TheVariants.{Waits}
use Rattle.wait_answers.specs.declared.answering.Waiting.{Waiting}
use Rattle.ipanema_cli.specs.Causes.{OneOf}
use Rattle.ipanema_cli.specs.CheckTruths.{AcceptedPolicy, AnswersFor, Refuses, SomeIsOpen, Spells}
use Rattle.ipanema_cli.specs.CheckTruths.{TellsFault}
use Rattle.ipanema_cli.specs.Status.{code_of, waiting_status}

-- That is true of every legal history of every plan that fits the policy.
abbrev pub OfHistories : Meaning → (Plan → List Entry → Type 0) → Type 0
OfHistories p Holds = (plan : Plan) (history : List Entry) → Fits p plan → Legal p plan history → Holds plan history

-- In one history, where a thread goes to the queue's end after its unit: each runs in its turn, in rounds still or not;
-- in still rounds from rest on, in one of as many as its core has threads; and where cores at rest differ by one thread
-- at most, in one of as many as there are threads to a core.
pub record HaveTurns (p : Meaning) (plan : Plan) (history : List Entry) : Type 0 where
  pub in_turn : WaitsInTurn p plan history
  pub at_rest : TurnsAtRest p plan history
  pub share : least_weight p.load ≡ greatest_weight p.load → RestGap p (least_weight p.load) → FairShare p plan history

-- Threads wait no longer than the law of the class says.
abbrev pub BoundsWaiting : Meaning → WaitClass → Type 0
BoundsWaiting p wait.Queue = OfHistories p (λ plan history. HaveTurns p plan history)
BoundsWaiting p (wait.Slices a keeps) =
    OfHistories p (λ plan history. (low : ℤ) × WaitsInSlices p plan history a low keeps)
BoundsWaiting p (wait.Least a) = OfHistories p (λ plan history. WaitsByLags p plan history a)
BoundsWaiting p wait.Unknown = Unit {0}

-- A thread waits for ever under the trace, where one was found.
abbrev pub IsTrueOfStarving : Meaning → Option Starving → Type 0
IsTrueOfStarving p None = Unit {0}
IsTrueOfStarving p (Some starving) = ShowsStarving p starving

-- The lines that are written answer for an accepted policy.
pub record WaitsFor (policy : Told) (before after : Option (List ℕ)) (code : ℕ) : Type 0 where
  pub p : Meaning
  pub waiting : Waiting
  pub accepted : AcceptedPolicy policy p
  -- the class is the policy's, and a starving trace is looked for where no law applies
  pub reason : IsToldOfWaits p waiting
  pub bounds : BoundsWaiting p waiting.class
  pub starves : IsTrueOfStarving p waiting.starving
  pub written : Adds (joined (wait_lines (Waits waiting))) before after
  pub status : code ≡ code_of (waiting_status waiting.class waiting.starving)

-- The policy is accepted, and a law of waiting applies to it, which bounds how long threads wait.
pub record BoundedWaits (policy : Told) (p : Meaning) : Type 0 where
  pub accepted : AcceptedPolicy policy p
  pub known : class_of p ≢ wait.Unknown
  pub bounds : BoundsWaiting p (class_of p)

-- When each status of `waits` must come, if the outside lets it be.
pub record MustWait (policy : Told) (code : ℕ) : Type 0 where
  -- of a policy that meets its obligations and has a class this is told, if it isn't left undecided
  pub known : (p : Meaning) → Spells policy p → MeetsObligations p → class_of p ≢ wait.Unknown →
      OneOf (0 ∷ 3 ∷ 4 ∷ 5 ∷ 6 ∷ []) code
  -- and of one without a class that a thread waits for ever, or nothing
  pub unknown : (p : Meaning) → Spells policy p → MeetsObligations p → class_of p ≡ wait.Unknown →
      OneOf (1 ∷ 3 ∷ 4 ∷ 5 ∷ 6 ∷ []) code
  -- the former, if one of the tried traces starves a thread
  pub starves : (p : Meaning) → Spells policy p → ¬ SomeIsOpen p → class_of p ≡ wait.Unknown → ¬ NoneStarve p →
      OneOf (1 ∷ 4 ∷ 5 ∷ 6 ∷ []) code
  -- another policy isn't accepted
  pub others : (p : Meaning) → Spells policy p → ¬ MeetsObligations p → OneOf (1 ∷ 3 ∷ 4 ∷ 5 ∷ 6 ∷ []) code
  -- none that has a class is left undecided of which no system is open
  pub decides : (p : Meaning) → Spells policy p → ¬ SomeIsOpen p → class_of p ≢ wait.Unknown → code ≢ 3
  -- nor one that counts threads and compares constants with variables and differences of two alone
  pub differences : (p : Meaning) → Spells policy p → ComparesDifferences p → class_of p ≢ wait.Unknown → code ≢ 3

-- What `waits` says of the policy in a file of which this is told is true.
pub record WaitsTruly (policy : Told) (before after : Option (List ℕ)) (code : ℕ) : Type 0 where
  pub bounded : code ≡ 0 → (p : Meaning) × BoundedWaits policy p
  -- a policy that isn't accepted gets the lines of `check`, and under 0 none does
  pub lines : OneOf (0 ∷ 1 ∷ 3 ∷ []) code →
      WaitsFor policy before after code ⊎ ((code ≢ 0) × AnswersFor policy before after code)
  pub must : MustWait policy code
  pub refuses : Refuses policy code
  pub bad_text : code ≡ 2 → TellsFault policy before after
