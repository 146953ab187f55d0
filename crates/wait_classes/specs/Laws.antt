-- What the classes are for.
use Rattle.std.specs.Prelude.{◌≡◌, ◌↔◌, ℤ, List}
use Rattle.policy_tree.specs.Meaning.{Meaning}
use Rattle.policy_eval.specs.Obligations.{MeetsHandlerObligations}
use Rattle.policy_eval.specs.Resolved.{IsResolved}
use Rattle.round_model.specs.declared.entry.Entry.{Entry}
use Rattle.round_model.specs.declared.plan.Plan.{Plan}
use Rattle.round_model.specs.Fits.{Fits}
use Rattle.round_model.specs.Legal.{Legal}
use Rattle.waiting_laws.specs.Least.{WaitsByLags}
use Rattle.waiting_laws.specs.Slices.{WaitsInSlices}
use Rattle.waiting_laws.specs.Waiting.{QueuesAlways, WaitsInTurn}
use Rattle.wait_classes.specs.declared.classes.WaitClass.{WaitClass}
use Rattle.wait_classes.specs.declared.classes.WaitClass.TheVariants as wait
use Rattle.wait_classes.specs.Classes.{HasClass, class_of}

-- to a resolved policy the law of its class applies
abbrev pub ClassesLaw : Type 0
ClassesLaw = (p : Meaning) → IsResolved p → HasClass p (class_of p)

-- a policy has the first class exactly where the law of waiting applies to it
abbrev pub QueueLaw : Type 0
QueueLaw = (p : Meaning) → (class_of p ≡ wait.Queue) ↔ QueuesAlways p

-- what the class says of waiting in one history. The law of the least value is one on policies whose handlers have
-- exactly one case for each thread
abbrev pub Waits : Meaning → Plan → List Entry → WaitClass → Type 0
Waits p plan history wait.Queue = WaitsInTurn p plan history
Waits p plan history (wait.Slices a keeps) = (low : ℤ) × WaitsInSlices p plan history a low keeps
Waits p plan history (wait.Least a) = MeetsHandlerObligations p → WaitsByLags p plan history a
Waits p plan history wait.Unknown = Unit {0}

-- in each legal history threads wait no longer than the policy's class says
abbrev pub BoundsLaw : Type 0
BoundsLaw = (p : Meaning) (plan : Plan) (history : List Entry) → Fits p plan → Legal p plan history
    → Waits p plan history (class_of p)
