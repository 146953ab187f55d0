-- What `rest` says is true.
use Rattle.std.specs.Prelude.{◌≡◌, ◌≢◌, ◌⊎◌, ℕ, ℤ, pos, ◌+ℤ◌, Bool, true, false, List, [], ◌∷◌, map, take, Option}
use Rattle.sched_io.specs.Puts.{joined}
use Rattle.sched_io.specs.Told.{Told}
use Rattle.sched_io.specs.Written.{Adds}
use Rattle.policy_tree.specs.declared.variables.TheConstants.{OTHER_LOAD, SELF_LOAD}
use Rattle.policy_tree.specs.Meaning.{Meaning}
use Rattle.policy_eval.specs.Obligations.{MeetsObligations, RestGap, rest_gap}
use Rattle.policy_eval.specs.Ranges.{AreIn}
use Rattle.policy_eval.specs.Values.{Assignment, Holds, variable_of}
use Rattle.round_model.specs.declared.entry.Entry.{Entry}
use Rattle.round_model.specs.declared.plan.Plan.{Plan}
use Rattle.round_model.specs.After.{after}
use Rattle.round_model.specs.Fits.{Fits}
use Rattle.round_model.specs.Legal.{Legal}
use Rattle.round_laws.specs.Rest.{RestlessAt}
use Rattle.rest_laws.specs.Gap.{LoadsWithin}
use Rattle.rest_laws.specs.LowestFirst.{LowestFirst, RaisesLowest}
use Rattle.obligations.specs.DifferencePolicies.{ComparesDifferences}
use Rattle.obligations.specs.Refutations.{cores_fit}
use Rattle.obligations.specs.Systems.{systems_of, variable_ranges}
use Rattle.policy_checker.specs.Outcomes.{HasOpen}
use Rattle.policy_checker.specs.declared.rest_gaps.LeastGap.{LeastGap}
use Rattle.policy_checker.specs.declared.rest_gaps.LeastGap.TheVariants as gap
use Rattle.policy_answers.specs.Rests.{IsToldOfGap, rest_lines}
use Rattle.policy_answers.specs.declared.resting.RestAnswer.TheVariants.{Rests}
use Rattle.policy_answers.specs.declared.resting.Resting.{Resting}
use Rattle.ipanema_cli.specs.Causes.{OneOf}
use Rattle.ipanema_cli.specs.CheckTruths.{AcceptedPolicy, AnswersFor, Refuses, SomeIsOpen, Spells}
use Rattle.ipanema_cli.specs.CheckTruths.{TellsFault}
use Rattle.ipanema_cli.specs.Status.{code_of, gap_status}

-- Wherever in a legal history none of the cores can steal from another, no two loads differ by more.
abbrev pub RestsWithin : Meaning → ℕ → Type 0
RestsWithin p least = (plan : Plan) (history : List Entry) (k : ℕ) → Fits p plan → Legal p plan history
    → ¬ RestlessAt p plan history k → LoadsWithin plan (after p plan (take k history)) least

-- Some values of all variables, each in its range, are those of two cores with just that gap of which the filter fails,
-- and the point has those of these variables.
pub record HasJustGap (p : Meaning) (least : ℕ) (vars : List ℕ) (point : List ℤ) : Type 0 where
  pub values : Assignment
  pub in_range : AreIn (variable_ranges p) values
  pub fit : Holds values (cores_fit p.load)
  pub fails : ¬ Holds values p.filter
  pub gap : variable_of values OTHER_LOAD ≡ variable_of values SELF_LOAD +ℤ pos least
  pub shown : map (variable_of values) vars ≡ point

-- That is true of the gap that the filter leaves.
abbrev pub IsTrueOfGap : Meaning → LeastGap → Type 0
IsTrueOfGap p gap.Even = RestGap p 0
IsTrueOfGap p (gap.Least least wider) = RestGap p least × HasJustGap p least wider.vars wider.point.vals
IsTrueOfGap p (gap.Undecided at proved) = HasOpen (systems_of p (rest_gap at)) × RestGap p proved

-- A core with as many threads as another or fewer sees whom that one sees, if it is as far behind him. So each restless
-- round raises a core with the fewest threads, and there are no more of them than that takes.
pub record RaisesLowestFirst (p : Meaning) : Type 0 where
  pub lowest : LowestFirst p
  pub rounds : (plan : Plan) (history : List Entry) → Fits p plan → Legal p plan history → RaisesLowest p plan history

-- That is true of the rounds until cores are at rest, where the line says it.
abbrev pub IsTrueOfRounds : Meaning → Bool → Type 0
IsTrueOfRounds p true = RaisesLowestFirst p
IsTrueOfRounds p false = Unit {0}

-- The lines that are written answer for an accepted policy.
pub record RestsFor (policy : Told) (before after : Option (List ℕ)) (code : ℕ) : Type 0 where
  pub p : Meaning
  pub resting : Resting
  pub accepted : AcceptedPolicy policy p
  -- what is found, for which there is a reason
  pub reason : IsToldOfGap p resting
  pub word : IsTrueOfGap p resting.gap
  pub bound : IsTrueOfRounds p resting.lowest_first
  pub written : Adds (joined (rest_lines (Rests resting))) before after
  pub status : code ≡ code_of (gap_status resting.gap)

-- The policy is accepted, and leaves no wider gap. So cores at rest have none.
pub record RestedPolicy (policy : Told) (p : Meaning) (least : ℕ) : Type 0 where
  pub accepted : AcceptedPolicy policy p
  pub leaves : RestGap p least
  pub within : RestsWithin p least

-- Bounded elimination leaves a system open that says of some gap whether the filter leaves a wider one.
abbrev pub GapIsOpen : Meaning → Type 0
GapIsOpen p = (gap : ℕ) × HasOpen (systems_of p (rest_gap gap))

-- When each status of `rest` must come, if the outside lets it be.
pub record MustRest (policy : Told) (code : ℕ) : Type 0 where
  -- of a policy that meets its obligations the gap is found, or left undecided
  pub accepts : (p : Meaning) → Spells policy p → MeetsObligations p → OneOf (0 ∷ 3 ∷ 4 ∷ 5 ∷ 6 ∷ []) code
  -- and another one isn't accepted
  pub others : (p : Meaning) → Spells policy p → ¬ MeetsObligations p → OneOf (1 ∷ 3 ∷ 4 ∷ 5 ∷ 6 ∷ []) code
  -- none is left undecided of which no system is open
  pub decides : (p : Meaning) → Spells policy p → ¬ SomeIsOpen p → ¬ GapIsOpen p → code ≢ 3
  -- nor one that counts threads and compares constants with variables and differences of two alone
  pub differences : (p : Meaning) → Spells policy p → ComparesDifferences p → code ≢ 3

-- What `rest` says of the policy in a file of which this is told is true.
pub record RestsTruly (policy : Told) (before after : Option (List ℕ)) (code : ℕ) : Type 0 where
  pub rested : code ≡ 0 → (p : Meaning) × (least : ℕ) × RestedPolicy policy p least
  -- a policy that isn't accepted gets the lines of `check`, and under 0 none does
  pub lines : OneOf (0 ∷ 1 ∷ 3 ∷ []) code →
      RestsFor policy before after code ⊎ ((code ≢ 0) × AnswersFor policy before after code)
  pub must : MustRest policy code
  pub refuses : Refuses policy code
  pub bad_text : code ≡ 2 → TellsFault policy before after
