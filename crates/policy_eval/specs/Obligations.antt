-- What a policy owes, and what else may be asked of it: statements over all numbers in its ranges.
use Rattle.std.specs.Prelude.{◌≡◌, ℕ, ◌+◌, ◌*◌, ◌<◌, ◌≤◌, Bool, List, [], ◌∷◌, length, All, ℤ, Option, None, Some}
use Rattle.sched_base.specs.declared.task.Task.{Task}
use Rattle.policy_tree.specs.declared.typed.Event.{Event}
use Rattle.policy_tree.specs.declared.typed.Event.TheVariants as event
use Rattle.policy_tree.specs.Meaning.{BatchTree, Meaning}
use Rattle.policy_eval.specs.declared.env.CoreValues.{CoreValues}
use Rattle.policy_eval.specs.Events.{holding_cases}
use Rattle.policy_eval.specs.Fitting.{CoreFits, IsTask, IsWeight}
use Rattle.policy_eval.specs.Ranges.{AreIn, attribute_ranges, least_weight}
use Rattle.policy_eval.specs.Sights.{move_values, pair_values}
use Rattle.policy_eval.specs.Values.{Holds}

-- an idle core sees every overloaded one
abbrev pub IdleSeesOverloaded : Meaning → Type 0
IdleSeesOverloaded p = (own victim : CoreValues) → CoreFits p own → CoreFits p victim
    → own.nr ≡ 0 → 2 ≤ victim.nr → Holds (pair_values own victim) p.filter

-- only overloaded cores are victims
abbrev pub VictimIsOverloaded : Meaning → Type 0
VictimIsOverloaded p = (own victim : CoreValues) → CoreFits p own → CoreFits p victim
    → Holds (pair_values own victim) p.filter → 2 ≤ victim.nr

-- the move of a thread narrows the gap between two loads, whichever thread the victim can have queued
abbrev pub MoveNarrowsGap : Meaning → Type 0
MoveNarrowsGap p = (own victim : CoreValues) (weight : ℕ) → CoreFits p own → CoreFits p victim → IsWeight p weight
    → Holds (pair_values own victim) p.filter
    → weight + least_weight p.load * victim.nr ≤ victim.load + least_weight p.load
    → own.load + weight < victim.load

-- each further move of a batch narrows the gap, whichever thread is next. Without a batch there is none
abbrev pub NarrowsGapBy : Meaning → Option BatchTree → Type 0
NarrowsGapBy p None = Unit {0}
NarrowsGapBy p (Some batch) = (own victim : CoreValues) (weight : ℕ) (attrs : List ℤ) → CoreFits p own
    → CoreFits p victim → IsWeight p weight → AreIn (attribute_ranges p.thread_attrs) attrs
    → Holds (move_values own victim weight attrs) batch.condition
    → 1 ≤ victim.nr
    → weight + least_weight p.load * victim.nr ≤ victim.load + least_weight p.load
    → own.load + weight < victim.load

abbrev pub FurtherMoveNarrowsGap : Meaning → Type 0
FurtherMoveNarrowsGap p = NarrowsGapBy p p.batch

-- no two cases of the handler hold together
abbrev pub NoOverlap : Meaning → Event → Type 0
NoOverlap p e = (fresh : Bool) (consts : List ℤ) (t : Task)
    → AreIn (attribute_ranges p.core_attrs) consts → IsTask p t → length (holding_cases p e fresh consts t) ≤ 1

-- some case of the handler holds
abbrev pub NoGap : Meaning → Event → Type 0
NoGap p e = (fresh : Bool) (consts : List ℤ) (t : Task)
    → AreIn (attribute_ranges p.core_attrs) consts → IsTask p t → 1 ≤ length (holding_cases p e fresh consts t)

-- the filter lets only an idle core take from a victim with at most two threads
abbrev pub FilterLeavesLast : Meaning → Type 0
FilterLeavesLast p = (own victim : CoreValues) → CoreFits p own → CoreFits p victim
    → Holds (pair_values own victim) p.filter → victim.nr ≤ 2 → own.nr ≡ 0

-- a batch goes on to the last waiting thread of its victim only where the thief has one thread at most, which is the
-- one that it has taken. Without a batch there is no such move
abbrev pub BatchLeavesLast : Meaning → Option BatchTree → Type 0
BatchLeavesLast p None = Unit {0}
BatchLeavesLast p (Some batch) = (own victim : CoreValues) (weight : ℕ) (attrs : List ℤ) → CoreFits p own
    → CoreFits p victim → IsWeight p weight → AreIn (attribute_ranges p.thread_attrs) attrs
    → Holds (move_values own victim weight attrs) batch.condition
    → 1 ≤ victim.nr → victim.nr ≤ 2 → own.nr ≤ 1

-- where the filter doesn't hold, the victim's load is at most so much greater than the thief's
abbrev pub RestGap : Meaning → ℕ → Type 0
RestGap p gap = (own victim : CoreValues) → CoreFits p own → CoreFits p victim
    → ¬ Holds (pair_values own victim) p.filter → victim.load ≤ own.load + gap

-- the names of the statements: what a policy owes, and what only some policies keep beside it
pub data Statement : Type 0 where
  idle_sees_overloaded : Statement
  victim_is_overloaded : Statement
  move_narrows_gap : Statement
  further_move_narrows_gap : Statement
  no_overlap : Event → Statement
  no_gap : Event → Statement
  filter_leaves_last : Statement
  batch_leaves_last : Statement
  rest_gap : ℕ → Statement

-- what a statement says of a policy
abbrev pub IsMet : Meaning → Statement → Type 0
IsMet p idle_sees_overloaded = IdleSeesOverloaded p
IsMet p victim_is_overloaded = VictimIsOverloaded p
IsMet p move_narrows_gap = MoveNarrowsGap p
IsMet p further_move_narrows_gap = FurtherMoveNarrowsGap p
IsMet p (no_overlap e) = NoOverlap p e
IsMet p (no_gap e) = NoGap p e
IsMet p filter_leaves_last = FilterLeavesLast p
IsMet p batch_leaves_last = BatchLeavesLast p p.batch
IsMet p (rest_gap gap) = RestGap p gap

-- what a policy owes, in the order in which it is reported
unfoldable pub statements_of : Meaning → List Statement
statements_of p =
    idle_sees_overloaded ∷ victim_is_overloaded ∷ move_narrows_gap ∷ further_move_narrows_gap
    ∷ no_overlap event.Enqueue ∷ no_gap event.Enqueue
    ∷ no_overlap event.Tick ∷ no_gap event.Tick
    ∷ no_overlap event.Yield ∷ no_gap event.Yield
    ∷ no_overlap event.Block ∷ no_gap event.Block
    ∷ []

-- the policy meets each statement that it owes
abbrev pub MeetsObligations : Meaning → Type 0
MeetsObligations p = All (IsMet p) (statements_of p)

-- exactly one case of each handler holds
pub record MeetsHandlerObligations (p : Meaning) : Type 0 where
  pub no_overlap : (e : Event) → NoOverlap p e
  pub no_gap : (e : Event) → NoGap p e

-- the filter sees enough and not too much, and so does a batch
pub record MeetsBalanceObligations (p : Meaning) : Type 0 where
  pub idle_sees_overloaded : IdleSeesOverloaded p
  pub victim_is_overloaded : VictimIsOverloaded p
  pub move_narrows_gap : MoveNarrowsGap p
  pub further_move_narrows_gap : FurtherMoveNarrowsGap p
