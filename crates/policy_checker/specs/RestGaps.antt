-- What may be found of the gap between two loads that a policy's filter leaves.
use Rattle.std.specs.Prelude.{◌≡◌, ℕ, ◌+◌, ◌<◌, Option}
use Rattle.policy_tree.specs.Meaning.{Meaning}
use Rattle.policy_eval.specs.Obligations.{RestGap, rest_gap}
use Rattle.obligations.specs.Systems.{systems_of, variables_of}
use Rattle.policy_checker.specs.Answers.{IsFirstLeft}
use Rattle.policy_checker.specs.Laws.{FailsAt}
use Rattle.policy_checker.specs.declared.rest_gaps.Asked.{Asked}
use Rattle.policy_checker.specs.declared.rest_gaps.Asked.TheVariants as asked
use Rattle.policy_checker.specs.declared.rest_gaps.LeastGap.{LeastGap}
use Rattle.policy_checker.specs.declared.rest_gaps.LeastGap.TheVariants as found
use Rattle.policy_checker.specs.declared.rest_gaps.WiderGap.{WiderGap}

-- the filter fails of two cores whose loads differ by more, and those are at the point
pub record IsWider (p : Meaning) (wider : WiderGap) : Type 0 where
  pub vars : wider.vars ≡ variables_of p (rest_gap wider.gap)
  pub fails : FailsAt p (rest_gap wider.gap) wider.point.vals

-- under the budget it isn't known whether the filter leaves no wider gap
abbrev pub IsOpenGap : Meaning → (budget gap : ℕ) → Type 0
IsOpenGap p budget gap = (points : Option ℕ) × IsFirstLeft budget (systems_of p (rest_gap gap)) points

-- the filter leaves no wider gap, and of a gap that is less by one there is a wider one
pub record IsLeast (p : Meaning) (gap : ℕ) (wider : WiderGap) : Type 0 where
  pub leaves : RestGap p gap
  pub next : gap ≡ wider.gap + 1
  pub apart : IsWider p wider

-- it isn't known of that gap, and of a greater one it is known that the filter leaves none wider
pub record IsLeftAt (p : Meaning) (budget at proved : ℕ) : Type 0 where
  pub unknown : IsOpenGap p budget at
  pub leaves : RestGap p proved
  pub greater : at < proved

-- That is found of the least gap that the filter leaves.
abbrev pub IsLeastGap : Meaning → ℕ → LeastGap → Type 0
IsLeastGap p budget found.Even = RestGap p 0
IsLeastGap p budget (found.Least gap wider) = IsLeast p gap wider
IsLeastGap p budget (found.Undecided at proved) = IsLeftAt p budget at proved

-- the least gap is known
abbrev pub IsKnownGap : LeastGap → Type 0
IsKnownGap found.Even = Unit {0}
IsKnownGap (found.Least gap wider) = Unit {0}
IsKnownGap (found.Undecided at proved) = ⊥

-- that is found of one gap
abbrev pub IsAsked : Meaning → (budget gap : ℕ) → Asked → Type 0
IsAsked p budget gap asked.Left = RestGap p gap
IsAsked p budget gap (asked.Passed wider) = IsWider p wider × (wider.gap ≡ gap)
IsAsked p budget gap asked.Open = IsOpenGap p budget gap

-- it is known of it
abbrev pub IsToldOf : Asked → Type 0
IsToldOf asked.Left = Unit {0}
IsToldOf (asked.Passed wider) = Unit {0}
IsToldOf asked.Open = ⊥
