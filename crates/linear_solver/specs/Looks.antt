-- How many boxes a search looks at.
use Rattle.std.specs.Prelude.{◌≡◌, ℕ, ◌+◌, ◌*◌, ◌≤◌, true}
use Rattle.linear_solver.specs.declared.decider.TheConstants.{MAX_TERMS}
use Rattle.linear_solver.specs.declared.searching.Effort.{Effort}

-- The most boxes of one question. A system with no more points than the budget takes fewer than two boxes a point, and a
-- search past the budget takes a term at least for each.
abbrev pub most_looks : ℕ → ℕ
most_looks budget = 2 * budget + MAX_TERMS

-- where the effort is limited, each box that was looked at took a term
abbrev pub IsSpent : Effort → Effort → Type 0
IsSpent before after = before.limited ≡ true → after.looks + after.terms ≤ before.looks + before.terms
