-- A row for each Fail of a history.
use Rattle.std.specs.Prelude.{◌≡◌, ℕ, ◌≤◌, cond, List, Option, None, Some, All, filter_map, map}
use Rattle.std.specs.List.{enumerate_from}
use Rattle.policy_tree.specs.Meaning.{Meaning}
use Rattle.round_model.specs.declared.entry.Entry.{Entry}
use Rattle.round_model.specs.declared.plan.Plan.{Plan}
use Rattle.round_model.specs.Explains.{Explains}
use Rattle.round_model.specs.Kinds.{is_fail}
use Rattle.sched_report.specs.declared.rows.FailRow.{FailRow}

-- the position, where a steal fails there
abbrev pub fail_at : ℕ × Entry → Option ℕ
fail_at at = cond (is_fail at.1) (Some at.0) None

-- the positions of the Fails, in order
abbrev pub fail_positions : List Entry → List ℕ
fail_positions history = filter_map fail_at (enumerate_from 0 history)

-- the first entry of those that explain the Fail
pub record IsFailRow (p : Meaning) (plan : Plan) (history : List Entry) (row : FailRow) : Type 0 where
  pub explains : Explains p plan history row.at row.by
  pub first : (cause : ℕ) → Explains p plan history row.at cause → row.by ≤ cause

-- a row for each Fail, in order
pub record AreFailRows (p : Meaning) (plan : Plan) (history : List Entry) (rows : List FailRow) : Type 0 where
  pub positions : map (λ (row : FailRow). row.at) rows ≡ fail_positions history
  pub each : All (IsFailRow p plan history) rows
