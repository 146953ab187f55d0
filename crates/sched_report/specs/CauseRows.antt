-- A row for each Fail of a history, also where nothing explains it.
use Rattle.std.specs.Prelude.{◌≡◌, ℕ, List, Option, Some, All, IsSome, MatchOption, map}
use Rattle.policy_tree.specs.Meaning.{Meaning}
use Rattle.round_model.specs.declared.entry.Entry.{Entry}
use Rattle.round_model.specs.declared.plan.Plan.{Plan}
use Rattle.round_model.specs.Explains.{Explains}
use Rattle.sched_report.specs.FailRows.{IsFailRow, fail_positions}
use Rattle.sched_report.specs.declared.rows.CauseRow.{CauseRow}
use Rattle.sched_report.specs.declared.rows.FailRow.{FailRow}

-- the row of a Fail that has an explanation
abbrev pub with_cause : FailRow → CauseRow
with_cause row = record { at = row.at; by = Some row.by }

-- no entry explains the Fail at the position
abbrev pub IsUnexplained : Meaning → Plan → List Entry → ℕ → Type 0
IsUnexplained p plan history at = (cause : ℕ) → ¬ Explains p plan history at cause

-- it is the first entry of those that explain the Fail at the position, or nothing, and then none does
abbrev pub IsCause : Meaning → Plan → List Entry → ℕ → Option ℕ → Type 0
IsCause p plan history at by =
    MatchOption by (IsUnexplained p plan history at)
    (λ cause. IsFailRow p plan history (record { at = at; by = cause }))

-- a row for each Fail, in order
pub record AreCauseRows (p : Meaning) (plan : Plan) (history : List Entry) (rows : List CauseRow) : Type 0 where
  pub positions : map (λ (row : CauseRow). row.at) rows ≡ fail_positions history
  pub each : All (λ (row : CauseRow). IsCause p plan history row.at row.by) rows

-- the Fail of the row has an explanation
abbrev pub HasCause : CauseRow → Type 0
HasCause row = IsSome row.by
