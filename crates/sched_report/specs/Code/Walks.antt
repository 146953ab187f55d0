-- What the walk over a history keeps.
use Rattle.std.specs.Prelude.{◌≡◌, ℕ, ◌≤◌, Bool, true, false, List, All, filter_map, length, map, take}
use Rattle.std.specs.List.{enumerate_from}
use Rattle.policy_tree.specs.Meaning.{Meaning}
use Rattle.round_model.specs.declared.entry.Entry.{Entry}
use Rattle.round_model.specs.declared.plan.Plan.{Plan}
use Rattle.round_model.specs.Legal.{rounds_begun}
use Rattle.round_model.specs.Rounds.{IsStill}
use Rattle.sched_report.specs.CauseRows.{AreCauseRows, IsCause}
use Rattle.sched_report.specs.FailRows.{fail_at}
use Rattle.sched_report.specs.RoundRows.{round_rows, row_at}
use Rattle.sched_report.specs.Code.Runs.{is_flagged}
use Rattle.sched_report.specs.declared.rows.CauseRow.{CauseRow}
use Rattle.sched_report.specs.declared.walk.Tally.{Tally}

-- a flag for each round, set where the round is still
pub record AreFlags (history : List Entry) (flags : List Bool) : Type 0 where
  pub count : length flags ≡ rounds_begun history
  pub still : (r : ℕ) → is_flagged flags r ≡ true → IsStill history r r
  pub stirred : (r : ℕ) → 1 ≤ r → r ≤ length flags → is_flagged flags r ≡ false → ¬ IsStill history r r

-- what was told of the first entries
pub record IsTallySoFar (p : Meaning) (plan : Plan) (history : List Entry) (at : ℕ) (tally : Tally) : Type 0 where
  pub rounds : tally.rounds ≡ filter_map (row_at p plan history) (enumerate_from 0 (take at history))
  pub still : AreFlags (take at history) tally.still
  pub positions : map (λ (row : CauseRow). row.at) tally.causes
      ≡ filter_map fail_at (enumerate_from 0 (take at history))
  pub causes : All (λ (row : CauseRow). IsCause p plan history row.at row.by) tally.causes

-- what was told of all entries
pub record IsTally (p : Meaning) (plan : Plan) (history : List Entry) (tally : Tally) : Type 0 where
  pub rounds : tally.rounds ≡ round_rows p plan history
  pub still : AreFlags history tally.still
  pub causes : AreCauseRows p plan history tally.causes
