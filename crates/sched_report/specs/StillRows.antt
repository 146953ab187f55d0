-- A row for each longest stretch of still rounds.
use Rattle.std.specs.Prelude.{◌≡◌, ℕ, ◌≤◌, List, All, Contains, map}
use Rattle.std.specs.List.Sorted.{IsStrictlyIncreasing}
use Rattle.policy_tree.specs.Meaning.{Meaning}
use Rattle.round_model.specs.declared.entry.Entry.{Entry}
use Rattle.round_model.specs.declared.plan.Plan.{Plan}
use Rattle.round_model.specs.Rounds.{BeginsAt}
use Rattle.round_model.specs.StillRounds.{spread_at}
use Rattle.round_model.specs.Stretches.{IsStillStretch}
use Rattle.sched_report.specs.Rests.{first_rest}
use Rattle.sched_report.specs.RoundRows.{bad_within, round_rows}
use Rattle.sched_report.specs.declared.rows.StillRow.{StillRow}

-- a stretch of still rounds that no other one contains
pub record IsLongest (history : List Entry) (first last : ℕ) : Type 0 where
  pub still : IsStillStretch history first last
  pub alone : (from to : ℕ) → IsStillStretch history from to → from ≤ first → last ≤ to →
      (from ≡ first) × (to ≡ last)

-- the row of a longest stretch: the spread as its first round opens, how many of its rounds are bad, and the first of
-- them that opens with the cores at rest
pub record IsStillRow (p : Meaning) (plan : Plan) (history : List Entry) (row : StillRow) : Type 0 where
  pub longest : IsLongest history row.first row.last
  pub opening : ℕ
  pub begins : BeginsAt history row.first opening
  pub spread : row.spread ≡ spread_at p plan history opening
  pub bad : row.bad ≡ bad_within (round_rows p plan history) row.first row.last
  pub rest : row.rest ≡ first_rest (round_rows p plan history) row.first row.last

-- the rounds first to last have a row
pub record HasRow (rows : List StillRow) (first last : ℕ) : Type 0 where
  pub row : StillRow
  pub among : Contains rows row
  pub first_is : row.first ≡ first
  pub last_is : row.last ≡ last

-- a row for each longest stretch, in order
pub record AreStillRows (p : Meaning) (plan : Plan) (history : List Entry) (rows : List StillRow) : Type 0 where
  pub each : All (IsStillRow p plan history) rows
  pub all : (first last : ℕ) → IsLongest history first last → HasRow rows first last
  pub ordered : IsStrictlyIncreasing (map (λ (row : StillRow). row.first) rows)
