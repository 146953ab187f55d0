-- A row for each longest stretch of still rounds, with its steals.
use Rattle.std.specs.Prelude.{◌≡◌, ℕ, nat_le, ◌&&◌, Bool, List, All, count_by, map}
use Rattle.std.specs.List.{enumerate_from}
use Rattle.policy_tree.specs.Meaning.{Meaning}
use Rattle.round_model.specs.declared.entry.Entry.{Entry}
use Rattle.round_model.specs.declared.plan.Plan.{Plan}
use Rattle.round_model.specs.Kinds.{is_steal}
use Rattle.round_model.specs.Rounds.{round_at}
use Rattle.sched_report.specs.StillRows.{AreStillRows}
use Rattle.sched_report.specs.declared.rows.StillRow.{StillRow}
use Rattle.sched_report.specs.declared.rows.StretchRow.{StretchRow}

-- whether the entry at the position is a Steal of one of the rounds first to last
abbrev pub is_steal_within : List Entry → (first last : ℕ) → ℕ × Entry → Bool
is_steal_within history first last at =
    is_steal at.1 && (nat_le first (round_at history at.0) && nat_le (round_at history at.0) last)

-- how many Steals the rounds first to last have; each may move several threads
abbrev pub steals_within : List Entry → (first last : ℕ) → ℕ
steals_within history first last = count_by (is_steal_within history first last) (enumerate_from 0 history)

-- the row says how many are in its stretch
abbrev pub HasSteals : List Entry → StretchRow → Type 0
HasSteals history row = row.steals ≡ steals_within history row.still.first row.still.last

-- the stretch of a row, without its steals
abbrev pub still_of : StretchRow → StillRow
still_of row = row.still

-- a row for each longest stretch, in order
pub record AreStretchRows (p : Meaning) (plan : Plan) (history : List Entry) (rows : List StretchRow) : Type 0 where
  pub stills : AreStillRows p plan history (map still_of rows)
  pub steals : All (HasSteals history) rows
