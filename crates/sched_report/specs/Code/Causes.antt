-- What explains a failed steal, over what a past keeps.
use Rattle.std.specs.Prelude.{◌≡◌, ℕ, ◌≤◌, ◌<◌, ◌⊎◌, ◌++◌, List, [], ◌∷◌, Option, MatchOption, length, slice_index}
use Rattle.sched_base.specs.declared.limits.TheConstants.{MAX_CORES}
use Rattle.policy_tree.specs.Meaning.{Meaning}
use Rattle.round_model.specs.declared.entry.Entry.{Entry}
use Rattle.round_model.specs.declared.entry.Entry.TheVariants as entry
use Rattle.round_model.specs.declared.plan.Plan.{Plan}
use Rattle.round_model.specs.Explains.{ChangesSeen}
use Rattle.round_judge.specs.declared.past.Past.{Past}
use Rattle.round_judge.specs.Past.{IsKeptPosition, IsWindow, StandsFor}
use Rattle.sched_report.specs.declared.rows.CauseRow.{CauseRow}

-- the entry at the position, at or after the read of a core, changes what was read of it
abbrev pub Changes : Meaning → Plan → List Entry → (core read position : ℕ) → Type 0
Changes p plan history core read position = (read ≤ position) × ChangesSeen p plan history core position

-- so it is of the thief or of the victim
abbrev pub Causes : Meaning → Plan → List Entry → (by from : ℕ) → List ℕ → ℕ → Type 0
Causes p plan history by from reads position = Changes p plan history by (slice_index reads by) position
    ⊎ Changes p plan history from (slice_index reads from) position

-- and of no entry before
pub record IsFirstCause (p : Meaning) (plan : Plan) (history : List Entry) (by from : ℕ) (reads : List ℕ)
    (cause : ℕ) : Type 0 where
  pub inside : cause < length history
  pub causes : Causes p plan history by from reads cause
  pub first : (k : ℕ) → k < cause → ¬ Causes p plan history by from reads k

-- two cores were read in the rows that the past has
pub record AreKept (past : Past) (by from : ℕ) (reads : List ℕ) : Type 0 where
  pub window : IsWindow past
  pub thief_there : by < MAX_CORES
  pub victim_there : from < MAX_CORES
  pub thief_read : by < length reads
  pub victim_read : from < length reads
  pub thief_kept : IsKeptPosition past (slice_index reads by)
  pub victim_kept : IsKeptPosition past (slice_index reads from)

-- it is the first cause, or nothing, and then no entry is a cause
abbrev pub IsCauseIn : Meaning → Plan → List Entry → (by from : ℕ) → List ℕ → Option ℕ → Type 0
IsCauseIn p plan history by from reads cause =
    MatchOption cause ((k : ℕ) → k < length history → ¬ Causes p plan history by from reads k)
    (IsFirstCause p plan history by from reads)

-- the row of a failed steal, in each history that the past stands for
pub record IsFailTold (past : Past) (by from : ℕ) (reads : List ℕ) (row : CauseRow) : Type 0 where
  pub at : row.at ≡ past.entries
  pub by_is : (p : Meaning) (plan : Plan) (history : List Entry) → StandsFor p plan past history →
      by < plan.cores → from < plan.cores → IsCauseIn p plan history by from reads row.by

-- what has to hold of the past before the entry for its row to be told
abbrev pub MayBeTold : Past → Entry → Type 0
MayBeTold past (entry.Fail by from reads) = AreKept past by from reads
MayBeTold past e = Unit {0}

-- what is added to the rows of failed steals by the entry
abbrev pub AddsFail : Past → Entry → List CauseRow → List CauseRow → Type 0
AddsFail past (entry.Fail by from reads) old new =
    (row : CauseRow) × (new ≡ old ++ row ∷ []) × IsFailTold past by from reads row
AddsFail past e old new = new ≡ old
