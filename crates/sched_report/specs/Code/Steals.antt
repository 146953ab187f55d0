-- How many steals each round has.
use Rattle.std.specs.Prelude.{◌≡◌, ℕ, suc, ◌+◌, ◌-◌, ◌≤◌, List, [], ◌∷◌, ◌++◌, All, cond, count_by, length}
use Rattle.std.specs.Prelude.{slice_index_or, slice_set, take}
use Rattle.std.specs.List.{enumerate_from}
use Rattle.sched_base.specs.declared.limits.TheConstants.{MAX_ENTRIES}
use Rattle.round_model.specs.declared.entry.Entry.{Entry}
use Rattle.round_model.specs.Kinds.{is_round, is_steal}
use Rattle.round_model.specs.Legal.{rounds_begun}
use Rattle.round_model.specs.Stretches.{IsStillStretch}
use Rattle.sched_report.specs.StretchRows.{is_steal_within, steals_within}
use Rattle.sched_report.specs.declared.rows.StillRow.{StillRow}

-- the counts of the rounds with an entry more: a round that begins has none so far, and a steal is of the last round
abbrev pub counts_with : Entry → List ℕ → List ℕ
counts_with e counts = cond (is_round e) (counts ++ 0 ∷ [])
    (cond (is_steal e) (slice_set counts (length counts - 1) (slice_index_or counts (length counts - 1) 0 + 1)) counts)

-- how many threads the first entries take in the rounds first to last
abbrev pub steals_so_far : List Entry → ℕ → (first last : ℕ) → ℕ
steals_so_far history at first last =
    count_by (is_steal_within history first last) (enumerate_from 0 (take at history))

-- a count for each round of the first entries, in order
pub record AreStealsSoFar (history : List Entry) (at : ℕ) (counts : List ℕ) : Type 0 where
  pub rounds : length counts ≡ rounds_begun (take at history)
  pub each : (k : ℕ) → slice_index_or counts k 0 ≡ steals_so_far history at (suc k) (suc k)

-- a count for each round, in order
pub record AreSteals (history : List Entry) (counts : List ℕ) : Type 0 where
  pub rounds : length counts ≡ rounds_begun history
  pub each : (k : ℕ) → slice_index_or counts k 0 ≡ steals_within history (suc k) (suc k)

-- the counts are those of a short history that has these stretches
pub record MayBeCounted (history : List Entry) (stills : List StillRow) (counts : List ℕ) : Type 0 where
  pub counts_are : AreSteals history counts
  pub stretches : All (λ (row : StillRow). IsStillStretch history row.first row.last) stills
  pub few : length history ≤ MAX_ENTRIES
