-- Runs of still rounds among rounds that are flagged.
use Rattle.std.specs.Prelude.{◌≡◌, ℕ, zero, suc, ◌+◌, ◌-◌, ◌<◌, ◌≤◌, Bool, true, false, cond, List, [], ◌∷◌, ◌++◌}
use Rattle.std.specs.Prelude.{Option, None, Some, All, Contains, MatchOption, length, map, option_to_list}
use Rattle.std.specs.Prelude.{slice_index_or, slice_set}
use Rattle.std.specs.List.Sorted.{IsStrictlyIncreasing}
use Rattle.std.specs.Option.{option_or}
use Rattle.round_model.specs.declared.entry.Entry.{Entry}
use Rattle.round_model.specs.Kinds.{is_round}
use Rattle.round_model.specs.Rounds.{disturbs}
use Rattle.sched_report.specs.Rests.{first_rest, rest_told}
use Rattle.sched_report.specs.RoundRows.{bad_within, is_bad}
use Rattle.sched_report.specs.declared.rows.RoundRow.{RoundRow}
use Rattle.sched_report.specs.declared.rows.StillRow.{StillRow}

-- the flags of the rounds with an entry more: a round that begins is still so far, and one that is disturbed isn't
abbrev pub flags_with : Entry → List Bool → List Bool
flags_with e flags = cond (is_round e) (flags ++ true ∷ [])
    (cond (disturbs e) (slice_set flags (length flags - 1) false) flags)

-- the flag of the round of that number, and false where there is none
abbrev pub is_flagged : List Bool → ℕ → Bool
is_flagged flags zero = false
is_flagged flags (suc k) = slice_index_or flags k false

-- the rows are those of the rounds 1, 2, 3 and so on
abbrev pub AreNumbered : List RoundRow → Type 0
AreNumbered rounds = (k : ℕ) (d : RoundRow) → k < length rounds → (slice_index_or rounds k d).number ≡ suc k

-- 1 where the round is bad
abbrev pub bad_of : RoundRow → ℕ
bad_of row = cond (is_bad row) 1 0

-- the row of an open run with a still round more
abbrev pub grown_row : Option StillRow → RoundRow → StillRow
grown_row None row = record {
  first = row.number;
  last = row.number;
  spread = row.spread;
  bad = bad_of row;
  rest = rest_told row;
}
grown_row (Some run) row = record {
  first = run.first;
  last = row.number;
  spread = run.spread;
  bad = run.bad + bad_of row;
  rest = option_or run.rest (rest_told row);
}

-- the rounds of the row are flagged, the one before isn't, and its numbers are those of its rounds
pub record IsRunTo (flags : List Bool) (rounds : List RoundRow) (row : StillRow) : Type 0 where
  pub before : ℕ
  pub first_is : row.first ≡ suc before
  pub starts : is_flagged flags before ≡ false
  pub ordered : row.first ≤ row.last
  pub all : (r : ℕ) → row.first ≤ r → r ≤ row.last → is_flagged flags r ≡ true
  pub spread : (d : RoundRow) → row.spread ≡ (slice_index_or rounds before d).spread
  pub bad : row.bad ≡ bad_within rounds row.first row.last
  pub rest : row.rest ≡ first_rest rounds row.first row.last

-- and neither is the one behind
pub record IsRun (flags : List Bool) (rounds : List RoundRow) (row : StillRow) : Type 0 where
  pub run : IsRunTo flags rounds row
  pub ends : is_flagged flags (suc row.last) ≡ false

-- the round is one of a row
pub record IsCovered (rows : List StillRow) (r : ℕ) : Type 0 where
  pub row : StillRow
  pub among : Contains rows row
  pub from : row.first ≤ r
  pub to : r ≤ row.last

abbrev pub firsts : List StillRow → List ℕ
firsts rows = map (λ (row : StillRow). row.first) rows

-- the rows are those of all runs, in order
pub record AreRuns (flags : List Bool) (rounds : List RoundRow) (rows : List StillRow) : Type 0 where
  pub each : All (IsRun flags rounds) rows
  pub all : (r : ℕ) → is_flagged flags r ≡ true → IsCovered rows r
  pub ordered : IsStrictlyIncreasing (firsts rows)

-- the run that ends at the last round so far
pub record IsOpen (flags : List Bool) (rounds : List RoundRow) (at : ℕ) (row : StillRow) : Type 0 where
  pub run : IsRunTo flags rounds row
  pub last_is : row.last ≡ at

-- the rows are those of the runs among so many rounds, of which the last may go on
pub record AreRunsSoFar (flags : List Bool) (rounds : List RoundRow) (at : ℕ) (done : List StillRow)
    (current : Option StillRow) : Type 0 where
  pub each : All (IsRun flags rounds) done
  pub early : All (λ (row : StillRow). row.first ≤ at) done
  pub few : length done ≤ at
  pub last : MatchOption current (is_flagged flags at ≡ false) (IsOpen flags rounds at)
  pub all : (r : ℕ) → r ≤ at → is_flagged flags r ≡ true → IsCovered (done ++ option_to_list current) r
  pub ordered : IsStrictlyIncreasing (firsts (done ++ option_to_list current))
