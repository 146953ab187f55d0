-- A row for each round of a history.
use Rattle.std.specs.Prelude.{ℕ, nat_lt, nat_le, ◌&&◌, Bool, cond, List, Option, None, Some, count_by, filter_map}
use Rattle.std.specs.Prelude.{take}
use Rattle.std.specs.List.{enumerate_from, list_any}
use Rattle.policy_tree.specs.Meaning.{Meaning}
use Rattle.round_model.specs.declared.entry.Entry.{Entry}
use Rattle.round_model.specs.declared.entry.Entry.TheVariants as entry
use Rattle.round_model.specs.declared.plan.Plan.{Plan}
use Rattle.round_model.specs.After.{after}
use Rattle.round_model.specs.Cores.{Cores, core_numbers, thread_count}
use Rattle.round_model.specs.Spread.{idle_count, spread}
use Rattle.sched_report.specs.Rests.{gap_at_rest}
use Rattle.sched_report.specs.declared.rows.RoundRow.{RoundRow}

-- whether some core is overloaded
abbrev pub is_overloaded : Plan → Cores → Bool
is_overloaded plan m = list_any (λ c. nat_le 2 (thread_count (m c))) (core_numbers plan)

-- how many cores are idle where some core is overloaded, and 0 elsewhere
abbrev pub idle_beside : Plan → Cores → ℕ
idle_beside plan m = cond (is_overloaded plan m) (idle_count plan m) 0

-- the row of a round that opens in that state
unfoldable pub round_row : Meaning → Plan → ℕ → Cores → RoundRow
round_row p plan number m = record {
  number = number;
  spread = spread plan m;
  idle = idle_beside plan m;
  rest = gap_at_rest p plan m;
}

-- the row of an entry in that state, where a round begins in it
abbrev pub row_of : Meaning → Plan → Cores → Entry → Option RoundRow
row_of p plan m (entry.Round number) = Some (round_row p plan number m)
row_of p plan m e = None

-- the row of the entry at a position
abbrev pub row_at : Meaning → Plan → List Entry → ℕ × Entry → Option RoundRow
row_at p plan history at = row_of p plan (after p plan (take at.0 history)) at.1

-- the rows of the rounds, in order
abbrev pub round_rows : Meaning → Plan → List Entry → List RoundRow
round_rows p plan history = filter_map (row_at p plan history) (enumerate_from 0 history)

-- whether the round is bad: as it opens some core is idle and another overloaded
abbrev pub is_bad : RoundRow → Bool
is_bad row = nat_lt 0 row.idle

-- whether it is a bad one of the rounds first to last
abbrev pub is_bad_within : ℕ → ℕ → RoundRow → Bool
is_bad_within first last row = is_bad row && (nat_le first row.number && nat_le row.number last)

-- how many of the rounds first to last are bad
abbrev pub bad_within : List RoundRow → ℕ → ℕ → ℕ
bad_within rounds first last = count_by (is_bad_within first last) rounds
