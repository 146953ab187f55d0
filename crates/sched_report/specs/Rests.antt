-- When the cores are at rest, and how far apart their loads are then.
use Rattle.std.specs.Prelude.{ℕ, ◌-◌, nat_le, ◌&&◌, Bool, cond, List, [], ◌∷◌, Option, None, Some, map, max}
use Rattle.std.specs.List.{fold, list_any}
use Rattle.std.specs.Option.{option_map, option_or}
use Rattle.policy_tree.specs.Meaning.{Meaning}
use Rattle.round_model.specs.declared.plan.Plan.{Plan}
use Rattle.round_model.specs.Attempts.{present_values}
use Rattle.round_model.specs.Choices.{is_candidate}
use Rattle.round_model.specs.Cores.{Cores, core_numbers, load_of}
use Rattle.sched_report.specs.declared.rows.RestRow.{RestRow}
use Rattle.sched_report.specs.declared.rows.RoundRow.{RoundRow}

-- whether the core a may steal from some other
abbrev pub has_victim : Meaning → Plan → Cores → ℕ → Bool
has_victim p plan m a = list_any (is_candidate p (present_values plan m) a) (core_numbers plan)

-- whether some core may steal from some other. Else the cores are at rest
abbrev pub is_restless : Meaning → Plan → Cores → Bool
is_restless p plan m = list_any (has_victim p plan m) (core_numbers plan)

-- the greatest of these numbers, and 0 where there is none
abbrev pub greatest : List ℕ → ℕ
greatest xs = fold max 0 xs

-- how far the greatest of these numbers is above the least
abbrev pub width_of : List ℕ → ℕ
width_of xs = greatest (map (λ x. greatest xs - x) xs)

-- how far the greatest load is above the least
abbrev pub width : Plan → Cores → ℕ
width plan m = width_of (map (λ c. load_of (m c)) (core_numbers plan))

-- that, where no core may steal from another
unfoldable pub gap_at_rest : Meaning → Plan → Cores → Option ℕ
gap_at_rest p plan m = cond (is_restless p plan m) None (Some (width plan m))

-- what is told of rest, where the round opens with the cores at rest
abbrev pub rest_told : RoundRow → Option RestRow
rest_told row = option_map (λ gap. record { round = row.number; gap = gap }) row.rest

-- the same of one of the rounds first to last
abbrev pub rest_within : ℕ → ℕ → RoundRow → Option RestRow
rest_within first last row = cond (nat_le first row.number && nat_le row.number last) (rest_told row) None

-- and of the first of them that opens so
abbrev pub first_rest : List RoundRow → ℕ → ℕ → Option RestRow
first_rest [] first last = None
first_rest (row ∷ rows) first last = option_or (rest_within first last row) (first_rest rows first last)
