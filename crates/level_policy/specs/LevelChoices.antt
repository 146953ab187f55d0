-- The choice by levels: a core steals near, and far only where nothing near is to be had.
use Rattle.std.specs.Prelude.{ℕ, ◌==◌, not, ◌&&◌, Bool, false, List, [], ◌∷◌, filter, length, map}
use Rattle.std.specs.Prelude.{Option, Some, None, slice_get, option_and_then}
use Rattle.std.specs.List.{position_from, range_with_len}
use Rattle.std.specs.Option.{option_or}
use Rattle.policy_tree.specs.Meaning.{KeyTree}
use Rattle.policy_eval.specs.declared.env.CoreValues.{CoreValues}
use Rattle.policy_eval.specs.Orders.{best_of, precedes}
use Rattle.policy_eval.specs.Sights.{pair_values}
use Rattle.policy_eval.specs.Values.{Assignment, holds}
use Rattle.level_policy.specs.Levels.{LevelTree, LevelsMeaning}

-- whether the level takes the other core in: its `within` holds of the acting core and the other
abbrev pub takes_in : CoreValues → CoreValues → LevelTree → Bool
takes_in own other level = holds (pair_values own other) level.within

-- the number of the level that the other core belongs to: the first level that takes it in
unfoldable pub level_of : List LevelTree → CoreValues → CoreValues → Option ℕ
level_of levels own other = position_from (takes_in own other) 0 levels

-- whether the filter of that level holds. Where there is no level, none does
abbrev pub filter_holds : Assignment → Option LevelTree → Bool
filter_holds values None = false
filter_holds values (Some level) = holds values level.filter

-- whether the other core belongs to a level, and passes the filter of that one
abbrev pub passes_its_level : List LevelTree → CoreValues → CoreValues → Bool
passes_its_level levels own other =
    filter_holds (pair_values own other) (option_and_then (slice_get levels) (level_of levels own other))

-- whether that is the number
abbrev pub is_number : ℕ → Option ℕ → Bool
is_number number None = false
is_number number (Some found) = number == found

-- whether the core v is a candidate of that level for the core a: another core, which belongs to it and passes its
-- filter
abbrev pub is_level_candidate : List LevelTree → (ℕ → CoreValues) → ℕ → ℕ → ℕ → Bool
is_level_candidate levels values a number v =
    not (a == v) && (is_number number (level_of levels (values a) (values v))
    && passes_its_level levels (values a) (values v))

-- whether the core a prefers the core v to the core w, by these keys
abbrev pub prefers_by : List KeyTree → (ℕ → CoreValues) → ℕ → ℕ → ℕ → Bool
prefers_by keys values a v w =
    precedes keys (pair_values (values a) (values v)) (pair_values (values a) (values w))

-- the best candidate of that level, of equals the lowest number
unfoldable pub level_best : LevelsMeaning → ℕ → (ℕ → CoreValues) → ℕ → ℕ → Option ℕ
level_best l cores values a number =
    best_of (prefers_by l.plain.choose values a)
    (filter (is_level_candidate l.levels values a number) (range_with_len 0 cores))

-- the first that there is
abbrev pub first_some : {X : Type 0} → List (Option X) → Option X
first_some [] = None
first_some (found ∷ rest) = option_or found (first_some rest)

-- the choice of the core a: the best candidate of the first level that has one
unfoldable pub level_choice : LevelsMeaning → ℕ → (ℕ → CoreValues) → ℕ → Option ℕ
level_choice l cores values a =
    first_some (map (level_best l cores values a) (range_with_len 0 (length l.levels)))
