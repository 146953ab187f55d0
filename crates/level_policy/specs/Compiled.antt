-- The plain policy that chooses as the levels say.
use Rattle.std.specs.Prelude.{ℕ, ◌-◌, List, [], ◌∷◌, ◌++◌, fold, length, map, take}
use Rattle.std.specs.List.{range_with_len}
use Rattle.policy_tree.specs.Meaning.{KeyTree, Meaning, preferring}
use Rattle.policy_tree.specs.Trees.{CondTree, always, negated, both, either, test}
use Rattle.level_policy.specs.Levels.{LevelTree, LevelsMeaning}

-- one of these holds, a chain of `or`. Where there is none, it never does
abbrev pub any_of : List CondTree → CondTree
any_of [] = negated always
any_of (c ∷ conditions) = fold either c conditions

-- one of these levels takes the core in
abbrev pub near : List LevelTree → CondTree
near levels = any_of (map (λ (level : LevelTree). level.within) levels)

-- both conditions hold. That `always` holds too needn't be said
abbrev pub narrowed : CondTree → CondTree → CondTree
narrowed beyond always = beyond
narrowed beyond (negated c) = both beyond (negated c)
narrowed beyond (both l r) = both beyond (both l r)
narrowed beyond (either l r) = both beyond (either l r)
narrowed beyond (test how l r) = both beyond (test how l r)

-- the core belongs to the level behind those: none of them takes it in, and the level does
abbrev pub belonging : List LevelTree → LevelTree → CondTree
belonging [] level = level.within
belonging (first ∷ earlier) level = narrowed (negated (near (first ∷ earlier))) level.within

-- for each of the levels, behind the earlier ones: the core belongs to it, and passes its filter
abbrev pub level_filters : List LevelTree → List LevelTree → List CondTree
level_filters earlier [] = []
level_filters earlier (level ∷ levels) =
    both (belonging earlier level) level.filter ∷ level_filters (earlier ++ level ∷ []) levels

-- from whom may be stolen: for some level, the core belongs to it and passes its filter
abbrev pub compiled_filter : List LevelTree → CondTree
compiled_filter levels = any_of (level_filters [] levels)

-- the cores that one of the first so many levels takes in come first
abbrev pub nearer : List LevelTree → ℕ → KeyTree
nearer levels count = preferring (near (take count levels))

-- such a key for each level but the last
abbrev pub level_keys : List LevelTree → List KeyTree
level_keys levels = map (nearer levels) (range_with_len 1 (length levels - 1))

-- the whole policy: the keys of the levels come before those of the text
abbrev pub compiled : LevelsMeaning → Meaning
compiled l = record l.plain {
  filter = compiled_filter l.levels;
  choose = level_keys l.levels ++ l.plain.choose;
}
