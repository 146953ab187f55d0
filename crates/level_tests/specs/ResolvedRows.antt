-- Policies by levels as a text has them, and those that miss it by one change.
use Rattle.std.specs.Prelude.{pos, List, [], ◌∷◌, ◌++◌}
use Rattle.policy_tree.specs.declared.trees.Cmp.TheVariants as cmp
use Rattle.policy_tree.specs.Meaning.{KeyTree, least_first}
use Rattle.policy_tree.specs.Trees.{CondTree, always, both, number, test, variable}
use Rattle.level_policy.specs.Levels.{LevelTree, LevelsMeaning}
use Rattle.level_policy.specs.ResolvedLevels.{AreResolved}
use Rattle.level_tests.specs.LevelPolicies.{gap_of, idle_or_gap, level, numa, overlapping, same}

pub record LevelsAreResolved : Type 0 where
  pub numa_resolved : AreResolved numa
  pub overlapping_resolved : AreResolved overlapping

-- the levels of `numa`, the first of which takes those cores in
abbrev pub with_within : CondTree → LevelsMeaning
with_within within = record numa { levels = level within (gap_of 2) ∷ level always (idle_or_gap 3) ∷ [] }

-- the policy `numa` with these levels, with this filter beside them, with this order
abbrev pub with_levels : List LevelTree → LevelsMeaning
with_levels levels = record numa { levels = levels }

abbrev pub with_filter : CondTree → LevelsMeaning
with_filter filter = record numa { plain = record numa.plain { filter = filter } }

abbrev pub with_choose : List KeyTree → LevelsMeaning
with_choose choose = record numa { plain = record numa.plain { choose = choose } }

-- changes of one thing
pub record LevelsMiss : Type 0 where
  pub count_in_a_within : ¬ AreResolved (with_within (test cmp.Eq (variable 0) (number (pos 0))))
  pub two_comparisons_in_a_within : ¬ AreResolved (with_within (both (same 0) (same 0)))
  pub no_level : ¬ AreResolved (with_levels [])
  pub four_levels : ¬ AreResolved (with_levels (overlapping.levels ++ level always (gap_of 2) ∷ []))
  pub four_comparisons :
      ¬ AreResolved (with_levels (level always (both (gap_of 2) (idle_or_gap 3)) ∷ []))
  pub filter_beside_the_levels : ¬ AreResolved (with_filter (gap_of 2))
  pub three_keys :
      ¬ AreResolved (with_choose
      (least_first (variable 2) ∷ least_first (variable 3) ∷ least_first (variable 0) ∷ []))
