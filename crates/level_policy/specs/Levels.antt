-- A policy by levels without the places where its trees lie in memory. Every definition on levels speaks of this
-- record.
use Rattle.std.specs.Prelude.{List, map}
use Rattle.policy_tree.specs.Meaning.{Meaning, meaning_of}
use Rattle.policy_tree.specs.Trees.{CondTree, cond_tree}
use Rattle.level_policy.specs.declared.typed.Level.{Level}
use Rattle.level_policy.specs.declared.typed.Levels.{Levels}

-- one level: the cores that it takes in, and from which of them may be stolen
pub record LevelTree : Type 0 where
  pub within : CondTree
  pub filter : CondTree

abbrev pub level_tree : Level → LevelTree
level_tree l = record { within = cond_tree l.within; filter = cond_tree l.filter }

-- what the policy says beside its levels, and the levels, the nearest first
pub record LevelsMeaning : Type 0 where
  pub plain : Meaning
  pub levels : List LevelTree

abbrev pub levels_meaning : Levels → LevelsMeaning
levels_meaning l = record { plain = meaning_of l.plain; levels = map level_tree l.levels }
