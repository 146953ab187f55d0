-- Policies by levels as a text has them: what stands in a level, and how many there are.
use Rattle.std.specs.Prelude.{◌≡◌, ◌≤◌, ℕ, Bool, ◌||◌, length, All}
use Rattle.sched_base.specs.declared.limits.TheConstants.{MAX_LEVELS, MAX_LEVEL_COMPARISONS, MAX_LEVEL_KEYS}
use Rattle.policy_tree.specs.declared.variables.TheConstants.{OTHER_ATTRIBUTES, SELF_ATTRIBUTES}
use Rattle.policy_tree.specs.Meaning.{Meaning}
use Rattle.policy_tree.specs.Trees.{CondTree, always}
use Rattle.policy_eval.specs.Forms.{EachSide, RefersTo, comparisons_of}
use Rattle.policy_eval.specs.Resolved.{IsResolved, IsResolvedExpr}
use Rattle.policy_eval.specs.Sites.{filtering, is_attribute}
use Rattle.level_policy.specs.Levels.{LevelTree, LevelsMeaning}

-- whether the variable is an attribute of one of the two cores. Those never change
abbrev pub is_core_attribute : Meaning → ℕ → Bool
is_core_attribute p at = is_attribute SELF_ATTRIBUTES p.core_attrs at || is_attribute OTHER_ATTRIBUTES p.core_attrs at

-- a `within`: at most one comparison, over attributes of the two cores alone
pub record IsResolvedWithin (p : Meaning) (c : CondTree) : Type 0 where
  pub few : comparisons_of c ≤ 1
  pub sides : EachSide (IsResolvedExpr p filtering) c
  pub attributes : EachSide (RefersTo (is_core_attribute p)) c

-- a level's filter
pub record IsResolvedFilter (p : Meaning) (c : CondTree) : Type 0 where
  pub few : comparisons_of c ≤ MAX_LEVEL_COMPARISONS
  pub sides : EachSide (IsResolvedExpr p filtering) c

pub record IsResolvedLevel (p : Meaning) (level : LevelTree) : Type 0 where
  pub within : IsResolvedWithin p level.within
  pub filter : IsResolvedFilter p level.filter

-- the whole policy. Beside its levels it has no filter
pub record AreResolved (l : LevelsMeaning) : Type 0 where
  pub plain : IsResolved l.plain
  pub unfiltered : l.plain.filter ≡ always
  pub few_keys : length l.plain.choose ≤ MAX_LEVEL_KEYS
  pub some : 1 ≤ length l.levels
  pub few : length l.levels ≤ MAX_LEVELS
  pub levels : All (IsResolvedLevel l.plain) l.levels
