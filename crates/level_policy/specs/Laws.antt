-- What a plain policy has to be that chooses as the levels say, and what the levels of cores are.
use Rattle.std.specs.Prelude.{◌≡◌, ◌<◌, ◌≤◌, length}
use Rattle.policy_tree.specs.Meaning.{Meaning}
use Rattle.policy_eval.specs.declared.env.CoreValues.{CoreValues}
use Rattle.policy_eval.specs.Forms.{comparisons_of}
use Rattle.policy_eval.specs.Sights.{pair_values}
use Rattle.policy_eval.specs.Values.{holds}
use Rattle.sched_base.specs.declared.limits.TheConstants.{MAX_COMPARISONS, MAX_KEYS}
use Rattle.level_policy.specs.Compiled.{compiled}
use Rattle.level_policy.specs.LevelChoices.{level_of, passes_its_level}
use Rattle.level_policy.specs.Levels.{LevelsMeaning}
use Rattle.level_policy.specs.ResolvedLevels.{AreResolved}

-- whatever the values, a core passes the policy's filter exactly where it belongs to a level and passes the filter of
-- that one
abbrev pub FiltersByLevel : LevelsMeaning → Meaning → Type 0
FiltersByLevel l p = (own other : CoreValues) →
    holds (pair_values own other) p.filter ≡ passes_its_level l.levels own other

-- so it is of the compiled policy
abbrev pub LevelFilterLaw : Type 0
LevelFilterLaw = (l : LevelsMeaning) → FiltersByLevel l (compiled l)

-- the filter has fewer comparisons than a policy may have, and the order of choice no more keys than one may have
pub record IsShort (p : Meaning) : Type 0 where
  pub comparisons : comparisons_of p.filter < MAX_COMPARISONS
  pub keys : length p.choose ≤ MAX_KEYS

-- two cores keep their level, whatever runs on them, since it depends on their attributes alone
abbrev pub LevelStaysLaw : Type 0
LevelStaysLaw = (l : LevelsMeaning) → AreResolved l → (own other own_later other_later : CoreValues)
    → own.consts ≡ own_later.consts → other.consts ≡ other_later.consts
    → level_of l.levels own other ≡ level_of l.levels own_later other_later
