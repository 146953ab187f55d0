-- The choice by levels in other words: the best candidate of the nearest level that has one.
use Rattle.std.specs.Prelude.{ℕ, ◌<◌, ◌≤◌, IsFalse, IsTrue, Option, MatchOption}
use Rattle.policy_eval.specs.declared.env.CoreValues.{CoreValues}
use Rattle.level_policy.specs.LevelChoices.{is_level_candidate, level_choice, prefers_by}
use Rattle.level_policy.specs.Levels.{LevelsMeaning}

-- the choice of the core a, where these values were read of so many cores
module _ (l : LevelsMeaning) (cores : ℕ) (values : ℕ → CoreValues) (a : ℕ) where
  -- the core is a candidate of that level
  pub record IsCandidate (level v : ℕ) : Type 0 where
    pub there : v < cores
    pub passes : IsTrue (is_level_candidate l.levels values a level v)

  -- the core is a candidate of the nearest level that has one, of its candidates none comes before it, and it comes
  -- before each with a lower number
  pub record IsNearestBest (v : ℕ) : Type 0 where
    pub level : ℕ
    pub candidate : IsCandidate level v
    pub nearest : (other w : ℕ) → IsCandidate other w → level ≤ other
    pub none_before : (w : ℕ) → IsCandidate level w → IsFalse (prefers_by l.plain.choose values a w v)
    pub lowest : (w : ℕ) → w < v → IsCandidate level w → IsTrue (prefers_by l.plain.choose values a v w)

  -- such a core is chosen, and none exactly where no level has a candidate
  abbrev pub ChoosesNearest : Option ℕ → Type 0
  ChoosesNearest chosen = MatchOption chosen ((level v : ℕ) → ¬ IsCandidate level v) IsNearestBest

-- so it is of every choice by levels
abbrev pub NearestBestLaw : Type 0
NearestBestLaw = (l : LevelsMeaning) (cores : ℕ) (values : ℕ → CoreValues) (a : ℕ) →
    ChoosesNearest l cores values a (level_choice l cores values a)
