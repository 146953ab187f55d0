-- One core of a state changed, and the first item of a list that passes.
use Rattle.std.specs.Prelude.{◌≡◌, ℕ, ◌<◌, ◌==◌, Bool, cond, List, length, find, remove, slice_get, Option, None}
use Rattle.std.specs.Prelude.{MatchOption}
use Rattle.round_model.specs.declared.state.ModelCore.{ModelCore}
use Rattle.round_model.specs.Cores.{Cores}
use Rattle.round_model.specs.Moves.{without_first}

-- the cores with another in the place of one
abbrev pub updated : Cores → ℕ → ModelCore → Cores
updated m a core c = cond (a == c) core (m c)

-- the first item that passes stands there
pub record IsFirstAt {X : Type 0} (test : X → Bool) (xs : List X) (at : ℕ) : Type 0 where
  pub inside : at < length xs
  pub found : find test xs ≡ slice_get xs at
  pub rest : without_first test xs ≡ remove xs at

-- no item passes
pub record HasNone {X : Type 0} (test : X → Bool) (xs : List X) : Type 0 where
  pub found : find test xs ≡ None
  pub rest : without_first test xs ≡ xs

abbrev pub IsFirstPlace : {X : Type 0} → (X → Bool) → List X → Option ℕ → Type 0
IsFirstPlace test xs place = MatchOption place (HasNone test xs) (IsFirstAt test xs)
