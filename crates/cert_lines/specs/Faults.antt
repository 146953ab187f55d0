-- The first line of a text that may not stand where it does.
use Rattle.std.specs.Prelude.{◌≡◌, ℕ, suc, ◌+◌, List, [], ◌∷◌, ◌++◌, All, ℤ}
use Rattle.linear_cert.specs.declared.cert.Mult.{Mult}
use Rattle.sched_base.specs.declared.limits.TheConstants.{MAX_SPLITS}
use Rattle.cert_lines.specs.Text.{IsMult, IsSplit, leaf_line, split_line}

-- A line is taken. The lists say how many splits may stand one within another in each part that is still to come, the
-- next part first: before the line, and behind it.
pub data Takes : List ℕ → List ℕ → List ℕ → Type 0 where
  takes_leaf : (room : ℕ) (coming : List ℕ) (mults : List Mult) → All IsMult mults →
      Takes (room ∷ coming) (leaf_line mults) coming
  takes_split : (room : ℕ) (coming : List ℕ) (variable : ℕ) (at : ℤ) → IsSplit variable at →
      Takes (suc room ∷ coming) (split_line variable at) (room ∷ room ∷ coming)

-- Of a text whose first line has that number, before which these parts are to come, the first bad line: the lines
-- before it are taken, and none that may stand there begins the rest. Where no part is to come, the rest has to be
-- empty.
pub data IsBadAt : List ℕ → ℕ → List ℕ → ℕ → Type 0 where
  bad_here : (coming : List ℕ) (number : ℕ) (text : List ℕ) → (coming ≡ [] → text ≡ [] → ⊥) →
      ((line rest after : List ℕ) → text ≡ line ++ 10 ∷ rest → Takes coming line after → ⊥) →
      IsBadAt coming number text number
  bad_later : (coming after : List ℕ) (number : ℕ) (line rest : List ℕ) (at : ℕ) → Takes coming line after →
      IsBadAt after (number + 1) rest at → IsBadAt coming number (line ++ 10 ∷ rest) at

-- the first bad line of a text, by number from 1
abbrev pub IsFirstBadLine : List ℕ → ℕ → Type 0
IsFirstBadLine text at = IsBadAt (MAX_SPLITS ∷ []) 1 text at
