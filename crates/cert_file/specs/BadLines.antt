-- The first line of a text that may not stand where it does, by what is still to come.
use Rattle.std.specs.Prelude.{◌≡◌, ℕ, suc, ◌+◌, ◌<◌, ◌^◌, List, [], ◌∷◌, ◌++◌}
use Rattle.sched_base.specs.declared.limits.TheConstants.{MAX_SPLITS}
use Rattle.cert_lines.specs.Faults.{Takes}
use Rattle.obligations.specs.declared.names.ObName.{ObName}
use Rattle.obligations.specs.Names.{ob_names}
use Rattle.cert_file.specs.Text.{heading, obligation_line, system_line}

-- What is still to come of a file.
pub data Coming : Type 0 where
  -- all of it
  all : Coming
  -- Of a certificate these parts, by how many splits may stand one within another in each, and so many lines. Behind it
  -- so many systems of the same obligation, and then these obligations.
  parts : (nodes : List ℕ) (lines systems : ℕ) (names : List ObName) → Coming

-- nothing
abbrev pub nothing : Coming
nothing = parts [] 0 0 []

-- A line is taken: what is to come before it, and what behind it. A line within a certificate is one of the
-- certificate's own, and one of those that its system's line announced.
pub data TakesLine : Coming → List ℕ → Coming → Type 0 where
  takes_heading : TakesLine all heading (parts [] 0 0 ob_names)
  takes_obligation : (name : ObName) (names : List ObName) (systems : ℕ) → systems < 2 ^ 32 →
      TakesLine (parts [] 0 0 (name ∷ names)) (obligation_line name systems) (parts [] 0 systems names)
  takes_system : (systems : ℕ) (names : List ObName) (lines : ℕ) → 0 < lines → lines < 2 ^ 64 →
      TakesLine (parts [] 0 (suc systems) names) (system_line lines) (parts (MAX_SPLITS ∷ []) lines systems names)
  takes_node : (nodes after line : List ℕ) (lines systems : ℕ) (names : List ObName) → Takes nodes line after →
      TakesLine (parts nodes (suc lines) systems names) line (parts after lines systems names)

-- Of a text whose first line has that number, before which that is to come, the first bad line: the lines before it are
-- taken, and none that may stand there begins the rest. Where nothing is to come, the rest has to be empty.
pub data IsBadFrom : Coming → ℕ → List ℕ → ℕ → Type 0 where
  bad_here : (coming : Coming) (number : ℕ) (text : List ℕ) → (coming ≡ nothing → text ≡ [] → ⊥) →
      ((line rest : List ℕ) (after : Coming) → text ≡ line ++ 10 ∷ rest → TakesLine coming line after → ⊥) →
      IsBadFrom coming number text number
  bad_later : (coming after : Coming) (number : ℕ) (line rest : List ℕ) (at : ℕ) → TakesLine coming line after →
      IsBadFrom after (number + 1) rest at → IsBadFrom coming number (line ++ 10 ∷ rest) at

-- the first bad line of a text, by number from 1
abbrev pub IsFirstBadLine : List ℕ → ℕ → Type 0
IsFirstBadLine text at = IsBadFrom all 1 text at
