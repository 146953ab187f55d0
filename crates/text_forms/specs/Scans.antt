-- Lines that are read one after the other: each is taken, or breaks a rule, by what was read before it.
use Rattle.std.specs.Prelude.{ℕ, ◌+◌, List, [], ◌∷◌}

-- lines, the first of which has that number, lead from what was read before them to what is read behind them
pub data Scans {S : Type 0} (takes : S → ℕ → List ℕ → S → Type 0) : S → ℕ → List (List ℕ) → S → Type 0 where
  scans_nothing : {before : S} {number : ℕ} → Scans takes before number [] before
  scans_line : {before after : S} {number : ℕ} (line : List ℕ) {rest : List (List ℕ)} (between : S) →
      takes before number line between → Scans takes between (number + 1) rest after →
      Scans takes before number (line ∷ rest) after

-- the first fault of lines: the lines before it are taken, and it stands in a line or behind the last one
pub data FailsFirst {S F : Type 0} (takes : S → ℕ → List ℕ → S → Type 0) (breaks : S → ℕ → List ℕ → F → Type 0)
    (lacks : S → ℕ → F → Type 0) : S → ℕ → List (List ℕ) → F → Type 0 where
  fails_here : {before : S} {number : ℕ} (line : List ℕ) {rest : List (List ℕ)} {fault : F} →
      breaks before number line fault → FailsFirst takes breaks lacks before number (line ∷ rest) fault
  fails_later : {before : S} {number : ℕ} (line : List ℕ) {rest : List (List ℕ)} (between : S) {fault : F} →
      takes before number line between → FailsFirst takes breaks lacks between (number + 1) rest fault →
      FailsFirst takes breaks lacks before number (line ∷ rest) fault
  fails_behind : {before : S} {number : ℕ} {fault : F} →
      lacks before number fault → FailsFirst takes breaks lacks before number [] fault
