-- Numbers behind a space. They serve the code alone.
use Rattle.std.specs.Prelude.{◌≡◌, ℕ, ◌≤◌, List, ◌++◌, All, length}
use Rattle.sched_base.specs.declared.limits.TheConstants.{MAX_STOLEN}
use Rattle.sched_history.specs.Ranges.{AreStolen, IsThreadNumber}
use Rattle.sched_history.specs.Spelling.{spaced, spaced_number}
use Rattle.text_forms.specs.Cuts.{StartsWith}

abbrev pub IsWithin : ℕ → ℕ → ℕ → Type 0
IsWithin least most number = (least ≤ number) × (number ≤ most)

-- the text begins with a space and such a number, behind which a space stands or nothing
pub record BeginsWithNumber (IsRight : ℕ → Type 0) (text : List ℕ) (number : ℕ) (behind : List ℕ) : Type 0 where
  pub right : IsRight number
  pub text_is : text ≡ spaced_number number ++ behind
  pub space : StartsWith 32 behind

abbrev pub BeginsWithNoNumber : (ℕ → Type 0) → List ℕ → Type 0
BeginsWithNoNumber IsRight text = (number : ℕ) (behind : List ℕ) → BeginsWithNumber IsRight text number behind → ⊥

-- The text begins with these threads. Where it is that of threads and then of no thread, then of these and of what
-- stands behind them.
pub record BeginsWithThreads (text threads behind : List ℕ) : Type 0 where
  pub text_is : text ≡ spaced threads ++ behind
  pub few : length threads ≤ MAX_STOLEN
  pub numbers : All IsThreadNumber threads
  pub only : (all tail : List ℕ) → AreStolen all → StartsWith 32 tail → BeginsWithNoNumber IsThreadNumber tail
      → text ≡ spaced all ++ tail → (all ≡ threads) × (behind ≡ tail)
