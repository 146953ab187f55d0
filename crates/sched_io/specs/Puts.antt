-- Lines that are put one after another.
use Rattle.std.specs.Prelude.{◌≡◌, ℕ, ◌+◌, ◌<◌, List, length, take, MatchResult, Result}
use Rattle.std.specs.List.{flat_map}
use Rattle.sched_io.specs.Faults.{Rose}
use Rattle.sched_io.specs.Shown.{Shown, WhereTold}
use Rattle.sched_io.specs.Written.{Adds, AddsPart, Grows}

-- the bytes of the lines, one line behind another
abbrev pub joined : List (List ℕ) → List ℕ
joined lines = flat_map (λ line. line) lines

-- All of these lines were written, each as one piece where the sink tells its pieces.
pub record WritesAll (lines : List (List ℕ)) (before after : Shown) : Type 0 where
  pub bytes : Adds (joined lines) before.written after.written
  pub pieces : Grows lines before.offered after.offered
  pub steady : after.faults ≡ before.faults

-- Just the first `count` lines were written, each as one piece, and the line behind them was offered as one.
pub record StopsBehind (count : ℕ) (lines : List (List ℕ)) (before after : Shown) : Type 0 where
  pub inside : count < length lines
  pub bytes : Adds (joined (take count lines)) before.written after.written
  pub pieces : Grows (take (count + 1) lines) before.offered after.offered

-- A put failed, and not all of the lines was written: where the sink tells its pieces just the lines before the failing
-- put.
pub record WritesPart (lines : List (List ℕ)) (before after : Shown) : Type 0 where
  pub bytes : AddsPart (joined lines) before.written after.written
  pub stops : WhereTold after.offered ((count : ℕ) × StopsBehind count lines before after)
  pub fault : Rose before.faults after.faults

-- what a call did that puts these lines
abbrev pub Puts : {T E : Type 0} → List (List ℕ) → Result T E → Shown → Shown → Type 0
Puts lines result before after = MatchResult result (λ done. WritesAll lines before after)
    (λ fault. WritesPart lines before after)
