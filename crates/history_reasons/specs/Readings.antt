-- Why reads may not stand in an entry, by how many are asked for and from where on, and a thread not come to a core.
use Rattle.std.specs.Prelude.{◌≡◌, ◌≢◌, ◌⊎◌, ℕ, ◌<◌, List, Option, None, Some, length, slice_get}
use Rattle.round_model.specs.Reads.{ReadsFit}
use Rattle.history_reasons.specs.declared.reason.Reason.{Reason}
use Rattle.history_reasons.specs.declared.reason.Reason.TheVariants as reason

-- the read of the core is outside of the window, and there are as many reads as are asked for
pub record IsOutsideOf (reads : List ℕ) (count first last core saw : ℕ) : Type 0 where
  pub one_each : length reads ≡ count
  pub read : slice_get reads core ≡ Some saw
  pub outside : (saw < first) ⊎ (last < saw)

-- the reason is true of the reads, and where there is none they fit
abbrev pub IsReadReason : List ℕ → (count first last : ℕ) → Option Reason → Type 0
IsReadReason reads count first last None = ReadsFit count first last reads
IsReadReason reads count first last (Some (reason.ReadCount asked)) = (asked ≡ count) × (length reads ≢ count)
IsReadReason reads count first last (Some (reason.Read core saw from to)) =
    (from ≡ first) × (to ≡ last) × IsOutsideOf reads count first last core saw
IsReadReason reads count first last (Some why) = ⊥

-- the thread is placed on the target, and this is the reason where it is said to come to another core
abbrev pub IsPlaceReason : (at target : ℕ) → Option Reason → Type 0
IsPlaceReason at target None = at ≡ target
IsPlaceReason at target (Some (reason.Place is)) = (is ≡ target) × (at ≢ target)
IsPlaceReason at target (Some why) = ⊥
