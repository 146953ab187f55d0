-- Why an attempt isn't the one that is made.
use Rattle.std.specs.Prelude.{◌≡◌, ◌≢◌, ℕ, Bool, true, false, List, [], Option, None, Some}
use Rattle.round_model.specs.declared.attempt.Attempt.{Attempt}
use Rattle.round_model.specs.declared.attempt.Attempt.TheVariants as attempt
use Rattle.history_reasons.specs.declared.reason.Reason.{Reason}
use Rattle.history_reasons.specs.declared.reason.Reason.TheVariants as reason

-- the core that it is on
abbrev pub core_of : Attempt → Option ℕ
core_of attempt.Pass = None
core_of (attempt.Fail from) = Some from
core_of (attempt.Steal from ids) = Some from

abbrev pub takes : Attempt → Bool
takes (attempt.Steal from ids) = true
takes x = false

abbrev pub threads_of : Attempt → List ℕ
threads_of (attempt.Steal from ids) = ids
threads_of x = []

-- the first of these parts that differ
abbrev pub IsOtherReason : (claimed made : Attempt) → Option Reason → Type 0
IsOtherReason claimed made None = claimed ≡ made
IsOtherReason claimed made (Some (reason.Choice from)) = (from ≡ core_of made) × (core_of claimed ≢ core_of made)
IsOtherReason claimed made (Some (reason.Filter holds)) =
    (holds ≡ takes made) × (core_of claimed ≡ core_of made) × (takes claimed ≢ takes made)
IsOtherReason claimed made (Some (reason.Threads ids)) =
    (ids ≡ threads_of made) × (core_of claimed ≡ core_of made) × (takes claimed ≡ takes made) × (claimed ≢ made)
IsOtherReason claimed made (Some why) = ⊥
