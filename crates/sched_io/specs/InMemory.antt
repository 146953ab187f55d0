-- What the sources and sinks in memory show of themselves.
use Rattle.std.specs.Prelude.{ℕ, List, [], ◌∷◌, Bool, Option, Some, None, if◌then◌else◌, map, option_map, Vec}
use Rattle.std.specs.Str.{bytes_eq}
use Rattle.sched_io.specs.Told.{Told, missing, holds}

-- what is told of a name by files, each a name and its bytes; the first of that name counts
abbrev pub told_among : {F : Type 0} → (F → List ℕ) → (F → List ℕ) → List F → List ℕ → Told
told_among name_of bytes_of [] name = missing
told_among name_of bytes_of (file ∷ files) name =
    if bytes_eq (name_of file) name then holds (bytes_of file) else told_among name_of bytes_of files name

-- what a sink tells that keeps only so much
abbrev pub told_unless : Bool → List ℕ → Option (List ℕ)
told_unless overflowed bytes = if overflowed then None else Some bytes

-- the pieces that were kept
abbrev pub pieces_in : {A : Type 0} → Option (Vec (Vec ℕ A) A) → Option (List (List ℕ))
pieces_in kept = option_map (λ v. map (λ piece. piece.items) v.items) kept
