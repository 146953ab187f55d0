-- A file that is too long may hold some text that is.
use Rattle.std.proofs.Common.{◌≢◌, ℕ, ◌<◌, ◌+◌, List, refl, arith, length, replicate}
use Rattle.std.proofs.lemmas.List.{length-replicate}
use Rattle.sched_io.specs.Told.{Told, untold, missing, named, holds, IfHolds, MayHold}

-- where the file isn't told to be missing or to be shorter
pub some_long_text : (told : Told) (room : ℕ) → told ≢ missing → IfHolds told (λ bytes. room < length bytes) → (text : List ℕ) × MayHold told text × (room < length text)
some_long_text untold room there long =
    (replicate (room + 1) 0, record { there = λ e. cc; same = λ bytes e. cc }, rw length-replicate (omega arith))
some_long_text missing room there long = absurd (there refl)
some_long_text named room there long =
    (replicate (room + 1) 0, record { there = λ e. cc; same = λ bytes e. cc }, rw length-replicate (omega arith))
some_long_text (holds bytes) room there long =
    (bytes, record { there = λ e. cc; same = λ other e. cc }, long bytes refl)
