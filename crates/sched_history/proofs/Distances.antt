-- Positions and their distances from the start of their round.
use Rattle.std.proofs.Common.{◌≡◌, ◌≢◌, ℕ, ◌-◌, ◌<◌, List, [], ◌∷◌, length, get_or, ap₂, refl, arith}
use Rattle.std.proofs.lemmas.List.{get_or-map, length-map}
use Rattle.sched_history.specs.Spelling.{behind_colon, distances, reads_from}

pub length-distances : (start : ℕ) (reads : List ℕ) → length (distances start reads) ≡ length reads
unfolding distances
length-distances start reads = length-map reads (λ (position : ℕ). position - start)

pub distance_at : (start : ℕ) (reads : List ℕ) (at : ℕ) → at < length reads → get_or (distances start reads) at 0 ≡ get_or reads at 0 - start
unfolding distances
distance_at start reads at inside = get_or-map (λ (position : ℕ). position - start) reads at 0 0 inside

-- from 0 the distances are the positions
pub distances-zero : (reads : List ℕ) → distances 0 reads ≡ reads
unfolding distances
distances-zero [] = refl
distances-zero (read ∷ reads) = ap₂ (λ (n : ℕ) (ns : List ℕ). n ∷ ns) (omega arith) (distances-zero reads)

-- where there is a read there is a colon
pub with_colon : (start : ℕ) (reads : List ℕ) → reads ≢ [] → reads_from start reads ≡ behind_colon (distances start reads)
with_colon start [] some = absurd (some refl)
with_colon start (read ∷ reads) some = refl
