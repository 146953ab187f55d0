-- No worker's share passes its room.
use Rattle.std.proofs.Common.{◌≡◌, ℕ, ◌+◌, ◌*◌, ◌/◌, ◌<◌, ◌≤◌, refl, arith}
use Rattle.std.proofs.Math.Nat.{lt-mul-div-succ}
use Rattle.std.proofs.lemmas.Nat.{div_below}
use Rattle.turn_steps.specs.Shares.{first_of}
use Rattle.crew_play.specs.Room.{room_for}

pub room_is : (cores workers : ℕ) → cores / workers + 1 ≡ room_for cores workers
unfolding room_for
room_is cores workers = refl

pub share_fits : (cores workers worker : ℕ) → 1 ≤ workers → first_of cores workers (worker + 1) ≤ first_of cores workers worker + room_for cores workers
unfolding first_of room_for
share_fits cores workers worker some =
    let before : worker * cores < workers * (worker * cores / workers + 1) = lt-mul-div-succ (worker * cores) (omega arith) in
    let share : cores < workers * (cores / workers + 1) = lt-mul-div-succ cores (omega arith) in
    let below = div_below ((worker + 1) * cores) workers (worker * cores / workers + cores / workers + 2) (omega arith) (omega arith) in
    omega arith
