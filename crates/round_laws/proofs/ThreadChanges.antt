-- What becomes of one thread, in numbers: how often it stands at cores and how often it is blocked, before and after, where
-- `one` is 1 if the entry is about this thread and else 0. And what it leaves of the phase.
use Rattle.std.proofs.Common.{◌≡◌, ℕ, ◌+◌, ◌≤◌, eqb, Bool, true, false, cond, arith}
use Rattle.round_model.specs.declared.entry.Did.{Did}
use Rattle.round_model.specs.declared.entry.Did.TheVariants as did
use Rattle.round_model.specs.declared.entry.Entry.{Entry}
use Rattle.round_model.specs.declared.entry.Entry.TheVariants as entry
use Rattle.round_model.specs.Phases.{Phase, Stands, live, outside, over, phase_after, phase_after_work, waiting}
use Rattle.round_model.proofs.Counting.{counted}

-- one, if these are the same number
abbrev pub one_of : ℕ → ℕ → ℕ
one_of id thread = counted (eqb thread id)

-- nothing changes
pub record IsSame (old_places old_blocked new_places new_blocked : ℕ) : Type 0 where
  pub places : new_places ≡ old_places
  pub blocked : new_blocked ≡ old_blocked

-- a thread that stood nowhere comes
pub record HasCome (one old_places old_blocked new_places new_blocked : ℕ) : Type 0 where
  pub nowhere : one + old_places + old_blocked ≤ 1
  pub places : new_places ≡ old_places + one
  pub blocked : new_blocked ≡ old_blocked

-- a blocked thread comes back
pub record HasWoken (one old_places old_blocked new_places new_blocked : ℕ) : Type 0 where
  pub places : new_places ≡ old_places + one
  pub blocked : new_blocked + one ≡ old_blocked

-- a thread that stands somewhere stays
pub record HasRun (one old_places old_blocked new_places new_blocked : ℕ) : Type 0 where
  pub stood : one ≤ old_places
  pub places : new_places ≡ old_places
  pub blocked : new_blocked ≡ old_blocked

-- it blocks
pub record HasBlocked (one old_places old_blocked new_places new_blocked : ℕ) : Type 0 where
  pub places : new_places + one ≡ old_places
  pub blocked : new_blocked ≡ old_blocked + one

-- it ends
pub record HasEnded (one old_places old_blocked new_places new_blocked : ℕ) : Type 0 where
  pub places : new_places + one ≡ old_places
  pub blocked : new_blocked ≡ old_blocked

-- what the word for a unit says of the thread of that number
abbrev pub AsSaid : ℕ → Did → (old_places old_blocked places blocked : ℕ) → Type 0
AsSaid id did.Nothing old_places old_blocked places blocked = IsSame old_places old_blocked places blocked
AsSaid id (did.Kept thread) old_places old_blocked places blocked = HasRun (one_of id thread) old_places old_blocked places blocked
AsSaid id (did.Queued thread) old_places old_blocked places blocked = HasRun (one_of id thread) old_places old_blocked places blocked
AsSaid id (did.Blocked thread) old_places old_blocked places blocked = HasBlocked (one_of id thread) old_places old_blocked places blocked
AsSaid id (did.Ended thread) old_places old_blocked places blocked = HasEnded (one_of id thread) old_places old_blocked places blocked

-- what the entry makes of the thread of that number
abbrev pub AsMoved : ℕ → Entry → (old_places old_blocked places blocked : ℕ) → Type 0
AsMoved id (entry.Round number) old_places old_blocked places blocked = IsSame old_places old_blocked places blocked
AsMoved id (entry.Enter thread by at reads) old_places old_blocked places blocked = HasCome (one_of id thread) old_places old_blocked places blocked
AsMoved id (entry.Wake thread by at reads) old_places old_blocked places blocked = HasWoken (one_of id thread) old_places old_blocked places blocked
AsMoved id (entry.Work by what) old_places old_blocked places blocked = AsSaid id what old_places old_blocked places blocked
AsMoved id (entry.Steal by from threads reads) old_places old_blocked places blocked = IsSame old_places old_blocked places blocked
AsMoved id (entry.Fail by from reads) old_places old_blocked places blocked = IsSame old_places old_blocked places blocked
AsMoved id (entry.Pass by reads) old_places old_blocked places blocked = IsSame old_places old_blocked places blocked

-- of sums that change as the numbers of one core do, the same may be said
pub said_of_sums : (id : ℕ) (what : Did) (s t u v old_places old_blocked places blocked : ℕ) → AsSaid id what s t u v
    → places + s ≡ old_places + u → blocked + t ≡ old_blocked + v → s ≤ old_places → AsSaid id what old_places old_blocked places blocked
said_of_sums id did.Nothing s t u v old_places old_blocked places blocked said first second has = record { places = omega (arith, said.places); blocked = omega (arith, said.blocked) }
said_of_sums id (did.Kept thread) s t u v old_places old_blocked places blocked said first second has =
    record { stood = omega (arith, said.stood); places = omega (arith, said.places); blocked = omega (arith, said.blocked) }
said_of_sums id (did.Queued thread) s t u v old_places old_blocked places blocked said first second has =
    record { stood = omega (arith, said.stood); places = omega (arith, said.places); blocked = omega (arith, said.blocked) }
said_of_sums id (did.Blocked thread) s t u v old_places old_blocked places blocked said first second has = record { places = omega (arith, said.places); blocked = omega (arith, said.blocked) }
said_of_sums id (did.Ended thread) s t u v old_places old_blocked places blocked said first second has = record { places = omega (arith, said.places); blocked = omega (arith, said.blocked) }

-- the numbers of a phase after a change
module _ (old_places old_blocked places blocked : ℕ) where
  stands_same : (phase : Phase) → places ≡ old_places → blocked ≡ old_blocked → Stands phase old_places old_blocked → Stands phase places blocked
  stands_same outside first second stands = (omega (arith, stands.0), omega (arith, stands.1))
  stands_same live first second stands = (omega (arith, stands.0), omega (arith, stands.1))
  stands_same waiting first second stands = (omega (arith, stands.0), omega (arith, stands.1))
  stands_same over first second stands = (omega (arith, stands.0), omega (arith, stands.1))

  stands_come : (x : Bool) (phase : Phase) → HasCome (counted x) old_places old_blocked places blocked → Stands phase old_places old_blocked → Stands (cond x live phase) places blocked
  stands_come true phase come stands = (omega (arith, come.nowhere, come.places), omega (arith, come.nowhere, come.blocked))
  stands_come false phase come stands = stands_same phase (omega (arith, come.places)) (come.blocked) stands

  -- only a thread that waits is blocked, and only one that lives stands
  when_blocked : (phase : Phase) → 1 ≤ old_blocked → Stands phase old_places old_blocked → (old_places ≡ 0) × (old_blocked ≡ 1)
  when_blocked outside some stands = absurd (omega (arith, stands.1))
  when_blocked live some stands = absurd (omega (arith, stands.1))
  when_blocked waiting some stands = stands
  when_blocked over some stands = absurd (omega (arith, stands.1))

  when_placed : (phase : Phase) → 1 ≤ old_places → Stands phase old_places old_blocked → (old_places ≡ 1) × (old_blocked ≡ 0)
  when_placed outside some stands = absurd (omega (arith, stands.0))
  when_placed live some stands = stands
  when_placed waiting some stands = absurd (omega (arith, stands.0))
  when_placed over some stands = absurd (omega (arith, stands.0))

  stands_woken : (x : Bool) (phase : Phase) → HasWoken (counted x) old_places old_blocked places blocked → Stands phase old_places old_blocked → Stands (cond x live phase) places blocked
  stands_woken true phase woken stands =
      let were = when_blocked phase (omega (arith, woken.blocked)) stands in (omega (arith, were.0, woken.places), omega (arith, were.1, woken.blocked))
  stands_woken false phase woken stands = stands_same phase (omega (arith, woken.places)) (omega (arith, woken.blocked)) stands

  stands_run : (x : Bool) (phase : Phase) → HasRun (counted x) old_places old_blocked places blocked → Stands phase old_places old_blocked → Stands (cond x live phase) places blocked
  stands_run true phase run stands = let were = when_placed phase run.stood stands in (omega (arith, were.0, run.places), omega (arith, were.1, run.blocked))
  stands_run false phase run stands = stands_same phase run.places run.blocked stands

  stands_blocked : (x : Bool) (phase : Phase) → HasBlocked (counted x) old_places old_blocked places blocked → Stands phase old_places old_blocked → Stands (cond x waiting phase) places blocked
  stands_blocked true phase went stands =
      let were = when_placed phase (omega (arith, went.places)) stands in (omega (arith, were.0, went.places), omega (arith, were.1, went.blocked))
  stands_blocked false phase went stands = stands_same phase (omega (arith, went.places)) (omega (arith, went.blocked)) stands

  stands_ended : (x : Bool) (phase : Phase) → HasEnded (counted x) old_places old_blocked places blocked → Stands phase old_places old_blocked → Stands (cond x over phase) places blocked
  stands_ended true phase went stands =
      let were = when_placed phase (omega (arith, went.places)) stands in (omega (arith, were.0, went.places), omega (arith, were.1, went.blocked))
  stands_ended false phase went stands = stands_same phase (omega (arith, went.places)) (omega (arith, went.blocked)) stands

  stands_said : (id : ℕ) (phase : Phase) (what : Did) → AsSaid id what old_places old_blocked places blocked → Stands phase old_places old_blocked
      → Stands (phase_after_work id phase what) places blocked
  stands_said id phase did.Nothing said stands = stands_same phase said.places said.blocked stands
  stands_said id phase (did.Kept thread) said stands = stands_run (eqb thread id) phase said stands
  stands_said id phase (did.Queued thread) said stands = stands_run (eqb thread id) phase said stands
  stands_said id phase (did.Blocked thread) said stands = stands_blocked (eqb thread id) phase said stands
  stands_said id phase (did.Ended thread) said stands = stands_ended (eqb thread id) phase said stands

  -- a thread that stands as its phase says does so after the entry
  pub stands_moved : (id : ℕ) (phase : Phase) (e : Entry) → AsMoved id e old_places old_blocked places blocked → Stands phase old_places old_blocked
      → Stands (phase_after id phase e) places blocked
  stands_moved id phase (entry.Round number) change stands = stands_same phase change.places change.blocked stands
  stands_moved id phase (entry.Enter thread by at reads) change stands = stands_come (eqb thread id) phase change stands
  stands_moved id phase (entry.Wake thread by at reads) change stands = stands_woken (eqb thread id) phase change stands
  stands_moved id phase (entry.Work by what) change stands = stands_said id phase what change stands
  stands_moved id phase (entry.Steal by from threads reads) change stands = stands_same phase change.places change.blocked stands
  stands_moved id phase (entry.Fail by from reads) change stands = stands_same phase change.places change.blocked stands
  stands_moved id phase (entry.Pass by reads) change stands = stands_same phase change.places change.blocked stands
