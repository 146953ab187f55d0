-- Rounds of a history, by positions: where they begin, which are bad and which are still.
use Rattle.std.specs.Prelude.{◌≡◌, ℕ, ◌<◌, ◌≤◌, Bool, true, false, List, take, IsTrue, IsFalse}
use mathlib.Core.Option.{some}
use lib.ListN.{get_elem?}
use Rattle.policy_tree.specs.Meaning.{Meaning}
use Rattle.round_model.specs.declared.entry.Did.{Did}
use Rattle.round_model.specs.declared.entry.Did.TheVariants as did
use Rattle.round_model.specs.declared.entry.Entry.{Entry}
use Rattle.round_model.specs.declared.entry.Entry.TheVariants as entry
use Rattle.round_model.specs.declared.plan.Plan.{Plan}
use Rattle.round_model.specs.After.{after, round_of}
use Rattle.round_model.specs.Entries.{acts}
use Rattle.round_model.specs.Kinds.{is_attempt}
use Rattle.round_model.specs.Spread.{Beside}

-- the number of the round that is open after the first k entries
abbrev pub round_at : List Entry → ℕ → ℕ
round_at history k = round_of (take k history)

-- the Round of that number stands at the position
abbrev pub BeginsAt : List Entry → ℕ → ℕ → Type 0
BeginsAt history number position = get_elem? history position ≡ some (entry.Round number)

-- the core makes its attempt of the round
pub record Attempts (history : List Entry) (number c : ℕ) : Type 0 where
  pub position : ℕ
  pub attempt : Entry
  pub stands : get_elem? history position ≡ some attempt
  pub in_round : round_at history position ≡ number
  pub by_core : IsTrue (acts c attempt)
  pub is : IsTrue (is_attempt attempt)

-- the round is complete, and as it began some core was idle beside an overloaded one
pub record IsBad (p : Meaning) (plan : Plan) (history : List Entry) (number : ℕ) : Type 0 where
  pub position : ℕ
  pub begins : BeginsAt history number position
  pub complete : (c : ℕ) → c < plan.cores → Attempts history number c
  pub beside : Beside plan (after p plan (take position history))

-- whether the thread leaves the run queues for good or for some rounds
abbrev pub is_leaving : Did → Bool
is_leaving did.Nothing = false
is_leaving (did.Kept thread) = false
is_leaving (did.Queued thread) = false
is_leaving (did.Blocked thread) = true
is_leaving (did.Ended thread) = true

-- whether a thread comes to the run queues or leaves them in the entry
abbrev pub disturbs : Entry → Bool
disturbs (entry.Enter thread by at reads) = true
disturbs (entry.Wake thread by at reads) = true
disturbs (entry.Work by what) = is_leaving what
disturbs e = false

-- in the rounds first to last nobody enters, wakes, blocks or ends
abbrev pub IsStill : List Entry → ℕ → ℕ → Type 0
IsStill history first last = (k : ℕ) (e : Entry) → get_elem? history k ≡ some e → first ≤ round_at history k →
    round_at history k ≤ last → IsFalse (disturbs e)
