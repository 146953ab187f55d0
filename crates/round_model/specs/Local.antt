-- What a core needs to know of a history, so that it can tell whether its next entry is legal.
use Rattle.std.specs.Prelude.{◌≡◌, ℕ, ◌<◌, ◌==◌, nat_lt, Bool, ◌&&◌, cond, List, length, slice_index, Option, Some}
use Rattle.std.specs.Prelude.{None, IfSome, ◌↔◌}
use Rattle.policy_tree.specs.Meaning.{Meaning}
use Rattle.round_model.specs.declared.entry.Entry.{Entry}
use Rattle.round_model.specs.declared.plan.Plan.{Plan}
use Rattle.round_model.specs.declared.state.CountAndLoad.{CountAndLoad}
use Rattle.round_model.specs.declared.state.ModelCore.{ModelCore}
use Rattle.round_model.specs.After.{after, round_of}
use Rattle.round_model.specs.Entries.{acting_core, reads_of, touches}
use Rattle.round_model.specs.Legal.{LegalNext, rounds_begun}
use Rattle.round_model.specs.Reads.{round_start, value_read}
use Rattle.round_model.specs.Rows.{Row}
use Rattle.round_model.specs.Scenes.{Scene, own_entries}

-- what is known of a moment: all that is the acting core's own, some of the cores, and some of what was seen
pub record Knowledge : Type 0 where
  -- the number of the open round
  pub round : ℕ
  -- the position just after its Round
  pub start : ℕ
  -- the position of the next entry
  pub position : ℕ
  -- the acting core's own entries since the start
  pub own : List Entry
  -- the cores that are known
  pub cores : ℕ → Option ModelCore
  -- thread count and load of a core at a position, where they are known
  pub seen : ℕ → ℕ → Option CountAndLoad

-- the moment is one of which so much is known. Nothing else is said of it
pub record IsAsKnown (known : Knowledge) (s : Scene) : Type 0 where
  pub round : s.round ≡ known.round
  pub start : s.start ≡ known.start
  pub position : s.position ≡ known.position
  pub own : s.own ≡ known.own
  pub cores : (c : ℕ) → IfSome (known.cores c) (λ core. s.cores c ≡ core)
  pub seen : (c k : ℕ) → IfSome (known.seen c k) (λ value. s.seen c k ≡ value)

-- the entry is legal next, by what is known alone: whatever the rest of the moment is
abbrev pub IsLocal : Meaning → Plan → Knowledge → Entry → Type 0
IsLocal p plan known e = (s : Scene) → IsAsKnown known s → Row p plan s e

-- whether the position is the one at which these reads saw the core
abbrev pub is_read_at : List ℕ → ℕ → ℕ → Bool
is_read_at reads c position = nat_lt c (length reads) && (slice_index reads c == position)

-- what an entry of the core a needs of a history: the cores that it touches, and what its reads saw
abbrev pub needed_of : Meaning → Plan → List Entry → ℕ → Entry → Knowledge
needed_of p plan history a e = record {
  round = round_of history;
  start = round_start history;
  position = length history;
  own = own_entries history a;
  cores = λ c. cond (touches c e) (Some (after p plan history c)) None;
  seen = λ c k. cond (is_read_at (reads_of e) c k) (Some (value_read p plan history c k)) None;
}

-- an entry of a core is legal next exactly where it is so by what it needs
abbrev pub LocalLaw : Type 0
LocalLaw = (p : Meaning) (plan : Plan) (history : List Entry) (e : Entry) (a : ℕ) → 0 < rounds_begun history
    → acting_core e ≡ Some a → LegalNext p plan history e ↔ IsLocal p plan (needed_of p plan history a e) e
