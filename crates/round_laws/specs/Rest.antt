-- The law of rest: in still rounds the cores come to rest, where none may steal from another, and then nothing moves.
use Rattle.std.specs.Prelude.{◌≡◌, ◌≢◌, ℕ, ◌+◌, ◌*◌, ◌<◌, ◌≤◌, List, length, take, All, IsFalse}
use Rattle.std.specs.List.Sorted.{IsStrictlyIncreasing}
use mathlib.Core.Option.{some}
use lib.ListN.{get_elem?}
use Rattle.policy_tree.specs.Meaning.{Meaning}
use Rattle.policy_eval.specs.Obligations.{FurtherMoveNarrowsGap, MeetsHandlerObligations, MoveNarrowsGap}
use Rattle.policy_eval.specs.Obligations.{VictimIsOverloaded}
use Rattle.policy_eval.specs.Sights.{pair_values}
use Rattle.policy_eval.specs.Values.{Holds}
use Rattle.round_model.specs.declared.entry.Entry.{Entry}
use Rattle.round_model.specs.declared.plan.Plan.{Plan}
use Rattle.round_model.specs.After.{after}
use Rattle.round_model.specs.Attempts.{present_values}
use Rattle.round_model.specs.Cores.{Cores}
use Rattle.round_model.specs.Fits.{Fits}
use Rattle.round_model.specs.Kinds.{is_steal}
use Rattle.round_model.specs.Legal.{Legal}
use Rattle.round_model.specs.Rounds.{Attempts, BeginsAt, IsStill}
use Rattle.round_model.specs.StillRounds.{StealsIn, spread_at}
use Rattle.round_model.specs.Stretches.{InStretch, IsStillStretch}

-- what a policy owes but for one obligation: idle cores need not see every overloaded one
pub record MeetsMoveObligations (p : Meaning) : Type 0 where
  pub victim_is_overloaded : VictimIsOverloaded p
  pub move_narrows_gap : MoveNarrowsGap p
  pub further_move_narrows_gap : FurtherMoveNarrowsGap p
  pub handlers : MeetsHandlerObligations p

-- some core may steal from another: the filter holds of the two as they are. Else the cores are at rest
pub record Restless (p : Meaning) (plan : Plan) (m : Cores) : Type 0 where
  pub thief : ℕ
  pub victim : ℕ
  pub thief_there : thief < plan.cores
  pub victim_there : victim < plan.cores
  pub apart : thief ≢ victim
  pub passes : Holds (pair_values (present_values plan m thief) (present_values plan m victim)) p.filter

module _ (p : Meaning) (plan : Plan) (history : List Entry) where
  -- some core may steal from another after the first k entries
  abbrev pub RestlessAt : ℕ → Type 0
  RestlessAt k = Restless p plan (after p plan (take k history))

  -- the round is complete, and as it began some core could steal from another
  pub record IsRestless (number : ℕ) : Type 0 where
    pub position : ℕ
    pub begins : BeginsAt history number position
    pub complete : (c : ℕ) → c < plan.cores → Attempts history number c
    pub restless : RestlessAt position

  -- a restless and still round has a steal
  abbrev pub RestlessRoundsSteal : Type 0
  RestlessRoundsSteal = (number : ℕ) → IsRestless number → IsStill history number number
      → StealsIn p plan history number

  -- however many restless rounds a still stretch has, twice as many are at most its first spread
  abbrev pub RestlessRoundsPaid : Type 0
  RestlessRoundsPaid = (first last opening : ℕ) (restless : List ℕ) → IsStillStretch history first last
      → BeginsAt history first opening → IsStrictlyIncreasing restless
      → All (λ number. (first ≤ number) × (number ≤ last) × IsRestless number) restless
      → 2 * length restless ≤ spread_at p plan history opening

  -- in a still stretch, where the cores are at rest, they are so later
  abbrev pub RestStays : Type 0
  RestStays = (first last k later : ℕ) → IsStillStretch history first last → InStretch history first last k
      → InStretch history first last later → k ≤ later → ¬ RestlessAt k → ¬ RestlessAt later

  -- and no entry from there on is a steal
  abbrev pub NothingMovesAtRest : Type 0
  NothingMovesAtRest = (first last k later : ℕ) (e : Entry) → IsStillStretch history first last
      → InStretch history first last k → InStretch history first last later → k ≤ later → ¬ RestlessAt k
      → get_elem? history later ≡ some e → IsFalse (is_steal e)

  -- from the Round on that many rounds after the first, as half the first spread rounded down, the cores are at rest
  abbrev pub RestsAfter : Type 0
  RestsAfter = (first last opening rounds from k : ℕ) → IsStillStretch history first last
      → BeginsAt history first opening → spread_at p plan history opening ≤ 2 * rounds + 1
      → BeginsAt history (first + rounds) from → from ≤ k → InStretch history first last k → ¬ RestlessAt k

  -- what holds of rest in one history
  pub record ComesToRest : Type 0 where
    pub restless_rounds_steal : RestlessRoundsSteal
    pub restless_rounds_paid : RestlessRoundsPaid
    pub rest_stays : RestStays
    pub nothing_moves : NothingMovesAtRest
    pub rests_after : RestsAfter

-- the law
abbrev pub RestLaw : Type 0
RestLaw = (p : Meaning) (plan : Plan) (history : List Entry) → Fits p plan → MeetsMoveObligations p
    → Legal p plan history → ComesToRest p plan history
