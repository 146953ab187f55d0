-- The law of still rounds: bad rounds are paid for by steals, and once balanced the cores stay so.
use Rattle.std.specs.Prelude.{◌≡◌, ℕ, suc, ◌+◌, ◌*◌, ◌<◌, ◌≤◌, List, length, take, All, IsTrue, IsFalse}
use Rattle.std.specs.List.Sorted.{IsStrictlyIncreasing}
use mathlib.Core.Option.{some}
use lib.ListN.{get_elem?}
use Rattle.policy_tree.specs.Meaning.{Meaning}
use Rattle.policy_eval.specs.Obligations.{MeetsObligations}
use Rattle.round_model.specs.declared.entry.Entry.{Entry}
use Rattle.round_model.specs.declared.plan.Plan.{Plan}
use Rattle.round_model.specs.After.{after}
use Rattle.round_model.specs.Entries.{threads_moved}
use Rattle.round_model.specs.Kinds.{is_steal}
use Rattle.round_model.specs.Fits.{Fits}
use Rattle.round_model.specs.Legal.{Legal}
use Rattle.round_model.specs.Reads.{value_read}
use Rattle.round_model.specs.Rounds.{BeginsAt, IsBad, IsStill, disturbs, round_at}
use Rattle.round_model.specs.Spread.{Beside, spread}
use Rattle.round_model.specs.Stretches.{InStretch, IsStillStretch}

module _ (p : Meaning) (plan : Plan) (history : List Entry) where
  -- the load spread after the first k entries
  abbrev pub spread_at : ℕ → ℕ
  spread_at k = spread plan (after p plan (take k history))

  -- a core is idle beside an overloaded one after the first k entries
  abbrev pub BesideAt : ℕ → Type 0
  BesideAt k = Beside plan (after p plan (take k history))

  -- a steal of that round
  pub record StealsIn (number : ℕ) : Type 0 where
    pub position : ℕ
    pub steal : Entry
    pub stands : get_elem? history position ≡ some steal
    pub in_round : round_at history position ≡ number
    pub is : IsTrue (is_steal steal)

  -- a bad and still round has a steal
  abbrev pub BadRoundsSteal : Type 0
  BadRoundsSteal = (number : ℕ) → IsBad p plan history number → IsStill history number number →
      StealsIn number

  -- each steal lowers the spread by at least 2 for each thread that it moves
  abbrev pub StealsNarrow : Type 0
  StealsNarrow = (k : ℕ) (e : Entry) → get_elem? history k ≡ some e → IsTrue (is_steal e) →
      spread_at (suc k) + 2 * length (threads_moved e) ≤ spread_at k

  -- apart from steals and the entries that disturb a round, none changes a core's thread count or load
  abbrev pub StillKeepsLoads : Type 0
  StillKeepsLoads = (k c : ℕ) (e : Entry) → get_elem? history k ≡ some e → IsFalse (is_steal e) →
      IsFalse (disturbs e) → c < plan.cores
      → value_read p plan history c (suc k) ≡ value_read p plan history c k

  -- however many bad rounds a still stretch has, twice as many are at most its first spread
  abbrev pub BadRoundsPaid : Type 0
  BadRoundsPaid = (first last opening : ℕ) (bad : List ℕ) → IsStillStretch history first last →
      BeginsAt history first opening → IsStrictlyIncreasing bad
      → All (λ number. (first ≤ number) × (number ≤ last) × IsBad p plan history number) bad →
      2 * length bad ≤ spread_at opening

  -- in a still stretch, where no core is idle beside an overloaded one, none is so later
  abbrev pub StaysBalanced : Type 0
  StaysBalanced = (first last k later : ℕ) → IsStillStretch history first last →
      InStretch history first last k → InStretch history first last later
      → k ≤ later → ¬ BesideAt k → ¬ BesideAt later

  -- from the Round on that many rounds after the first, as half the first spread, no core is idle beside an
  -- overloaded one
  abbrev pub ConservesWorkAfter : Type 0
  ConservesWorkAfter = (first last opening rounds from k : ℕ) → IsStillStretch history first last →
      BeginsAt history first opening → spread_at opening ≤ 2 * rounds
      → BeginsAt history (first + rounds) from → from ≤ k → InStretch history first last k → ¬ BesideAt k

  -- what holds of the still rounds of one history
  pub record StillRounds : Type 0 where
    pub bad_rounds_steal : BadRoundsSteal
    pub steals_narrow : StealsNarrow
    pub others_keep : StillKeepsLoads
    pub bad_rounds_paid : BadRoundsPaid
    pub stays_balanced : StaysBalanced
    pub conserves_work : ConservesWorkAfter

-- the law
abbrev pub StillRoundsLaw : Type 0
StillRoundsLaw = (p : Meaning) (plan : Plan) (history : List Entry) → Fits p plan → MeetsObligations p →
    Legal p plan history → StillRounds p plan history
