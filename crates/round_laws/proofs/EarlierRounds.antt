-- Rounds of a still stretch before a later Round: each was complete, and bad where a core is idle beside an overloaded one then.
use Rattle.std.proofs.Common.{ℕ, suc, ◌+◌, ◌<◌, ◌≤◌, List, arith}
use Rattle.std.specs.List.{range_with_len}
use Rattle.std.specs.List.Sorted.{IsStrictlyIncreasing}
use Rattle.std.proofs.lemmas.List.FromFn.{get_or-range_with_len, length-range_with_len}
use Rattle.policy_tree.specs.Meaning.{Meaning}
use Rattle.policy_eval.specs.Obligations.{MeetsObligations}
use Rattle.round_model.specs.declared.entry.Entry.{Entry}
use Rattle.round_model.specs.declared.plan.Plan.{Plan}
use Rattle.round_model.specs.Fits.{Fits}
use Rattle.round_model.specs.Legal.{Legal}
use Rattle.round_model.specs.Rounds.{Attempts, BeginsAt, IsBad, IsStill, round_at}
use Rattle.round_model.specs.StillRounds.{BesideAt}
use Rattle.round_laws.proofs.MoveObligations.{move_obligations}
use Rattle.round_laws.proofs.Stretches.{beside_earlier}
use Rattle.round_laws.proofs.CompleteRounds.{complete_before}
use Rattle.round_laws.proofs.RoundNumbers.{begins_in_order, begun_before, opened, opens_next}

pub rising_numbers : (first n : ℕ) → IsStrictlyIncreasing (range_with_len first n)
rising_numbers first n k inside =
    let size = length-range_with_len first n in
    omega (arith, get_or-range_with_len first n k 0 (omega arith), get_or-range_with_len first n (k + 1) 0 (omega arith))

-- rounds of a still stretch are still
pub still_within : (h : List Entry) (first last low high : ℕ) → IsStill h first last → first ≤ low → high ≤ last → IsStill h low high
still_within h first last low high still from to k e is above below = still k e is (omega arith) (omega arith)

-- a complete round from a position on, up to another
pub record CompleteRound (plan : Plan) (h : List Entry) (opening from n : ℕ) : Type 0 where
  pub position : ℕ
  pub begins : BeginsAt h n position
  pub behind : opening ≤ position
  pub before : position ≤ from
  pub complete : (c : ℕ) → c < plan.cores → Attempts h n c

module _ (p : Meaning) (plan : Plan) (h : List Entry) (legal : Legal p plan h) (first opening : ℕ) (positive : 1 ≤ first) (begins : BeginsAt h first opening) where
  -- as a later round begins, each from the first on has begun and is complete
  pub complete_earlier : (n m from : ℕ) → first ≤ n → n < m → BeginsAt h m from → CompleteRound plan h opening from n
  complete_earlier n m from low less ends =
      let closes = opens_next p plan h legal m from ends in
      let opens = opened h m from ends in
      with_round (begun_before p plan h legal n from (omega arith) (omega arith)) (begun_before p plan h legal (suc n) (suc from) (omega arith) (omega arith))
    where
      with_round : (k : ℕ) × (k < from) × BeginsAt h n k → (j : ℕ) × (j < suc from) × BeginsAt h (suc n) j → CompleteRound plan h opening from n
      with_round (k, before, here) (j, next_before, next) = record {
        position = k;
        begins = here;
        behind = begins_in_order p plan h legal first n opening k begins here low;
        before = omega arith;
        complete = complete_before p plan h legal n k j here next;
      }

-- such a round is bad where a core is idle beside an overloaded one as the later round begins
pub bad_before : (p : Meaning) (plan : Plan) (h : List Entry) → Fits p plan → MeetsObligations p → Legal p plan h → (first last opening : ℕ) → 1 ≤ first → IsStill h first last → BeginsAt h first opening
    → (n m from : ℕ) → first ≤ n → n < m → BeginsAt h m from → round_at h from ≤ last → BesideAt p plan h from → IsBad p plan h n
bad_before p plan h fits meets legal first last opening positive still begins n m from low less ends within beside =
    let round = complete_earlier p plan h legal first opening positive begins n m from low less ends in
    record {
      position = round.position;
      begins = round.begins;
      complete = round.complete;
      beside = beside_earlier p plan h fits (move_obligations p meets) legal first last opening still begins round.position from round.behind round.before within beside;
    }
