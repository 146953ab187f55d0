-- Rising rounds of a still stretch that have a steal each are paid for: the spread falls by twice their number.
use Rattle.std.proofs.Common.{◌≡◌, ℕ, suc, ◌+◌, ◌*◌, ◌<◌, ◌≤◌, List, [], ◌∷◌, length, get_or, ◌∙◌, subst, arith}
use Rattle.std.specs.List.Sorted.{IsStrictlyIncreasing}
use Rattle.policy_tree.specs.Meaning.{Meaning}
use Rattle.round_model.specs.declared.entry.Entry.{Entry}
use Rattle.round_model.specs.declared.plan.Plan.{Plan}
use Rattle.round_model.specs.Fits.{Fits}
use Rattle.round_model.specs.Legal.{Legal}
use Rattle.round_model.specs.Rounds.{BeginsAt, IsStill, round_at}
use Rattle.round_model.specs.StillRounds.{StealsIn, spread_at}
use Rattle.round_laws.specs.Rest.{MeetsMoveObligations}
use Rattle.round_laws.proofs.StealsNarrow.{steals_narrow_two}
use Rattle.round_laws.proofs.Stretches.{never_wider}
use Rattle.round_laws.proofs.RoundNumbers.{behind_round, round_behind}
use Rattle.round_laws.proofs.StealsKeepBalance.{steal_opens_none}

-- from a start some position is reached, in a round no later than the upper one, with so many steals paid
pub record PaidFrom (p : Meaning) (plan : Plan) (h : List Entry) (start upper steals : ℕ) : Type 0 where
  pub position : ℕ
  pub behind : start ≤ position
  pub within : round_at h position ≤ upper
  pub paid : 2 * steals + spread_at p plan h position ≤ spread_at p plan h start

pub increasing_rest : (n : ℕ) (rest : List ℕ) → IsStrictlyIncreasing (n ∷ rest) → IsStrictlyIncreasing rest
increasing_rest n rest increasing k inside =
    let less = increasing (suc k) (omega arith) in
    let next : suc k + 1 ≡ suc (k + 1) = omega arith in
    subst (λ i. get_or rest k 0 < get_or (n ∷ rest) i 0) next less

module _ (p : Meaning) (plan : Plan) (h : List Entry) (fits : Fits p plan) (meets : MeetsMoveObligations p) (legal : Legal p plan h) (first last opening : ℕ) (still : IsStill h first last) (begins : BeginsAt h first opening) (upper : ℕ) (inside : upper ≤ last) where
  -- of rounds behind the start
  pub paid_from : (rounds : List ℕ) (start : ℕ) → opening ≤ start → round_at h start ≤ upper → (0 < length rounds → round_at h start < get_or rounds 0 0) → IsStrictlyIncreasing rounds
      → ((k : ℕ) → k < length rounds → (get_or rounds k 0 ≤ upper) × StealsIn p plan h (get_or rounds k 0)) → PaidFrom p plan h start upper (length rounds)
  paid_from [] start behind within next increasing each = record { position = start; behind = omega arith; within = within; paid = omega arith }
  paid_from (n ∷ rounds) start behind within next increasing each =
      let low = next (omega arith) in
      let here = each 0 (omega arith) in
      let bound = here.0 in
      let found = here.1 in
      let s = found.position in
      let in_round = found.in_round in
      let later = behind_round p plan h legal start s (omega arith) in
      let same = round_behind h s found.steal found.stands ∙ steal_opens_none (round_at h s) found.steal found.is in
      let less = steals_narrow_two p plan h fits meets legal s found.steal found.stands found.is in
      let wide = never_wider p plan h fits meets legal first last opening still begins start s behind (omega arith) (omega arith) in
      let rest = paid_from rounds (suc s) (omega arith) (omega arith) (λ some_left. let rises = increasing 0 (omega arith) in omega arith) (increasing_rest n rounds increasing) (λ k there. each (suc k) (omega arith)) in
      let reached = rest.behind in
      let total = rest.paid in
      record { position = rest.position; behind = omega arith; within = rest.within; paid = omega arith }
