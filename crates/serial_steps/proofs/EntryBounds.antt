-- Legal histories have no more entries than their rounds may have: a round's beginning makes at most so many due, and
-- each further entry is one of those.
use Rattle.std.proofs.Common.{◌≡◌, ◌∙◌, ℕ, ◌+◌, ◌*◌, ◌<◌, ◌≤◌, false, ◌&&◌, not, nat_lt, Bool, true, zero, suc, map, List, [], ◌∷◌, ◌++◌, Some, length, ap, refl, arith}
use Rattle.std.specs.Prelude.{sum}
use Rattle.std.proofs.Math.Nat.{mul-le-mul_right}
use Rattle.std.proofs.lemmas.Bool.Decides.{nat_tests}
use Rattle.std.proofs.lemmas.List.{length-append}
use Rattle.std.specs.List.{list_any, range_with_len}
use Rattle.policy_tree.specs.Meaning.{Meaning}
use Rattle.policy_eval.specs.Obligations.{MeetsHandlerObligations}
use Rattle.round_model.specs.declared.entry.Entry.{Entry}
use Rattle.round_model.specs.declared.entry.Entry.TheVariants as entry
use Rattle.round_model.specs.declared.plan.Plan.{Plan}
use Rattle.round_model.specs.Entries.{acting_core}
use Rattle.round_model.specs.Fits.{Fits}
use Rattle.round_model.specs.Legal.{IsDue, Legal, LegalNext, has_ended, is_due, rounds_begun}
use Rattle.round_model.specs.Owed.{owed, owed_total}
use Rattle.round_model.specs.Rows.{Row}
use Rattle.round_model.proofs.Grows.{legal_grows}
use Rattle.round_model.proofs.Histories.{legal_induction}
use Rattle.round_model.proofs.Longer.{begun_more}
use Rattle.round_model.proofs.OwedBounds.{owed_bound}
use Rattle.round_model.proofs.OwedTotals.{reserve_kept}
use Rattle.serial_steps.specs.Room.{EntryBoundLaw, RoomSufficesLaw}
use Rattle.serial_steps.specs.SerialEnds.{most_entries}
use Rattle.serial_steps.proofs.SerialWholes.{times_more}

module _ (p : Meaning) (plan : Plan) (fits : Fits p plan) (handlers : MeetsHandlerObligations p) where
  abbrev IsBounded : List Entry → Type 0
  IsBounded h = length h + owed_total p plan h ≤ rounds_begun h * most_entries plan

  by_round : (h : List Entry) (number : ℕ) → Legal p plan h → LegalNext p plan h (entry.Round number) → IsBounded h → IsBounded (h ++ entry.Round number ∷ [])
  by_round h number so_far next bound =
      let e = entry.Round number in
      let few = owed_bound p plan (h ++ e ∷ []) fits handlers (legal_grows.grows p plan h e so_far next) in
      let most = most_entries plan in
      let rounds : rounds_begun (h ++ e ∷ []) * most ≡ rounds_begun h * most + most = ap (λ (n : ℕ). n * most) (begun_more h e) ∙ times_more (rounds_begun h) most in
      omega (arith, length-append h (e ∷ []))

  by_core : (h : List Entry) (e : Entry) (a : ℕ) → Legal p plan h → LegalNext p plan h e → acting_core e ≡ Some a → a < plan.cores → rounds_begun (h ++ e ∷ []) ≡ rounds_begun h + 0
      → IsBounded h → IsBounded (h ++ e ∷ [])
  by_core h e a so_far next acting there begun bound =
      let kept = reserve_kept p plan h e a fits handlers so_far next acting there in
      let most = most_entries plan in
      let same : rounds_begun h + 0 ≡ rounds_begun h = omega arith in
      let rounds : rounds_begun (h ++ e ∷ []) * most ≡ rounds_begun h * most = ap (λ (n : ℕ). n * most) (begun ∙ same) in
      omega (arith, length-append h (e ∷ []))

  one_more : (h : List Entry) (e : Entry) → Legal p plan h → LegalNext p plan h e → IsBounded h → IsBounded (h ++ e ∷ [])
  unfolding LegalNext Row
  one_more h (entry.Round number) so_far next bound = by_round h number so_far next bound
  one_more h (entry.Enter thread by at reads) so_far next bound = let e = entry.Enter thread by at reads in by_core h e by so_far next refl next.row.core (begun_more h e) bound
  one_more h (entry.Wake thread by at reads) so_far next bound = let e = entry.Wake thread by at reads in by_core h e by so_far next refl next.row.core (begun_more h e) bound
  one_more h (entry.Work by did) so_far next bound = let e = entry.Work by did in by_core h e by so_far next refl next.row.core (begun_more h e) bound
  one_more h (entry.Steal by from threads reads) so_far next bound = let e = entry.Steal by from threads reads in by_core h e by so_far next refl next.row.core (begun_more h e) bound
  one_more h (entry.Fail by from reads) so_far next bound = let e = entry.Fail by from reads in by_core h e by so_far next refl next.row.core (begun_more h e) bound
  one_more h (entry.Pass by reads) so_far next bound = let e = entry.Pass by reads in by_core h e by so_far next refl next.row.core (begun_more h e) bound

  -- before the first round nothing is owed
  at_first : IsBounded []
  unfolding owed
  at_first = omega (arith, none_owed plan.cores 0)
    where
      none_owed : (n from : ℕ) → sum (map (owed p plan []) (range_with_len from n)) ≡ 0
      none_owed zero from = refl
      none_owed (suc n) from = none_owed n (from + 1)

pub entry_bound : EntryBoundLaw
entry_bound p plan history fits handlers legal =
    legal_induction p plan (IsBounded p plan fits handlers) (at_first p plan fits handlers) (one_more p plan fits handlers) history legal

-- where a round is due, fewer have begun than the plan has
due_begun : (plan : Plan) (h : List Entry) → IsDue plan h → rounds_begun h < plan.rounds
unfolding is_due
due_begun plan h due = by (nat_lt (rounds_begun h) plan.rounds) refl due
  where
    by : (b : Bool) → nat_lt (rounds_begun h) plan.rounds ≡ b → (b && list_any (λ t. not (has_ended h t)) plan.threads) ≡ true → rounds_begun h < plan.rounds
    by true less due = grind (arith, nat_tests)
    by false less due = absurd (cc)

pub room_suffices : RoomSufficesLaw
room_suffices p plan h fits handlers room legal full =
    let most = most_entries plan in
    let bound = entry_bound p plan h fits handlers legal in
    let fewer = due_begun plan h full.due in
    let begun : rounds_begun h + 1 ≤ plan.rounds = omega arith in
    let all : (rounds_begun h + 1) * most ≤ plan.rounds * most = mul-le-mul_right most begun in
    let over = full.full in
    absurd (omega (arith, times_more (rounds_begun h) most))
