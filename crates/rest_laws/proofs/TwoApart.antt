-- Where the filter asks for two threads more, its answer depends on no more than how far the victim is ahead.
use Rattle.std.proofs.Common.{◌≡◌, ℕ, ◌+◌, ◌≤◌, ◌⊎◌, inl, inr, ℤ, List, pos, ◌-ℤ◌, ◌≤ℤ◌, int_le, true, Option, None, Some, IsTrue, ◌*◌, ◌<◌, sym, ap, ◌∙◌, subst, arith}
use Rattle.std.proofs.lemmas.Bool.{cases_lt}
use Rattle.std.proofs.lemmas.Int.{ints}
use Rattle.policy_tree.specs.Meaning.{BatchTree, Meaning}
use Rattle.policy_eval.specs.declared.env.CoreValues.{CoreValues}
use Rattle.policy_eval.specs.Fitting.{CoreFits, IsWeight}
use Rattle.policy_eval.specs.Obligations.{MeetsHandlerObligations, NarrowsGapBy, RestGap}
use Rattle.policy_eval.specs.Ranges.{greatest_weight, least_weight}
use Rattle.policy_eval.specs.Sights.{move_values, pair_values}
use Rattle.policy_eval.specs.Values.{Holds}
use Rattle.rest_laws.specs.LowestFirst.{BatchLeavesSeen, LowerSeesAsMuch}
use Rattle.round_laws.specs.Rest.{MeetsMoveObligations}
use Rattle.rest_laws.specs.TwoApart.{IsBatchTwoApart, TwoApartLaw, is_two_apart}
use Rattle.rest_laws.proofs.Gap.{equal_load}

ordered_of : (a b : ℤ) → int_le a b ≡ true → a ≤ℤ b
ordered_of a b e = grind (arith, ints)

of_ordered : (a b : ℤ) → a ≤ℤ b → int_le a b ≡ true
of_ordered a b e = grind (arith, ints)

two_more : (n m : ℕ) → IsTrue (int_le (pos 2) (pos m -ℤ pos n)) → n + 2 ≤ m
two_more n m is = let ordered = ordered_of (pos 2) (pos m -ℤ pos n) is in omega (arith, ints)

is_two_more : (n m : ℕ) → n + 2 ≤ m → IsTrue (int_le (pos 2) (pos m -ℤ pos n))
is_two_more n m more = of_ordered (pos 2) (pos m -ℤ pos n) (omega (arith, ints))

holds_two : (own victim : CoreValues) → Holds (pair_values own victim) is_two_apart → own.nr + 2 ≤ victim.nr
unfolding pair_values
holds_two own victim is = two_more own.nr victim.nr is

two_holds : (own victim : CoreValues) → own.nr + 2 ≤ victim.nr → Holds (pair_values own victim) is_two_apart
unfolding pair_values
two_holds own victim more = is_two_more own.nr victim.nr more

batch_two : (own victim : CoreValues) (weight : ℕ) (attrs : List ℤ) → Holds (move_values own victim weight attrs) is_two_apart → own.nr + 2 ≤ victim.nr
unfolding move_values
batch_two own victim weight attrs is = two_more own.nr victim.nr is

module _ (p : Meaning) (filter : p.filter ≡ is_two_apart) where
  as_much : LowerSeesAsMuch p
  as_much own victim lower seen own_fits victim_fits lower_fits seen_fits alike sees fewer far =
      let two = holds_two own victim (subst (Holds (pair_values own victim)) filter sees) in
      subst (Holds (pair_values lower seen)) (sym filter) (two_holds lower seen (omega arith))

  batch_leaves : (batch : Option BatchTree) → IsBatchTwoApart batch → BatchLeavesSeen p batch
  batch_leaves None is = tt
  batch_leaves (Some batch) is = λ own victim lower seen weight attrs own_fits victim_fits lower_fits seen_fits weighs are alike goes there fewer far.
      let two = batch_two own victim weight attrs (subst (Holds (move_values own victim weight attrs)) is goes) in
      subst (Holds (pair_values lower seen)) (sym filter) (two_holds lower seen (omega arith))

  gap : least_weight p.load ≡ greatest_weight p.load → least_weight p.load ≡ 1 → RestGap p 1
  gap same one own victim own_fits victim_fits fails = by_order (cases_lt (own.nr + 1) victim.nr)
    where
      by_order : (own.nr + 1 < victim.nr) ⊎ (victim.nr ≤ own.nr + 1) → victim.load ≤ own.load + 1
      by_order (inl more) = absurd (fails (subst (Holds (pair_values own victim)) (sym filter) (two_holds own victim (omega arith))))
      by_order (inr few) =
          let first = equal_load p same own.nr own.load own_fits.loads in
          let second = equal_load p same victim.nr victim.load victim_fits.loads in
          let own_one = ap (λ w. own.nr * w) one in
          let victim_one = ap (λ w. victim.nr * w) one in
          omega arith

module _ (p : Meaning) (same : least_weight p.load ≡ greatest_weight p.load) (one : least_weight p.load ≡ 1) where
  -- two threads more are a load greater by more than a thread's weight
  narrows_by : (own victim : CoreValues) (weight : ℕ) → CoreFits p own → CoreFits p victim → IsWeight p weight → own.nr + 2 ≤ victim.nr → own.load + weight < victim.load
  narrows_by own victim weight own_fits victim_fits weighs two =
      let heavy = weighs.greatest in
      let first = equal_load p same own.nr own.load own_fits.loads in
      let second = equal_load p same victim.nr victim.load victim_fits.loads in
      let own_one = ap (λ w. own.nr * w) one in
      let victim_one = ap (λ w. victim.nr * w) one in
      omega arith

  narrows_further : (batch : Option BatchTree) → IsBatchTwoApart batch → NarrowsGapBy p batch
  narrows_further None is = tt
  narrows_further (Some batch) is = λ own victim weight attrs own_fits victim_fits weighs are goes there light.
      narrows_by own victim weight own_fits victim_fits weighs (batch_two own victim weight attrs (subst (Holds (move_values own victim weight attrs)) is goes))

  obligations : p.filter ≡ is_two_apart → IsBatchTwoApart p.batch → MeetsHandlerObligations p → MeetsMoveObligations p
  obligations filter batch handlers = record {
    victim_is_overloaded = λ own victim own_fits victim_fits passes. let two = holds_two own victim (subst (Holds (pair_values own victim)) filter passes) in omega arith;
    move_narrows_gap = λ own victim weight own_fits victim_fits weighs passes light.
        narrows_by own victim weight own_fits victim_fits weighs (holds_two own victim (subst (Holds (pair_values own victim)) filter passes));
    further_move_narrows_gap = narrows_further p.batch batch;
    handlers = handlers;
  }

pub two_apart : TwoApartLaw
two_apart p is =
    let same : least_weight p.load ≡ greatest_weight p.load = ap least_weight is.counts ∙ sym (ap greatest_weight is.counts) in
    let one : least_weight p.load ≡ 1 = ap least_weight is.counts in
    record {
      obligations = obligations p same one is.filter is.batch;
      lowest_first = record { equal_weights = same; filter = as_much p is.filter; batch = batch_leaves p is.filter p.batch is.batch };
      gap = gap p is.filter same one;
    }
