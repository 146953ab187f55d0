-- The statements on the last waiting thread of a core, and the conditions that refute them.
use Rattle.std.proofs.Common.{◌≡◌, ℕ, zero, suc, ◌≤◌, pos, int_le, true, true≢false, ◌&&◌, Option, None, Some, refl, sym, ◌∙◌, arith}
use Rattle.std.proofs.lemmas.Int.{ints}
use Rattle.policy_tree.specs.Meaning.{BatchTree, Meaning}
use Rattle.policy_eval.specs.Forms.{RefersTo}
use Rattle.policy_eval.specs.Obligations.{BatchLeavesLast, FilterLeavesLast, filter_leaves_last}
use Rattle.policy_eval.specs.Ranges.{AreIn, greatest_weight, least_weight}
use Rattle.policy_eval.specs.Resolved.{HasResolvedBatch, IsResolved, IsResolvedExpr}
use Rattle.policy_eval.specs.Sights.{assigned, move_values}
use Rattle.policy_eval.specs.Sites.{allows, going_on}
use Rattle.policy_eval.specs.Values.{Assignment, Holds, holds}
use Rattle.obligations.specs.Laws.{NoneRefutes}
use Rattle.obligations.specs.Refutations.{busier_beside_two, busy_beside_two, cores_fit, goes_on_to_last, refutation}
use Rattle.obligations.specs.Systems.{variable_ranges}
use Rattle.obligations.proofs.Agreeing.{move_agrees, same_holds}
use Rattle.obligations.proofs.Balance.{core_fits, core_of, cores_fit_told, filter_sees, least_is_weight, loads_test, lows, numbers, sight, sight_in}
use Rattle.obligations.proofs.Expressions.{EachSide-mono}
use Rattle.obligations.proofs.Given.{assigned_in, for_all_values}
use Rattle.obligations.proofs.Tests.{and_true, le_told, le_tells, true_and}

-- a number that isn't one at least is none
no_one : (n : ℕ) → ((int_le (pos 1) (pos n) ≡ true) → ⊥) → n ≡ 0
no_one zero refuted = refl
no_one (suc n) refuted = absurd (refuted (le_told (pos 1) (pos (suc n)) (omega (arith, ints))))

-- a number that isn't two at least is one at most
no_two : (n : ℕ) → ((int_le (pos 2) (pos n) ≡ true) → ⊥) → n ≤ 1
no_two zero refuted = omega arith
no_two (suc zero) refuted = omega arith
no_two (suc (suc n)) refuted = absurd (refuted (le_told (pos 2) (pos (suc (suc n))) (omega (arith, ints))))

module _ (p : Meaning) (is : IsResolved p) where
  -- where nothing refutes, only an idle core takes from a victim with at most two threads
  pub filter_from_none : NoneRefutes p filter_leaves_last → FilterLeavesLast p
  unfolding sight
  filter_from_none none own victim fits_own fits_victim seen few =
      let w : ℕ = least_weight p.load in
      let values : Assignment = sight p is own victim w in
      let two = int_le (pos victim.nr) (pos 2) in let one = int_le (pos 1) (pos own.nr) in
      no_one own.nr (λ busy.
      none values (sight_in p is own victim w fits_own fits_victim (least_is_weight p is))
      (true_and (holds values (cores_fit p.load) && (two && one)) (holds values p.filter)
      (true_and (holds values (cores_fit p.load)) (two && one) (cores_fit_told p is own victim w fits_own fits_victim)
      (true_and two one (le_told (pos victim.nr) (pos 2) (omega (arith, ints))) busy))
      (sym (filter_sees p is own victim w 0 (lows p is) fits_own.consts fits_victim.consts) ∙ seen)))

  -- where nothing refutes, a batch goes on to such a victim only where the thief has one thread at most
  pub batch_from_none : (batch : Option BatchTree)
      → ((values : Assignment) → AreIn (variable_ranges p) values → Holds values (goes_on_to_last p.load batch) → ⊥) → BatchLeavesLast p batch
  unfolding sight move_values
  batch_from_none None none = tt
  batch_from_none (Some batch) none = λ own victim weight attrs fits_own fits_victim fits_weight attrs_in seen some few.
      let values : Assignment = assigned own.nr own.load victim.nr victim.load weight 0 own.consts victim.consts attrs in
      let first = int_le (pos 1) (pos victim.nr) in let two = int_le (pos victim.nr) (pos 2) in let busier = int_le (pos 2) (pos own.nr) in
      no_two own.nr (λ busy.
      none values (assigned_in p own.nr own.load victim.nr victim.load weight 0 own.consts victim.consts attrs (numbers p is own victim weight attrs fits_own fits_victim fits_weight attrs_in))
      (true_and (holds values (cores_fit p.load) && (first && (two && busier))) (holds values batch.condition)
      (true_and (holds values (cores_fit p.load)) (first && (two && busier)) (cores_fit_told p is own victim weight fits_own fits_victim)
      (true_and first (two && busier) (le_told (pos 1) (pos victim.nr) (omega (arith, ints)))
      (true_and two busier (le_told (pos victim.nr) (pos 2) (omega (arith, ints))) busy)))
      seen))

  pub none_from_filter : FilterLeavesLast p → NoneRefutes p filter_leaves_last
  unfolding core_of
  none_from_filter leaves = for_all_values p (λ values. holds values (refutation p filter_leaves_last) ≡ true → ⊥) (λ nr load victim_nr victim_load weight fresh own victims attrs n refutes.
      let values : Assignment = assigned nr load victim_nr victim_load weight fresh own victims attrs in
      let parts = and_true (holds values (cores_fit p.load) && holds values busy_beside_two) (holds values p.filter) refutes in
      let cores = and_true (holds values (cores_fit p.load)) (holds values busy_beside_two) parts.0 in
      let loads = and_true (loads_test (least_weight p.load) (greatest_weight p.load) nr load) (loads_test (least_weight p.load) (greatest_weight p.load) victim_nr victim_load) cores.0 in
      let counts = and_true (int_le (pos victim_nr) (pos 2)) (int_le (pos 1) (pos nr)) cores.1 in
      let two = le_tells (pos victim_nr) (pos 2) counts.0 in let one = le_tells (pos 1) (pos nr) counts.1 in
      let same = filter_sees p is (core_of p is nr load own) (core_of p is victim_nr victim_load victims) weight fresh attrs n.own_in n.victims_in in
      let none = leaves (core_of p is nr load own) (core_of p is victim_nr victim_load victims) (core_fits p is nr load own n.nr_small loads.0 n.own_in)
      (core_fits p is victim_nr victim_load victims n.victim_nr_small loads.1 n.victims_in) (same ∙ parts.1) (omega (arith, ints)) in
      absurd (omega (arith, ints)))

  pub none_from_batch : (batch : Option BatchTree) → HasResolvedBatch p batch → BatchLeavesLast p batch
      → (values : Assignment) → AreIn (variable_ranges p) values → Holds values (goes_on_to_last p.load batch) → ⊥
  unfolding core_of move_values
  none_from_batch None resolved leaves = λ values are refutes. true≢false (sym refutes)
  none_from_batch (Some batch) resolved leaves = for_all_values p (λ values. holds values (goes_on_to_last p.load (Some batch)) ≡ true → ⊥) (λ nr load victim_nr victim_load weight fresh own victims attrs n refutes.
      let values : Assignment = assigned nr load victim_nr victim_load weight fresh own victims attrs in
      let parts = and_true (holds values (cores_fit p.load) && holds values busier_beside_two) (holds values batch.condition) refutes in
      let cores = and_true (holds values (cores_fit p.load)) (holds values busier_beside_two) parts.0 in
      let loads = and_true (loads_test (least_weight p.load) (greatest_weight p.load) nr load) (loads_test (least_weight p.load) (greatest_weight p.load) victim_nr victim_load) cores.0 in
      let counts = and_true (int_le (pos 1) (pos victim_nr)) (int_le (pos victim_nr) (pos 2) && int_le (pos 2) (pos nr)) cores.1 in
      let upper = and_true (int_le (pos victim_nr) (pos 2)) (int_le (pos 2) (pos nr)) counts.1 in
      let some = le_tells (pos 1) (pos victim_nr) counts.0 in let two = le_tells (pos victim_nr) (pos 2) upper.0 in let busier = le_tells (pos 2) (pos nr) upper.1 in
      let refers = EachSide-mono (IsResolvedExpr p going_on) (RefersTo (allows p going_on)) (λ x resolved. resolved.allowed) batch.condition resolved.condition.sides in
      let same = same_holds (allows p going_on) (assigned nr load victim_nr victim_load weight 0 own victims attrs) values
      (move_agrees p is.core_attrs.few is.thread_attrs.few own victims attrs nr load victim_nr victim_load weight 0 fresh) batch.condition refers in
      let one = leaves (core_of p is nr load own) (core_of p is victim_nr victim_load victims) weight attrs
      (core_fits p is nr load own n.nr_small loads.0 n.own_in) (core_fits p is victim_nr victim_load victims n.victim_nr_small loads.1 n.victims_in)
      (record { least = n.weight_least; greatest = n.weight_greatest }) n.attrs_in (same ∙ parts.1) (omega (arith, ints)) (omega (arith, ints)) in
      absurd (omega (arith, ints)))
