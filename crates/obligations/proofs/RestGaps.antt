-- The statement on the gap that the filter leaves, and the condition that refutes it.
use Rattle.std.proofs.Common.{◌≡◌, ℕ, suc, ◌+◌, ◌*◌, ◌<◌, ◌≤◌, min, pos, ◌+ℤ◌, int_le, Bool, true, false, true≢false, not, ◌&&◌, leb, refl, sym, ap, ◌∙◌, arith}
use Rattle.std.proofs.lemmas.Bool.Decides.{nat_tests}
use Rattle.std.proofs.lemmas.Int.{ints}
use Rattle.sched_base.specs.declared.limits.TheConstants.{MAX_LOAD, MAX_THREADS}
use Rattle.policy_tree.specs.Meaning.{Meaning}
use Rattle.policy_eval.specs.Fitting.{LoadsFit}
use Rattle.policy_eval.specs.Obligations.{RestGap, rest_gap}
use Rattle.policy_eval.specs.Ranges.{greatest_weight, least_weight}
use Rattle.policy_eval.specs.Resolved.{IsResolved}
use Rattle.policy_eval.specs.Sights.{assigned}
use Rattle.policy_eval.specs.Values.{Assignment, holds}
use Rattle.obligations.specs.Laws.{NoneRefutes}
use Rattle.obligations.specs.Refutations.{cores_fit, gap_is_wide, refutation}
use Rattle.obligations.proofs.Balance.{core_fits, core_of, cores_fit_told, filter_sees, least_is_weight, load_small, loads_test, lows, sight, sight_in}
use Rattle.obligations.proofs.Given.{for_all_values}
use Rattle.obligations.proofs.Tests.{and_true, le_told, le_tells, not_false, not_refuted, true_and}

-- a load that isn't greater by more than the gap, or than the greatest, is greater by no more
narrow_unless : (gap own victim : ℕ) → victim ≤ MAX_LOAD → (int_le (pos own +ℤ pos (suc (min gap MAX_LOAD))) (pos victim) ≡ true → ⊥) → victim ≤ own + gap
narrow_unless gap own victim small refuted = by (leb victim (own + min gap MAX_LOAD)) refl
  where
    by : (b : Bool) → leb victim (own + min gap MAX_LOAD) ≡ b → victim ≤ own + gap
    by true e = let le : victim ≤ own + min gap MAX_LOAD = grind (arith, nat_tests) in omega arith
    by false e =
        let wide : own + min gap MAX_LOAD < victim = grind (arith, nat_tests) in
        absurd (refuted (le_told (pos own +ℤ pos (suc (min gap MAX_LOAD))) (pos victim) (omega (arith, ints))))

module _ (p : Meaning) (is : IsResolved p) where
  load_greatest : (nr load : ℕ) → LoadsFit p nr load → load ≤ MAX_LOAD
  load_greatest nr load fits = let most = load_small p is nr load fits in let greatest = is.load.small in omega arith

  -- where nothing refutes, the filter leaves no wider gap
  pub gap_left_from_none : (gap : ℕ) → NoneRefutes p (rest_gap gap) → RestGap p gap
  unfolding sight
  gap_left_from_none gap none own victim fits_own fits_victim unseen =
      let w : ℕ = least_weight p.load in
      let values : Assignment = sight p is own victim w in
      let wide = int_le (pos own.load +ℤ pos (suc (min gap MAX_LOAD))) (pos victim.load) in
      let fails : holds values p.filter ≡ false = not_refuted (holds values p.filter) (λ held. unseen (filter_sees p is own victim w 0 (lows p is) fits_own.consts fits_victim.consts ∙ held)) in
      narrow_unless gap own.load victim.load (load_greatest victim.nr victim.load fits_victim.loads) (λ wider.
      none values (sight_in p is own victim w fits_own fits_victim (least_is_weight p is))
      (true_and (holds values (cores_fit p.load) && wide) (not (holds values p.filter))
      (true_and (holds values (cores_fit p.load)) wide (cores_fit_told p is own victim w fits_own fits_victim) wider)
      (ap not fails)))

  pub none_from_gap_left : (gap : ℕ) → RestGap p gap → NoneRefutes p (rest_gap gap)
  unfolding core_of
  none_from_gap_left gap leaves = for_all_values p (λ values. holds values (refutation p (rest_gap gap)) ≡ true → ⊥) (λ nr load victim_nr victim_load weight fresh own victims attrs n refutes.
      let values : Assignment = assigned nr load victim_nr victim_load weight fresh own victims attrs in
      let parts = and_true (holds values (cores_fit p.load) && holds values (gap_is_wide gap)) (not (holds values p.filter)) refutes in
      let cores = and_true (holds values (cores_fit p.load)) (holds values (gap_is_wide gap)) parts.0 in
      let loads = and_true (loads_test (least_weight p.load) (greatest_weight p.load) nr load) (loads_test (least_weight p.load) (greatest_weight p.load) victim_nr victim_load) cores.0 in
      let wide = le_tells (pos load +ℤ pos (suc (min gap MAX_LOAD))) (pos victim_load) cores.1 in
      let same = filter_sees p is (core_of p is nr load own) (core_of p is victim_nr victim_load victims) weight fresh attrs n.own_in n.victims_in in
      let fails = not_false (holds values p.filter) parts.1 in
      let near = leaves (core_of p is nr load own) (core_of p is victim_nr victim_load victims) (core_fits p is nr load own n.nr_small loads.0 n.own_in)
      (core_fits p is victim_nr victim_load victims n.victim_nr_small loads.1 n.victims_in) (λ held. true≢false (sym held ∙ (same ∙ fails))) in
      absurd (omega (arith, ints)))

  -- no gap is wider than the load of as many threads as there may be
  pub widest_left : RestGap p (MAX_THREADS * greatest_weight p.load)
  widest_left own victim fits_own fits_victim unseen = let most = load_small p is victim.nr victim.load fits_victim.loads in omega arith
