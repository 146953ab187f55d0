-- The statements on pairs of cores, and the conditions that refute them.
use Rattle.std.proofs.Common.{◌≡◌, ℕ, ◌+◌, ◌*◌, ◌<◌, ◌≤◌, ℤ, pos, ◌*ℤ◌, ◌+ℤ◌, int_le, Bool, true, false, true≢false, not, ◌&&◌, leb, List, length, map, Option, None, Some, refl, sym, ap, ◌∙◌, arith}
use Rattle.std.proofs.Math.Nat.{mul_comm}
use Rattle.std.proofs.lemmas.Bool.Decides.{nat_tests}
use Rattle.std.proofs.lemmas.Int.{ints}
use Rattle.std.proofs.lemmas.Nat.{mul-le}
use Rattle.sched_base.specs.declared.limits.TheConstants.{MAX_THREADS}
use Rattle.policy_tree.specs.Meaning.{BatchTree, Meaning}
use Rattle.policy_eval.specs.declared.env.CoreValues.{CoreValues}
use Rattle.policy_eval.specs.Fitting.{CoreFits, IsWeight, LoadsFit}
use Rattle.policy_eval.specs.Forms.{EachSide, RefersTo}
use Rattle.policy_eval.specs.Obligations.{IdleSeesOverloaded, MoveNarrowsGap, NarrowsGapBy, VictimIsOverloaded, idle_sees_overloaded, move_narrows_gap, victim_is_overloaded}
use Rattle.policy_eval.specs.Ranges.{AreIn, Range, attribute_ranges, greatest_weight, least_weight}
use Rattle.policy_eval.specs.Resolved.{HasResolvedBatch, IsResolved, IsResolvedExpr}
use Rattle.policy_eval.specs.Sights.{assigned, move_values, no_attributes, pair_values}
use Rattle.policy_eval.specs.Sites.{allows, filtering, going_on}
use Rattle.policy_eval.specs.Values.{Assignment, Holds, holds}
use Rattle.obligations.proofs.Expressions.{EachSide-mono}
use Rattle.obligations.specs.Laws.{NoneRefutes}
use Rattle.obligations.specs.Refutations.{cores_fit, idle_and_overloaded, moves_over_small_gap, refutation, victim_has_one}
use Rattle.obligations.specs.Systems.{variable_ranges}
use Rattle.obligations.proofs.Agreeing.{move_agrees, pair_agrees, same_holds}
use Rattle.obligations.proofs.Given.{Numbers, assigned_in, for_all_values, lows_in}
use Rattle.obligations.proofs.Ranges.{AreIn-long, attribute_ranges-not_empty, length-attribute_ranges}
use Rattle.obligations.proofs.Tests.{and_true, le_told, le_tells, not_false, true_and}

-- the load fits the number of threads, as a refutation tests it
abbrev pub loads_test : ℕ → ℕ → ℕ → ℕ → Bool
loads_test least greatest nr load = int_le (pos least *ℤ pos nr) (pos load) && int_le (pos load) (pos greatest *ℤ pos nr)

loads_told : (least greatest nr load : ℕ) → nr * least ≤ load → load ≤ nr * greatest → loads_test least greatest nr load ≡ true
loads_told least greatest nr load light heavy =
    let first = mul_comm least nr in let second = mul_comm greatest nr in
    true_and (int_le (pos least *ℤ pos nr) (pos load)) (int_le (pos load) (pos greatest *ℤ pos nr))
    (le_told (pos least *ℤ pos nr) (pos load) (omega (arith, ints))) (le_told (pos load) (pos greatest *ℤ pos nr) (omega (arith, ints)))

loads_tell : (least greatest nr load : ℕ) → loads_test least greatest nr load ≡ true → (nr * least ≤ load) × (load ≤ nr * greatest)
loads_tell least greatest nr load e =
    let parts = and_true (int_le (pos least *ℤ pos nr) (pos load)) (int_le (pos load) (pos greatest *ℤ pos nr)) e in
    let light = le_tells (pos least *ℤ pos nr) (pos load) parts.0 in let heavy = le_tells (pos load) (pos greatest *ℤ pos nr) parts.1 in
    let first = mul_comm least nr in let second = mul_comm greatest nr in
    (omega (arith, ints), omega (arith, ints))

-- a thread of that weight is moved over a gap that is no greater, as a refutation tests it
abbrev moves_test : ℕ → ℕ → ℕ → ℕ → ℕ → Bool
moves_test least own_load weight victim_nr victim_load =
    int_le ((pos least *ℤ pos victim_nr) +ℤ pos weight) (pos victim_load +ℤ pos least) && int_le (pos victim_load) (pos own_load +ℤ pos weight)

-- where it isn't so of a thread that can be queued, the gap is greater
wide_unless : (least own_load weight victim_nr victim_load : ℕ) → weight + least * victim_nr ≤ victim_load + least
    → (moves_test least own_load weight victim_nr victim_load ≡ true → ⊥) → own_load + weight < victim_load
wide_unless least own_load weight victim_nr victim_load queued refuted = by (leb victim_load (own_load + weight)) refl
  where
    by : (b : Bool) → leb victim_load (own_load + weight) ≡ b → own_load + weight < victim_load
    by true e = absurd (refuted
        (true_and (int_le ((pos least *ℤ pos victim_nr) +ℤ pos weight) (pos victim_load +ℤ pos least)) (int_le (pos victim_load) (pos own_load +ℤ pos weight))
        (le_told ((pos least *ℤ pos victim_nr) +ℤ pos weight) (pos victim_load +ℤ pos least) (omega (arith, ints)))
        (le_told (pos victim_load) (pos own_load +ℤ pos weight) (let le : victim_load ≤ own_load + weight = grind (arith, nat_tests) in omega (arith, ints)))))
    by false e = grind (arith, nat_tests)

-- where it is so, the thread can be queued, and the gap isn't greater
small_where : (least own_load weight victim_nr victim_load : ℕ) → moves_test least own_load weight victim_nr victim_load ≡ true
    → (weight + least * victim_nr ≤ victim_load + least) × (victim_load ≤ own_load + weight)
small_where least own_load weight victim_nr victim_load e =
    let parts = and_true (int_le ((pos least *ℤ pos victim_nr) +ℤ pos weight) (pos victim_load +ℤ pos least)) (int_le (pos victim_load) (pos own_load +ℤ pos weight)) e in
    let queued = le_tells ((pos least *ℤ pos victim_nr) +ℤ pos weight) (pos victim_load +ℤ pos least) parts.0 in
    let small = le_tells (pos victim_load) (pos own_load +ℤ pos weight) parts.1 in
    (omega (arith, ints), omega (arith, ints))

or_refuted : (b : Bool) → (b ≡ false → ⊥) → b ≡ true
or_refuted true refuted = refl
or_refuted false refuted = absurd (refuted refl)

module _ (p : Meaning) (is : IsResolved p) where
  filter-refers : EachSide (RefersTo (allows p filtering)) p.filter
  filter-refers = EachSide-mono (IsResolvedExpr p filtering) (RefersTo (allows p filtering)) (λ x resolved. resolved.allowed) p.filter is.filter.sides

  core_long : (xs : List ℤ) → AreIn (attribute_ranges p.core_attrs) xs → length xs ≡ 8
  core_long xs are = AreIn-long (attribute_ranges p.core_attrs) xs are ∙ length-attribute_ranges p.core_attrs is.core_attrs.few

  -- the filter sees of a pair of cores what stands in the values
  pub filter_sees : (own victim : CoreValues) (weight fresh : ℕ) (attrs : List ℤ) → AreIn (attribute_ranges p.core_attrs) own.consts → AreIn (attribute_ranges p.core_attrs) victim.consts
      → holds (pair_values own victim) p.filter ≡ holds (assigned own.nr own.load victim.nr victim.load weight fresh own.consts victim.consts attrs) p.filter
  unfolding pair_values
  filter_sees own victim weight fresh attrs own_in victim_in =
      same_holds (allows p filtering) (pair_values own victim) (assigned own.nr own.load victim.nr victim.load weight fresh own.consts victim.consts attrs)
      (pair_agrees p is.core_attrs.few is.thread_attrs.few own.consts victim.consts (core_long own.consts own_in) (core_long victim.consts victim_in)
      own.nr own.load victim.nr victim.load 1 0 weight fresh no_attributes attrs)
      p.filter filter-refers

  pub load_small : (nr load : ℕ) → LoadsFit p nr load → load ≤ MAX_THREADS * greatest_weight p.load
  load_small nr load fits =
      let few = fits.few in let heavy = fits.heavy in
      let bound = mul-le nr (greatest_weight p.load) MAX_THREADS (greatest_weight p.load) fits.few (omega arith) in
      omega arith

  -- values that a pair of cores and a weight stand for
  unfoldable pub lows : List ℤ
  lows = map (λ (r : Range). r.low) (attribute_ranges p.thread_attrs)

  unfoldable pub sight : CoreValues → CoreValues → ℕ → Assignment
  sight own victim weight = assigned own.nr own.load victim.nr victim.load weight 0 own.consts victim.consts lows

  pub numbers : (own victim : CoreValues) (weight : ℕ) (attrs : List ℤ) → CoreFits p own → CoreFits p victim → IsWeight p weight → AreIn (attribute_ranges p.thread_attrs) attrs
      → Numbers p own.nr own.load victim.nr victim.load weight 0 own.consts victim.consts attrs
  numbers own victim weight attrs fits_own fits_victim fits_weight attrs_in = record {
    nr_small = fits_own.loads.few;
    load_small = load_small own.nr own.load fits_own.loads;
    victim_nr_small = fits_victim.loads.few;
    victim_load_small = load_small victim.nr victim.load fits_victim.loads;
    weight_least = fits_weight.least;
    weight_greatest = fits_weight.greatest;
    fresh_small = omega arith;
    own_in = fits_own.consts;
    victims_in = fits_victim.consts;
    attrs_in = attrs_in;
  }

  pub sight_in : (own victim : CoreValues) (weight : ℕ) → CoreFits p own → CoreFits p victim → IsWeight p weight → AreIn (variable_ranges p) (sight own victim weight)
  unfolding sight lows
  sight_in own victim weight fits_own fits_victim fits_weight =
      assigned_in p own.nr own.load victim.nr victim.load weight 0 own.consts victim.consts lows (numbers own victim weight lows fits_own fits_victim fits_weight
      (lows_in (attribute_ranges p.thread_attrs) (attribute_ranges-not_empty p.thread_attrs is.thread_attrs)))

  pub least_is_weight : IsWeight p (least_weight p.load)
  least_is_weight = record { least = omega arith; greatest = is.load.ordered }

  pub cores_fit_told : (own victim : CoreValues) (weight : ℕ) → CoreFits p own → CoreFits p victim → holds (sight own victim weight) (cores_fit p.load) ≡ true
  unfolding sight
  cores_fit_told own victim weight fits_own fits_victim =
      true_and (loads_test (least_weight p.load) (greatest_weight p.load) own.nr own.load) (loads_test (least_weight p.load) (greatest_weight p.load) victim.nr victim.load)
      (loads_told (least_weight p.load) (greatest_weight p.load) own.nr own.load fits_own.loads.light fits_own.loads.heavy)
      (loads_told (least_weight p.load) (greatest_weight p.load) victim.nr victim.load fits_victim.loads.light fits_victim.loads.heavy)

  -- where nothing refutes, an idle core sees every overloaded one
  pub sees_from_none : NoneRefutes p idle_sees_overloaded → IdleSeesOverloaded p
  unfolding sight
  sees_from_none none own victim fits_own fits_victim idle overloaded =
      or_refuted (holds (pair_values own victim) p.filter) (λ unseen.
      let w : ℕ = least_weight p.load in
      let seen = sym (filter_sees own victim w 0 lows fits_own.consts fits_victim.consts) ∙ unseen in
      none (sight own victim w) (sight_in own victim w fits_own fits_victim least_is_weight)
      (true_and _ (not (holds (sight own victim w) p.filter))
      (true_and (holds (sight own victim w) (cores_fit p.load)) (holds (sight own victim w) idle_and_overloaded) (cores_fit_told own victim w fits_own fits_victim)
      (true_and (int_le (pos own.nr) (pos 0)) (int_le (pos 2) (pos victim.nr)) (le_told (pos own.nr) (pos 0) (omega (arith, ints))) (le_told (pos 2) (pos victim.nr) (omega (arith, ints)))))
      (ap not seen)))

  -- where nothing refutes, only overloaded cores are victims
  pub spares_from_none : NoneRefutes p victim_is_overloaded → VictimIsOverloaded p
  unfolding sight
  spares_from_none none own victim fits_own fits_victim seen =
      let w : ℕ = least_weight p.load in
      let refuted : (int_le (pos victim.nr) (pos 1) ≡ true) → ⊥ = λ one.
      none (sight own victim w) (sight_in own victim w fits_own fits_victim least_is_weight)
      (true_and (holds (sight own victim w) (cores_fit p.load) && int_le (pos victim.nr) (pos 1)) (holds (sight own victim w) p.filter)
      (true_and (holds (sight own victim w) (cores_fit p.load)) (int_le (pos victim.nr) (pos 1)) (cores_fit_told own victim w fits_own fits_victim) one)
      (sym (filter_sees own victim w 0 lows fits_own.consts fits_victim.consts) ∙ seen)) in
      above_one victim.nr refuted
    where
      above_one : (n : ℕ) → ((int_le (pos n) (pos 1) ≡ true) → ⊥) → 2 ≤ n
      above_one n refuted = by (leb n 1) refl
        where
          by : (b : Bool) → leb n 1 ≡ b → 2 ≤ n
          by true e = absurd (refuted (le_told (pos n) (pos 1) (let le : n ≤ 1 = grind (arith, nat_tests) in omega (arith, ints))))
          by false e = grind (arith, nat_tests)

  -- where nothing refutes, a move narrows the gap
  pub narrows_from_none : NoneRefutes p move_narrows_gap → MoveNarrowsGap p
  unfolding sight
  narrows_from_none none own victim weight fits_own fits_victim fits_weight seen queued =
      let w : ℕ = least_weight p.load in
      let values : Assignment = sight own victim weight in
      wide_unless w own.load weight victim.nr victim.load queued (λ moves.
      none values (sight_in own victim weight fits_own fits_victim fits_weight)
      (true_and (holds values (cores_fit p.load) && moves_test w own.load weight victim.nr victim.load) (holds values p.filter)
      (true_and (holds values (cores_fit p.load)) (moves_test w own.load weight victim.nr victim.load) (cores_fit_told own victim weight fits_own fits_victim) moves)
      (sym (filter_sees own victim weight 0 lows fits_own.consts fits_victim.consts) ∙ seen)))

  -- where nothing refutes, so does each further move
  pub further_from_none : (batch : Option BatchTree)
      → ((values : Assignment) → AreIn (variable_ranges p) values → Holds values (moves_over_small_gap p.load batch) → ⊥) → NarrowsGapBy p batch
  unfolding sight move_values
  further_from_none None none = tt
  further_from_none (Some batch) none = λ own victim weight attrs fits_own fits_victim fits_weight attrs_in seen some queued.
      let w : ℕ = least_weight p.load in
      let values : Assignment = assigned own.nr own.load victim.nr victim.load weight 0 own.consts victim.consts attrs in
      wide_unless w own.load weight victim.nr victim.load queued (λ moves.
      none values (assigned_in p own.nr own.load victim.nr victim.load weight 0 own.consts victim.consts attrs (numbers own victim weight attrs fits_own fits_victim fits_weight attrs_in))
      (true_and (holds values (cores_fit p.load) && (int_le (pos 1) (pos victim.nr) && moves_test w own.load weight victim.nr victim.load)) (holds values batch.condition)
      (true_and (holds values (cores_fit p.load)) (int_le (pos 1) (pos victim.nr) && moves_test w own.load weight victim.nr victim.load) (cores_fit_told own victim weight fits_own fits_victim)
      (true_and (int_le (pos 1) (pos victim.nr)) (moves_test w own.load weight victim.nr victim.load) (le_told (pos 1) (pos victim.nr) (omega (arith, ints))) moves))
      seen))

  -- the cores that values stand for
  unfoldable pub core_of : ℕ → ℕ → List ℤ → CoreValues
  core_of nr load consts = record { nr = nr; load = load; consts = consts }

  pub core_fits : (nr load : ℕ) (consts : List ℤ) → nr ≤ MAX_THREADS → loads_test (least_weight p.load) (greatest_weight p.load) nr load ≡ true → AreIn (attribute_ranges p.core_attrs) consts
      → CoreFits p (core_of nr load consts)
  unfolding core_of
  core_fits nr load consts few test are =
      let fit = loads_tell (least_weight p.load) (greatest_weight p.load) nr load test in
      record { loads = record { few = few; light = fit.0; heavy = fit.1 }; consts = are }

  pub none_from_sees : IdleSeesOverloaded p → NoneRefutes p idle_sees_overloaded
  unfolding core_of
  none_from_sees sees = for_all_values p (λ values. holds values (refutation p idle_sees_overloaded) ≡ true → ⊥) (λ nr load victim_nr victim_load weight fresh own victims attrs n refutes.
      let values : Assignment = assigned nr load victim_nr victim_load weight fresh own victims attrs in
      let parts = and_true (holds values (cores_fit p.load) && holds values idle_and_overloaded) (not (holds values p.filter)) refutes in
      let cores = and_true (holds values (cores_fit p.load)) (holds values idle_and_overloaded) parts.0 in
      let loads = and_true (loads_test (least_weight p.load) (greatest_weight p.load) nr load) (loads_test (least_weight p.load) (greatest_weight p.load) victim_nr victim_load) cores.0 in
      let counts = and_true (int_le (pos nr) (pos 0)) (int_le (pos 2) (pos victim_nr)) cores.1 in
      let idle = le_tells (pos nr) (pos 0) counts.0 in let overloaded = le_tells (pos 2) (pos victim_nr) counts.1 in
      let seen = sees (core_of nr load own) (core_of victim_nr victim_load victims) (core_fits nr load own n.nr_small loads.0 n.own_in) (core_fits victim_nr victim_load victims n.victim_nr_small loads.1 n.victims_in)
      (omega (arith, ints)) (omega (arith, ints)) in
      let same = filter_sees (core_of nr load own) (core_of victim_nr victim_load victims) weight fresh attrs n.own_in n.victims_in in
      let unseen = not_false (holds values p.filter) parts.1 in
      true≢false (sym seen ∙ (same ∙ unseen)))

  pub none_from_spares : VictimIsOverloaded p → NoneRefutes p victim_is_overloaded
  unfolding core_of
  none_from_spares spares = for_all_values p (λ values. holds values (refutation p victim_is_overloaded) ≡ true → ⊥) (λ nr load victim_nr victim_load weight fresh own victims attrs n refutes.
      let values : Assignment = assigned nr load victim_nr victim_load weight fresh own victims attrs in
      let parts = and_true (holds values (cores_fit p.load) && holds values victim_has_one) (holds values p.filter) refutes in
      let cores = and_true (holds values (cores_fit p.load)) (holds values victim_has_one) parts.0 in
      let loads = and_true (loads_test (least_weight p.load) (greatest_weight p.load) nr load) (loads_test (least_weight p.load) (greatest_weight p.load) victim_nr victim_load) cores.0 in
      let one = le_tells (pos victim_nr) (pos 1) cores.1 in
      let same = filter_sees (core_of nr load own) (core_of victim_nr victim_load victims) weight fresh attrs n.own_in n.victims_in in
      let two = spares (core_of nr load own) (core_of victim_nr victim_load victims) (core_fits nr load own n.nr_small loads.0 n.own_in) (core_fits victim_nr victim_load victims n.victim_nr_small loads.1 n.victims_in)
      (same ∙ parts.1) in
      absurd (omega (arith, ints)))

  pub none_from_narrows : MoveNarrowsGap p → NoneRefutes p move_narrows_gap
  unfolding core_of
  none_from_narrows narrows = for_all_values p (λ values. holds values (refutation p move_narrows_gap) ≡ true → ⊥) (λ nr load victim_nr victim_load weight fresh own victims attrs n refutes.
      let values : Assignment = assigned nr load victim_nr victim_load weight fresh own victims attrs in
      let w : ℕ = least_weight p.load in
      let moves = moves_test w load weight victim_nr victim_load in
      let parts = and_true (holds values (cores_fit p.load) && moves) (holds values p.filter) refutes in
      let cores = and_true (holds values (cores_fit p.load)) moves parts.0 in
      let loads = and_true (loads_test w (greatest_weight p.load) nr load) (loads_test w (greatest_weight p.load) victim_nr victim_load) cores.0 in
      let gap = small_where w load weight victim_nr victim_load cores.1 in
      let same = filter_sees (core_of nr load own) (core_of victim_nr victim_load victims) weight fresh attrs n.own_in n.victims_in in
      let narrowed = narrows (core_of nr load own) (core_of victim_nr victim_load victims) weight
      (core_fits nr load own n.nr_small loads.0 n.own_in) (core_fits victim_nr victim_load victims n.victim_nr_small loads.1 n.victims_in)
      (record { least = n.weight_least; greatest = n.weight_greatest }) (same ∙ parts.1) gap.0 in
      let small = gap.1 in
      absurd (omega arith))

  pub none_from_further : (batch : Option BatchTree) → HasResolvedBatch p batch → NarrowsGapBy p batch
      → (values : Assignment) → AreIn (variable_ranges p) values → Holds values (moves_over_small_gap p.load batch) → ⊥
  unfolding core_of move_values
  none_from_further None resolved narrows = λ values are refutes. true≢false (sym refutes)
  none_from_further (Some batch) resolved narrows = for_all_values p (λ values. holds values (moves_over_small_gap p.load (Some batch)) ≡ true → ⊥) (λ nr load victim_nr victim_load weight fresh own victims attrs n refutes.
      let values : Assignment = assigned nr load victim_nr victim_load weight fresh own victims attrs in
      let w : ℕ = least_weight p.load in
      let moves = moves_test w load weight victim_nr victim_load in
      let some = int_le (pos 1) (pos victim_nr) in
      let parts = and_true (holds values (cores_fit p.load) && (some && moves)) (holds values batch.condition) refutes in
      let cores = and_true (holds values (cores_fit p.load)) (some && moves) parts.0 in
      let queued = and_true some moves cores.1 in
      let loads = and_true (loads_test w (greatest_weight p.load) nr load) (loads_test w (greatest_weight p.load) victim_nr victim_load) cores.0 in
      let one = le_tells (pos 1) (pos victim_nr) queued.0 in
      let gap = small_where w load weight victim_nr victim_load queued.1 in
      let refers = EachSide-mono (IsResolvedExpr p going_on) (RefersTo (allows p going_on)) (λ x resolved. resolved.allowed) batch.condition resolved.condition.sides in
      let same = same_holds (allows p going_on) (assigned nr load victim_nr victim_load weight 0 own victims attrs) values
      (move_agrees p is.core_attrs.few is.thread_attrs.few own victims attrs nr load victim_nr victim_load weight 0 fresh) batch.condition refers in
      let narrowed = narrows (core_of nr load own) (core_of victim_nr victim_load victims) weight attrs
      (core_fits nr load own n.nr_small loads.0 n.own_in) (core_fits victim_nr victim_load victims n.victim_nr_small loads.1 n.victims_in)
      (record { least = n.weight_least; greatest = n.weight_greatest }) n.attrs_in (same ∙ parts.1) (omega (arith, ints)) gap.0 in
      let small = gap.1 in
      absurd (omega arith))
