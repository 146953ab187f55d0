-- Steps by one thread make up the others: so many threads fewer for both, and then so many more for the victim.
use Rattle.std.proofs.Common.{◌≡◌, ℕ, zero, suc, ◌+◌, ◌-◌, ◌*◌, ◌≤◌, ℤ, List, Option, None, Some, refl, sym, ap, subst, arith}
use Rattle.sched_base.specs.declared.limits.TheConstants.{MAX_THREADS}
use Rattle.policy_tree.specs.Meaning.{BatchTree, Meaning}
use Rattle.policy_eval.specs.declared.env.CoreValues.{CoreValues}
use Rattle.policy_eval.specs.Fitting.{CoreFits}
use Rattle.policy_eval.specs.Obligations.{MoveNarrowsGap}
use Rattle.policy_eval.specs.Ranges.{AreIn, attribute_ranges, greatest_weight, least_weight}
use Rattle.policy_eval.specs.Sights.{pair_values}
use Rattle.policy_eval.specs.Values.{Holds}
use Rattle.rest_laws.specs.LowestFirst.{BatchLeavesSeen, BatchSeesLower, LowerSeesAsMuch, SeesLower, SeesMore, SeesWhoever, StepsByOneLaw}
use Rattle.rest_laws.proofs.Gap.{equal_load}
use Rattle.rest_laws.proofs.LowestMoves.{passes_two}

module _ (p : Meaning) (same : least_weight p.load ≡ greatest_weight p.load) where
  -- a core with so many threads
  abbrev core : ℕ → List ℤ → CoreValues
  core n consts = record { nr = n; load = n * least_weight p.load; consts = consts }

  abbrev AreConsts : List ℤ → Type 0
  AreConsts consts = AreIn (attribute_ranges p.core_attrs) consts

  core_fits : (n : ℕ) (consts : List ℤ) → n ≤ MAX_THREADS → AreConsts consts → CoreFits p (core n consts)
  core_fits n consts few are =
      let product : n * least_weight p.load ≡ n * greatest_weight p.load = ap (λ w. n * w) same in
      record { loads = record { few = few; light = omega arith; heavy = omega arith }; consts = are }

  -- each core that fits is such a core
  is_core : (x : CoreValues) → CoreFits p x → x ≡ core x.nr x.consts
  is_core x fits = ap (λ (l : ℕ). let c : CoreValues = record { nr = x.nr; load = l; consts = x.consts } in c) (equal_load p same x.nr x.load fits.loads)

  abbrev Sees : CoreValues → CoreValues → Type 0
  Sees own victim = Holds (pair_values own victim) p.filter

  module _ (more : SeesMore p) (own : CoreValues) (own_fits : CoreFits p own) (consts : List ℤ) (are : AreConsts consts) where
    steps_up : (d v : ℕ) → v + d ≤ MAX_THREADS → Sees own (core v consts) → Sees own (core (v + d) consts)
    steps_up zero v few sees = let same : v ≡ v + 0 = omega arith in subst (λ n. Sees own (core n consts)) same sees
    steps_up (suc d) v few sees =
        more own (core (v + d) consts) (core (v + suc d) consts) own_fits (core_fits (v + d) consts (omega arith) are) (core_fits (v + suc d) consts (omega arith) are)
        refl (steps_up d v (omega arith) sees) (omega arith)

  module _ (lower : SeesLower p) (consts others : List ℤ) (are : AreConsts consts) (others_are : AreConsts others) where
    steps_down : (d s v : ℕ) → s + d ≤ MAX_THREADS → v + d ≤ MAX_THREADS → Sees (core (s + d) consts) (core (v + d) others) → Sees (core s consts) (core v others)
    steps_down zero s v few too sees =
        let own : s + 0 ≡ s = omega arith in let its : v + 0 ≡ v = omega arith in
        subst (λ n. Sees (core s consts) (core n others)) its (subst (λ n. Sees (core n consts) (core (v + 0) others)) own sees)
    steps_down (suc d) s v few too sees =
        steps_down d s v (omega arith) (omega arith)
        (lower (core (s + suc d) consts) (core (v + suc d) others) (core (s + d) consts) (core (v + d) others)
        (core_fits (s + suc d) consts few are) (core_fits (v + suc d) others too others_are)
        (core_fits (s + d) consts (omega arith) are) (core_fits (v + d) others (omega arith) others_are)
        refl sees (omega arith) (omega arith))

  module _ (narrows : MoveNarrowsGap p) (whoever : SeesWhoever p) (more : SeesMore p) (lower : SeesLower p) where
    as_much : LowerSeesAsMuch p
    as_much own victim low seen own_fits victim_fits low_fits seen_fits alike sees fewer far =
        let two = passes_two p same narrows own victim own_fits victim_fits sees in
        let few = own_fits.loads.few in
        let too = victim_fits.loads.few in
        let enough = seen_fits.loads.few in
        let d = own.nr - low.nr in
        let v = victim.nr - d in
        let e = seen.nr - v in
        let own_is : own.nr ≡ low.nr + d = omega arith in
        let its : victim.nr ≡ v + d = omega arith in
        let then : v + e ≡ seen.nr = omega arith in
        let start : Sees (core (low.nr + d) own.consts) (core (v + d) victim.consts) =
        subst (λ n. Sees (core (low.nr + d) own.consts) (core n victim.consts)) its
        (subst (λ n. Sees (core n own.consts) (core victim.nr victim.consts)) own_is
        (subst (λ (x : CoreValues). Sees (core own.nr own.consts) x) (is_core victim victim_fits)
        (subst (λ (x : CoreValues). Sees x victim) (is_core own own_fits) sees))) in
        let down = steps_down lower own.consts victim.consts own_fits.consts victim_fits.consts d low.nr v (omega arith) (omega arith) start in
        let other = whoever (core low.nr own.consts) (core v victim.consts) low
        (core_fits low.nr own.consts (omega arith) own_fits.consts) (core_fits v victim.consts (omega arith) victim_fits.consts) low_fits down refl in
        let up = steps_up more low low_fits victim.consts victim_fits.consts e v (omega arith) other in
        subst (λ (x : CoreValues). Sees low x) (sym (is_core seen seen_fits))
        (subst (λ (c : List ℤ). Sees low (core seen.nr c)) (sym alike)
        (subst (λ n. Sees low (core n victim.consts)) then up))

    batch_leaves : (batch : Option BatchTree) → BatchSeesLower p batch → BatchLeavesSeen p batch
    batch_leaves None steps = tt
    batch_leaves (Some batch) steps = λ own victim low seen weight attrs own_fits victim_fits low_fits seen_fits weighs are alike goes there fewer far.
        let few = own_fits.loads.few in
        let too = victim_fits.loads.few in
        let s = own.nr - 2 in
        let v = victim.nr - 1 in
        let s_fits = core_fits s low.consts (omega arith) low_fits.consts in
        let v_fits = core_fits v victim.consts (omega arith) victim_fits.consts in
        let once = steps own victim (core s low.consts) (core v victim.consts) weight attrs own_fits victim_fits s_fits v_fits weighs are refl goes (omega arith) (omega arith) in
        as_much (core s low.consts) (core v victim.consts) low seen s_fits v_fits low_fits seen_fits alike once (omega arith) (omega arith)

pub steps_by_one : StepsByOneLaw
steps_by_one p narrows steps = record {
  equal_weights = steps.equal_weights;
  filter = as_much p steps.equal_weights narrows steps.whoever steps.more steps.lower;
  batch = batch_leaves p steps.equal_weights narrows steps.whoever steps.more steps.lower p.batch steps.batch;
}
