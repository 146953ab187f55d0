-- The statements on the guards of a handler, and the conditions that refute them.
use Rattle.std.proofs.Common.{◌≡◌, ℕ, zero, suc, ◌≤◌, eqb, ℤ, Bool, true, false, cond, not, ◌&&◌, ◌||◌, List, [], ◌∷◌, ◌++◌, All, length, map, refl, sym, ap, ◌∙◌, arith, ⊎_elim}
use Rattle.std.specs.List.{filter, list_any}
use Rattle.std.proofs.lemmas.List.{map-append}
use Rattle.sched_base.specs.declared.task.Task.{Task}
use Rattle.policy_tree.specs.declared.typed.Event.{Event}
use Rattle.policy_tree.specs.Meaning.{CaseTree, Meaning, cases_on}
use Rattle.policy_tree.specs.Trees.{CondTree, negated}
use Rattle.policy_eval.specs.Events.{holding_cases}
use Rattle.policy_eval.specs.Fitting.{IsTask}
use Rattle.policy_eval.specs.Forms.{RefersTo}
use Rattle.policy_eval.specs.Obligations.{NoGap, NoOverlap, no_gap, no_overlap}
use Rattle.policy_eval.specs.Ranges.{AreIn, attribute_ranges, greatest_weight, least_weight}
use Rattle.policy_eval.specs.Resolved.{IsResolved, IsResolvedCase, IsResolvedExpr}
use Rattle.policy_eval.specs.Sights.{assigned, event_values, no_attributes}
use Rattle.policy_eval.specs.Sites.{allows, handling}
use Rattle.policy_eval.specs.Values.{Assignment, holds}
use Rattle.obligations.proofs.Expressions.{EachSide-mono}
use Rattle.obligations.specs.Laws.{NoneRefutes}
use Rattle.obligations.specs.Refutations.{all_of, any_of, both_of, guards_on, pairs_of, refutation}
use Rattle.obligations.specs.Systems.{variable_ranges}
use Rattle.obligations.proofs.Agreeing.{Agree, event_agrees, same_holds}
use Rattle.obligations.proofs.Given.{Numbers, assigned_in, for_all_values}
use Rattle.obligations.proofs.Ranges.{AreIn-long, length-attribute_ranges}
use Rattle.obligations.proofs.Tests.{and_true, not_false, not_refuted, or_false, or_true}

module _ (values : Assignment) where
  -- the guards that hold
  abbrev holding : List CondTree → List CondTree
  holding gs = filter (holds values) gs

  -- the guard and a later one hold, or two of the others
  any_with : (g : CondTree) (gs rest : List CondTree)
      → holds values (any_of (map both_of (map (λ h. (g, h)) gs) ++ rest)) ≡ ((holds values g && list_any (holds values) gs) || holds values (any_of rest))
  any_with g [] rest = none (holds values g) (holds values (any_of rest))
    where
      none : (a b : Bool) → b ≡ ((a && false) || b)
      none true b = refl
      none false b = refl
  any_with g (h ∷ gs) rest =
      ap (λ b. (holds values g && holds values h) || b) (any_with g gs rest) ∙ shared (holds values g) (holds values h) (list_any (holds values) gs) (holds values (any_of rest))
    where
      shared : (a b c d : Bool) → ((a && b) || ((a && c) || d)) ≡ ((a && (b || c)) || d)
      shared true true c d = refl
      shared true false c d = refl
      shared false b c d = refl

  any_of_more : (g : CondTree) (gs : List CondTree)
      → holds values (any_of (map both_of (pairs_of (g ∷ gs)))) ≡ ((holds values g && list_any (holds values) gs) || holds values (any_of (map both_of (pairs_of gs))))
  any_of_more g gs = ap (λ cs. holds values (any_of cs)) (map-append both_of (map (λ h. (g, h)) gs) (pairs_of gs)) ∙ any_with g gs (map both_of (pairs_of gs))

  none_holding : (gs : List CondTree) → list_any (holds values) gs ≡ false → length (holding gs) ≡ 0
  none_holding [] e = refl
  none_holding (g ∷ gs) e =
      let parts = or_false (holds values g) (list_any (holds values) gs) e in
      ap (λ b. length (cond b (g ∷ holding gs) (holding gs))) parts.0 ∙ none_holding gs parts.1

  some_holding : (gs : List CondTree) → list_any (holds values) gs ≡ true → 1 ≤ length (holding gs)
  some_holding [] e = absurd (cc)
  some_holding (g ∷ gs) e = by (holds values g) refl (some_holding gs)
    where
      by : (b : Bool) → holds values g ≡ b → (list_any (holds values) gs ≡ true → 1 ≤ length (holding gs)) → 1 ≤ length (cond b (g ∷ holding gs) (holding gs))
      by true f rest = omega arith
      by false f rest = rest (sym (ap (λ b. b || list_any (holds values) gs) f) ∙ e)

  -- at most one guard holds where no pair does
  one_holding : (gs : List CondTree) → holds values (any_of (map both_of (pairs_of gs))) ≡ false → length (holding gs) ≤ 1
  one_holding [] e = omega arith
  one_holding (g ∷ gs) e =
      let parts = or_false (holds values g && list_any (holds values) gs) (holds values (any_of (map both_of (pairs_of gs)))) (sym (any_of_more g gs) ∙ e) in
      by (holds values g) parts.0 (one_holding gs parts.1)
    where
      by : (b : Bool) → (b && list_any (holds values) gs) ≡ false → length (holding gs) ≤ 1 → length (cond b (g ∷ holding gs) (holding gs)) ≤ 1
      by true f rest = let none = none_holding gs f in omega arith
      by false f rest = rest

  -- two guards hold where a pair does
  two_holding : (gs : List CondTree) → holds values (any_of (map both_of (pairs_of gs))) ≡ true → 2 ≤ length (holding gs)
  two_holding [] e = absurd (cc)
  two_holding (g ∷ gs) e =
      ⊎_elim
      (λ here.
      let both = and_true (holds values g) (list_any (holds values) gs) here in
      let some = some_holding gs both.1 in
      let more : length (holding (g ∷ gs)) ≡ suc (length (holding gs)) = ap (λ b. length (cond b (g ∷ holding gs) (holding gs))) both.0 in
      omega arith)
      (λ later. let rest = two_holding gs later in let more = no_fewer (holds values g) in omega arith)
      (or_true (holds values g && list_any (holds values) gs) (holds values (any_of (map both_of (pairs_of gs)))) (sym (any_of_more g gs) ∙ e))
    where
      no_fewer : (b : Bool) → length (holding gs) ≤ length (cond b (g ∷ holding gs) (holding gs))
      no_fewer true = omega arith
      no_fewer false = omega arith

  -- no guard holds where the negations of all do
  all_fail : (gs : List CondTree) → holds values (all_of (map negated gs)) ≡ true → length (holding gs) ≡ 0
  all_fail [] e = refl
  all_fail (g ∷ gs) e =
      let parts = and_true (not (holds values g)) (holds values (all_of (map negated gs))) e in
      ap (λ b. length (cond b (g ∷ holding gs) (holding gs))) (not_false (holds values g) parts.0) ∙ all_fail gs parts.1

  -- some guard holds where the negation of one doesn't
  some_hold : (gs : List CondTree) → holds values (all_of (map negated gs)) ≡ false → 1 ≤ length (holding gs)
  some_hold [] e = absurd (cc)
  some_hold (g ∷ gs) e = by (holds values g) e (some_hold gs)
    where
      by : (b : Bool) → (not b && holds values (all_of (map negated gs))) ≡ false → (holds values (all_of (map negated gs)) ≡ false → 1 ≤ length (holding gs))
          → 1 ≤ length (cond b (g ∷ holding gs) (holding gs))
      by true f rest = omega arith
      by false f rest = rest f

module _ (p : Meaning) (is : IsResolved p) (e : Event) where
  -- as many cases hold at what a handler sees as guards at the values
  same_count : (seen values : Assignment) → Agree (allows p (handling e)) seen values → (cases : List CaseTree) → All (IsResolvedCase p e) cases
      → length (filter (λ (c : CaseTree). holds seen c.guard) cases) ≡ length (filter (holds values) (map (λ (c : CaseTree). c.guard) cases))
  same_count seen values agree [] each = refl
  same_count seen values agree (c ∷ cases) each =
      let refers = EachSide-mono (IsResolvedExpr p (handling e)) (RefersTo (allows p (handling e))) (λ x resolved. resolved.allowed) c.guard (each 0 c (omega arith)).guard.sides in
      ap (λ b. length (cond b (c ∷ filter (λ (c : CaseTree). holds seen c.guard) cases) (filter (λ (c : CaseTree). holds seen c.guard) cases)))
      (same_holds (allows p (handling e)) seen values agree c.guard refers)
      ∙ by (holds values c.guard) (same_count seen values agree cases (λ k d inside. each (suc k) d (omega arith)))
    where
      by : (b : Bool) → length (filter (λ (c : CaseTree). holds seen c.guard) cases) ≡ length (filter (holds values) (map (λ (c : CaseTree). c.guard) cases))
          → length (cond b (c ∷ filter (λ (c : CaseTree). holds seen c.guard) cases) (filter (λ (c : CaseTree). holds seen c.guard) cases))
          ≡ length (cond b (c.guard ∷ filter (holds values) (map (λ (c : CaseTree). c.guard) cases)) (filter (holds values) (map (λ (c : CaseTree). c.guard) cases)))
      by true rest = ap suc rest
      by false rest = rest

  core_long : (xs : List ℤ) → AreIn (attribute_ranges p.core_attrs) xs → length xs ≡ 8
  core_long xs are = AreIn-long (attribute_ranges p.core_attrs) xs are ∙ length-attribute_ranges p.core_attrs is.core_attrs.few

  -- how many guards hold at the values: as many as cases hold at the event
  count_holding : (fresh : Bool) (nr load victim_nr victim_load : ℕ) (own victims : List ℤ) (t : Task)
      → AreIn (attribute_ranges p.core_attrs) own → AreIn (attribute_ranges p.core_attrs) victims
      → length (holding_cases p e fresh own t) ≡ length (filter (holds (assigned nr load victim_nr victim_load t.weight (cond fresh 1 0) own victims t.attrs)) (guards_on p e))
  unfolding holding_cases event_values
  count_holding fresh nr load victim_nr victim_load own victims t own_in victims_in =
      same_count (event_values fresh own t.weight t.attrs) (assigned nr load victim_nr victim_load t.weight (cond fresh 1 0) own victims t.attrs)
      (λ at allowed. sym (event_agrees p is.core_attrs.few is.thread_attrs.few e own victims no_attributes t.attrs (core_long own own_in) (core_long victims victims_in) refl
      nr load victim_nr victim_load t.weight (cond fresh 1 0) at allowed))
      (cases_on p.handlers e) (is.handlers e).cases

  -- values that an event stands for
  met : Bool → List ℤ → Task → Assignment
  met fresh consts t = assigned 0 0 0 0 t.weight (cond fresh 1 0) consts consts t.attrs

  met_in : (fresh : Bool) (consts : List ℤ) (t : Task) → AreIn (attribute_ranges p.core_attrs) consts → IsTask p t → AreIn (variable_ranges p) (met fresh consts t)
  unfolding met
  met_in fresh consts t are task =
      assigned_in p 0 0 0 0 t.weight (cond fresh 1 0) consts consts t.attrs (record {
        nr_small = omega arith;
        load_small = omega arith;
        victim_nr_small = omega arith;
        victim_load_small = omega arith;
        weight_least = task.weight.least;
        weight_greatest = task.weight.greatest;
        fresh_small = small fresh;
        own_in = are;
        victims_in = are;
        attrs_in = task.attrs;
      })
    where
      small : (b : Bool) → cond b 1 0 ≤ 1
      small true = omega arith
      small false = omega arith

  pub overlap_from_none : NoneRefutes p (no_overlap e) → NoOverlap p e
  unfolding met
  overlap_from_none none fresh consts t are task =
      let count = count_holding fresh 0 0 0 0 consts consts t are are in
      let one = one_holding (met fresh consts t) (guards_on p e) (not_refuted (holds (met fresh consts t) (refutation p (no_overlap e))) (none (met fresh consts t) (met_in fresh consts t are task))) in
      omega arith

  pub gap_from_none : NoneRefutes p (no_gap e) → NoGap p e
  unfolding met
  gap_from_none none fresh consts t are task =
      let count = count_holding fresh 0 0 0 0 consts consts t are are in
      let some = some_hold (met fresh consts t) (guards_on p e) (not_refuted (holds (met fresh consts t) (refutation p (no_gap e))) (none (met fresh consts t) (met_in fresh consts t are task))) in
      omega arith

  -- the thread that values stand for
  task_of : ℕ → List ℤ → Task
  task_of weight attrs = record { id = 1; weight = weight; attrs = attrs; place = record { burst = 0; done = 0 } }

  fresh_back : (n : ℕ) → n ≤ 1 → cond (eqb n 1) 1 0 ≡ n
  fresh_back zero small = refl
  fresh_back (suc zero) small = refl
  fresh_back (suc (suc n)) small = absurd (omega arith)

  -- as many guards hold at the values as cases hold at the event that they stand for
  count_met : (nr load victim_nr victim_load weight fresh : ℕ) (own victims attrs : List ℤ) → Numbers p nr load victim_nr victim_load weight fresh own victims attrs
      → length (holding_cases p e (eqb fresh 1) own (task_of weight attrs)) ≡ length (filter (holds (assigned nr load victim_nr victim_load weight fresh own victims attrs)) (guards_on p e))
  unfolding task_of
  count_met nr load victim_nr victim_load weight fresh own victims attrs n =
      count_holding (eqb fresh 1) nr load victim_nr victim_load own victims (task_of weight attrs) n.own_in n.victims_in
      ∙ ap (λ f. length (filter (holds (assigned nr load victim_nr victim_load weight f own victims attrs)) (guards_on p e))) (fresh_back fresh n.fresh_small)

  is_task : (weight : ℕ) (attrs : List ℤ) → least_weight p.load ≤ weight → weight ≤ greatest_weight p.load → AreIn (attribute_ranges p.thread_attrs) attrs → IsTask p (task_of weight attrs)
  unfolding task_of
  is_task weight attrs least greatest are = record { weight = record { least = least; greatest = greatest }; attrs = are }

  pub none_from_overlap : NoOverlap p e → NoneRefutes p (no_overlap e)
  none_from_overlap disjoint = for_all_values p (λ values. holds values (refutation p (no_overlap e)) ≡ true → ⊥) (λ nr load victim_nr victim_load weight fresh own victims attrs n refutes.
      let two = two_holding (assigned nr load victim_nr victim_load weight fresh own victims attrs) (guards_on p e) refutes in
      let count = count_met nr load victim_nr victim_load weight fresh own victims attrs n in
      let one = disjoint (eqb fresh 1) own (task_of weight attrs) n.own_in (is_task weight attrs n.weight_least n.weight_greatest n.attrs_in) in
      absurd (omega arith))

  pub none_from_gap : NoGap p e → NoneRefutes p (no_gap e)
  none_from_gap full = for_all_values p (λ values. holds values (refutation p (no_gap e)) ≡ true → ⊥) (λ nr load victim_nr victim_load weight fresh own victims attrs n refutes.
      let none = all_fail (assigned nr load victim_nr victim_load weight fresh own victims attrs) (guards_on p e) refutes in
      let count = count_met nr load victim_nr victim_load weight fresh own victims attrs n in
      let one = full (eqb fresh 1) own (task_of weight attrs) n.own_in (is_task weight attrs n.weight_least n.weight_greatest n.attrs_in) in
      absurd (omega arith))
