-- All expressions of a refutation are linear.
use Rattle.std.proofs.Common.{ℕ, suc, min, ◌^◌, ◌≤◌, eqb, pos, ◌+ℤ◌, ◌*ℤ◌, Bool, true, false, cond, List, [], ◌∷◌, All, map, Option, None, Some, refl, sym, subst, arith}
use Rattle.std.proofs.lemmas.List.{map-append}
use Rattle.std.specs.List.{AllByRecursion}
use Rattle.std.proofs.lemmas.Int.{ints}
use Rattle.sched_base.specs.declared.limits.TheConstants.{MAX_LOAD}
use Rattle.policy_tree.specs.declared.typed.Event.{Event}
use Rattle.policy_tree.specs.Meaning.{BatchTree, CaseTree, Meaning, cases_on}
use Rattle.policy_tree.specs.Trees.{CondTree, ExprTree, both, negated, variable, plus, times}
use Rattle.policy_eval.specs.Forms.{EachSide, IsLinear, IsSmall}
use Rattle.policy_eval.specs.Obligations.{Statement, idle_sees_overloaded, victim_is_overloaded, move_narrows_gap, further_move_narrows_gap, no_overlap, no_gap, filter_leaves_last, batch_leaves_last, rest_gap}
use Rattle.policy_eval.specs.Ranges.{greatest_weight, least_weight}
use Rattle.policy_eval.specs.Resolved.{HasResolvedBatch, IsResolved, IsResolvedCase, IsResolvedExpr}
use Rattle.policy_eval.specs.Sites.{filtering, going_on, handling}
use Rattle.obligations.proofs.Expressions.{EachSide-mono}
use Rattle.obligations.specs.Refutations.{all_of, any_of, both_of, gap_is_small, goes_on_to_last, guards_on, has_thread, load_fits, moves_over_small_gap, pairs_of, refutation, whole}
use Rattle.obligations.proofs.Kept.{AllByRecursion-append}

-- the coefficient of a variable is 1 or 0
one_or_none : (w : ℕ) (b : Bool) → w ≤ 2 ^ 20 → IsSmall (pos w *ℤ cond b (pos 1) (pos 0) +ℤ pos 0 *ℤ pos 0)
one_or_none w true small = record { above = omega (arith, ints); below = omega (arith, ints) }
one_or_none w false small = record { above = omega (arith, ints); below = omega (arith, ints) }

whole-linear : (n : ℕ) → n ≤ 2 ^ 20 → IsLinear (whole n)
whole-linear n small = record { above = omega (arith, ints); below = omega (arith, ints) }

-- a weight times a variable
scaled-linear : (w v : ℕ) → w ≤ 2 ^ 20 → IsLinear (times (whole w) (variable v))
scaled-linear w v small = (
  whole-linear w small,
  tt,
  refl,
  record { constant = record { above = omega (arith, ints); below = omega (arith, ints) }; coefficients = λ u. one_or_none w (eqb v u) small },
)

unit_small : (b : Bool) → IsSmall (cond b (pos 1) (pos 0))
unit_small true = record { above = omega (arith, ints); below = omega (arith, ints) }
unit_small false = record { above = omega (arith, ints); below = omega (arith, ints) }

scaled_and_one : (w : ℕ) (b c : Bool) → w ≤ 2 ^ 20 → IsSmall ((pos w *ℤ cond b (pos 1) (pos 0) +ℤ pos 0 *ℤ pos 0) +ℤ cond c (pos 1) (pos 0))
scaled_and_one w true true small = record { above = omega (arith, ints); below = omega (arith, ints) }
scaled_and_one w true false small = record { above = omega (arith, ints); below = omega (arith, ints) }
scaled_and_one w false true small = record { above = omega (arith, ints); below = omega (arith, ints) }
scaled_and_one w false false small = record { above = omega (arith, ints); below = omega (arith, ints) }

two_units : (b c : Bool) → IsSmall (cond b (pos 1) (pos 0) +ℤ cond c (pos 1) (pos 0))
two_units true true = record { above = omega (arith, ints); below = omega (arith, ints) }
two_units true false = record { above = omega (arith, ints); below = omega (arith, ints) }
two_units false true = record { above = omega (arith, ints); below = omega (arith, ints) }
two_units false false = record { above = omega (arith, ints); below = omega (arith, ints) }

unit_and_none : (b : Bool) → IsSmall (cond b (pos 1) (pos 0) +ℤ pos 0)
unit_and_none true = record { above = omega (arith, ints); below = omega (arith, ints) }
unit_and_none false = record { above = omega (arith, ints); below = omega (arith, ints) }

-- a weight times a variable, and another variable
scaled_and_one-linear : (w v u : ℕ) → w ≤ 2 ^ 20 → IsLinear (plus (times (whole w) (variable v)) (variable u))
scaled_and_one-linear w v u small = (
  scaled-linear w v small,
  tt,
  record { constant = record { above = omega (arith, ints); below = omega (arith, ints) }; coefficients = λ at. scaled_and_one w (eqb v at) (eqb u at) small },
)

-- a variable and a weight
and_whole-linear : (w v : ℕ) → w ≤ 2 ^ 20 → IsLinear (plus (variable v) (whole w))
and_whole-linear w v small = (
  tt,
  whole-linear w small,
  record { constant = record { above = omega (arith, ints); below = omega (arith, ints) }; coefficients = λ at. unit_and_none (eqb v at) },
)

-- a variable and one more than a gap
and_gap-linear : (v gap : ℕ) → IsLinear (plus (variable v) (whole (suc (min gap MAX_LOAD))))
and_gap-linear v gap =
    let small : min gap MAX_LOAD ≤ MAX_LOAD = omega arith in (
      tt,
      record { above = omega (arith, ints); below = omega (arith, ints) },
      record { constant = record { above = omega (arith, ints); below = omega (arith, ints) }; coefficients = λ at. unit_and_none (eqb v at) },
    )

-- a variable and another
two-linear : (v u : ℕ) → IsLinear (plus (variable v) (variable u))
two-linear v u = (
  tt,
  tt,
  record { constant = record { above = omega (arith, ints); below = omega (arith, ints) }; coefficients = λ at. two_units (eqb v at) (eqb u at) },
)

module _ (Q : ExprTree → Type 0) where
  any_of-sides : (cs : List CondTree) → AllByRecursion (EachSide Q) cs → EachSide Q (any_of cs)
  any_of-sides [] sides = tt
  any_of-sides (c ∷ cs) sides = (sides.0, any_of-sides cs sides.1)

  all_of-sides : (cs : List CondTree) → AllByRecursion (EachSide Q) cs → EachSide Q (all_of cs)
  all_of-sides [] sides = tt
  all_of-sides (c ∷ cs) sides = (sides.0, all_of-sides cs sides.1)

  negated-sides : (cs : List CondTree) → AllByRecursion (EachSide Q) cs → AllByRecursion (EachSide Q) (map negated cs)
  negated-sides [] sides = tt
  negated-sides (c ∷ cs) sides = (sides.0, negated-sides cs sides.1)

  pairs_with : (c : CondTree) (cs : List CondTree) → EachSide Q c → AllByRecursion (EachSide Q) cs → AllByRecursion (EachSide Q) (map both_of (map (λ d. (c, d)) cs))
  pairs_with c [] side sides = tt
  pairs_with c (d ∷ cs) side sides = ((side, sides.0), pairs_with c cs side sides.1)

  pairs-sides : (cs : List CondTree) → AllByRecursion (EachSide Q) cs → AllByRecursion (EachSide Q) (map both_of (pairs_of cs))
  pairs-sides [] sides = tt
  pairs-sides (c ∷ cs) sides =
      subst (AllByRecursion (EachSide Q)) (sym (map-append both_of (map (λ d. (c, d)) cs) (pairs_of cs)))
      (AllByRecursion-append (EachSide Q) (map both_of (map (λ d. (c, d)) cs)) (map both_of (pairs_of cs)) (pairs_with c cs sides.0 sides.1) (pairs-sides cs sides.1))

module _ (p : Meaning) (is : IsResolved p) where
  pub guards-linear : (e : Event) (cases : List CaseTree) → All (IsResolvedCase p e) cases → AllByRecursion (EachSide IsLinear) (map (λ (c : CaseTree). c.guard) cases)
  guards-linear e [] each = tt
  guards-linear e (c ∷ cases) each = (
    EachSide-mono (IsResolvedExpr p (handling e)) IsLinear (λ x resolved. resolved.linear) c.guard (each 0 c (omega arith)).guard.sides,
    guards-linear e cases (λ k d inside. each (suc k) d (omega arith)),
  )

  pub filter-linear : EachSide IsLinear p.filter
  filter-linear = EachSide-mono (IsResolvedExpr p filtering) IsLinear (λ x resolved. resolved.linear) p.filter is.filter.sides

  least-small : least_weight p.load ≤ 2 ^ 20
  least-small = let ordered = is.load.ordered in let small = is.load.small in omega arith

  greatest-small : greatest_weight p.load ≤ 2 ^ 20
  greatest-small = let small = is.load.small in omega arith

  load_fits-linear : (nr sum : ℕ) → EachSide IsLinear (load_fits p.load nr sum)
  load_fits-linear nr sum = ((scaled-linear (least_weight p.load) nr least-small, tt), (tt, scaled-linear (greatest_weight p.load) nr greatest-small))

  -- a thread that victim can have queued, over a gap that isn't greater than its weight
  queued-linear : EachSide IsLinear (both (has_thread p.load) gap_is_small)
  queued-linear = (
    (scaled_and_one-linear (least_weight p.load) 2 4 least-small, and_whole-linear (least_weight p.load) 3 least-small),
    (tt, two-linear 1 4),
  )

  pub further-linear : (batch : Option BatchTree) → HasResolvedBatch p batch → EachSide IsLinear (moves_over_small_gap p.load batch)
  further-linear None resolved = tt
  further-linear (Some batch) resolved = (
    ((load_fits-linear 0 1, load_fits-linear 2 3), ((tt, whole-linear 1 (omega arith)), queued-linear)),
    EachSide-mono (IsResolvedExpr p going_on) IsLinear (λ x resolved. resolved.linear) batch.condition resolved.condition.sides,
  )

  pub last-linear : (batch : Option BatchTree) → HasResolvedBatch p batch → EachSide IsLinear (goes_on_to_last p.load batch)
  last-linear None resolved = tt
  last-linear (Some batch) resolved = (
    ((load_fits-linear 0 1, load_fits-linear 2 3), ((tt, whole-linear 1 (omega arith)), ((tt, whole-linear 2 (omega arith)), (tt, whole-linear 2 (omega arith))))),
    EachSide-mono (IsResolvedExpr p going_on) IsLinear (λ x resolved. resolved.linear) batch.condition resolved.condition.sides,
  )

  -- both sides of each comparison of a refutation are linear
  pub refutation-linear : (s : Statement) → EachSide IsLinear (refutation p s)
  refutation-linear idle_sees_overloaded =
      (((load_fits-linear 0 1, load_fits-linear 2 3), ((tt, whole-linear 0 (omega arith)), (tt, whole-linear 2 (omega arith)))), filter-linear)
  refutation-linear victim_is_overloaded =
      (((load_fits-linear 0 1, load_fits-linear 2 3), (tt, whole-linear 1 (omega arith))), filter-linear)
  refutation-linear move_narrows_gap = (((load_fits-linear 0 1, load_fits-linear 2 3), queued-linear), filter-linear)
  refutation-linear further_move_narrows_gap = further-linear p.batch is.batch
  refutation-linear (no_overlap e) =
      any_of-sides IsLinear (map both_of (pairs_of (guards_on p e)))
      (pairs-sides IsLinear (guards_on p e) (guards-linear e (cases_on p.handlers e) (is.handlers e).cases))
  refutation-linear (no_gap e) =
      all_of-sides IsLinear (map negated (guards_on p e))
      (negated-sides IsLinear (guards_on p e) (guards-linear e (cases_on p.handlers e) (is.handlers e).cases))
  refutation-linear filter_leaves_last =
      (((load_fits-linear 0 1, load_fits-linear 2 3), ((tt, whole-linear 2 (omega arith)), (tt, whole-linear 1 (omega arith)))), filter-linear)
  refutation-linear batch_leaves_last = last-linear p.batch is.batch
  refutation-linear (rest_gap gap) = (((load_fits-linear 0 1, load_fits-linear 2 3), (tt, and_gap-linear 1 gap)), filter-linear)
