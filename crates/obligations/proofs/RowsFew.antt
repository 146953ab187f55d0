-- No case of a refutation has more rows than a system takes.
use Rattle.std.proofs.Common.{ℕ, suc, ◌+◌, ◌*◌, ◌≤◌, Bool, true, false, not, List, [], ◌∷◌, ◌++◌, All, length, map, Option, None, Some, sym, subst, arith}
use Rattle.std.specs.List.{AllByRecursion}
use Rattle.std.proofs.lemmas.List.{length-append, length-map, map-append}
use Rattle.policy_tree.specs.declared.trees.Cmp.{Cmp}
use Rattle.policy_tree.specs.declared.trees.Cmp.TheVariants as cmp
use Rattle.policy_tree.specs.declared.typed.Event.{Event}
use Rattle.policy_tree.specs.declared.typed.Load.{Load}
use Rattle.policy_tree.specs.Meaning.{BatchTree, CaseTree, Meaning, cases_on}
use Rattle.policy_tree.specs.Trees.{CondTree, always, negated, both, either, test, minus}
use Rattle.policy_eval.specs.Forms.{comparisons_of}
use Rattle.policy_eval.specs.Obligations.{Statement, idle_sees_overloaded, victim_is_overloaded, move_narrows_gap, further_move_narrows_gap, no_overlap, no_gap, filter_leaves_last, batch_leaves_last, rest_gap}
use Rattle.policy_eval.specs.Resolved.{HasResolvedBatch, IsResolved, IsResolvedCase}
use Rattle.linear_form.specs.declared.form.Row.{Row}
use Rattle.obligations.specs.Cases.{asked, cases_of, cases_of_test, crossed}
use Rattle.obligations.specs.Forms.{LinearForm, form_of}
use Rattle.obligations.specs.Refutations.{all_of, any_of, both_of, busier_beside_two, busy_beside_two, cores_fit, gap_is_small, gap_is_wide, goes_on_to_last, guards_on, has_thread, idle_and_overloaded, moves_over_small_gap, pairs_of, victim_has_one, victim_has_thread}
use Rattle.obligations.specs.Systems.{refuting_cases}
use Rattle.obligations.proofs.Kept.{AllByRecursion-append, AllByRecursion-mono}

-- the case has at most so many rows
abbrev pub IsShort : ℕ → List Row → Type 0
IsShort n rows = length rows ≤ n

longer : (m n : ℕ) → m ≤ n → (cases : List (List Row)) → AllByRecursion (IsShort m) cases → AllByRecursion (IsShort n) cases
longer m n le cases short = AllByRecursion-mono (IsShort m) (IsShort n) (λ rows few. omega (arith, le, few)) cases short

prefixed_short : (m n : ℕ) (rows : List Row) (right : List (List Row)) → length rows ≤ m → AllByRecursion (IsShort n) right → AllByRecursion (IsShort (m + n)) (map (λ more. rows ++ more) right)
prefixed_short m n rows [] few short = tt
prefixed_short m n rows (more ∷ right) few short = (let long = length-append rows more in let others = short.0 in omega arith, prefixed_short m n rows right few short.1)

crossed_short : (m n : ℕ) (left right : List (List Row)) → AllByRecursion (IsShort m) left → AllByRecursion (IsShort n) right → AllByRecursion (IsShort (m + n)) (crossed left right)
crossed_short m n [] right few short = tt
crossed_short m n (rows ∷ left) right few short =
    AllByRecursion-append (IsShort (m + n)) (map (λ more. rows ++ more) right) (crossed left right) (prefixed_short m n rows right few.0 short) (crossed_short m n left right few.1 short)

test_short : (how : Cmp) (d : LinearForm) → AllByRecursion (IsShort 2) (cases_of_test how d)
test_short cmp.Eq d = (omega arith, tt)
test_short cmp.Ne d = (omega arith, (omega arith, tt))
test_short cmp.Lt d = (omega arith, tt)
test_short cmp.Le d = (omega arith, tt)
test_short cmp.Gt d = (omega arith, tt)
test_short cmp.Ge d = (omega arith, tt)

module _ (load : Load) where
  joined_short : (m n : ℕ) (left right : List (List Row)) → AllByRecursion (IsShort (2 * m)) left → AllByRecursion (IsShort (2 * n)) right → AllByRecursion (IsShort (2 * (m + n))) (left ++ right)
  joined_short m n left right few short =
      AllByRecursion-append (IsShort (2 * (m + n))) left right (longer (2 * m) (2 * (m + n)) (omega arith) left few) (longer (2 * n) (2 * (m + n)) (omega arith) right short)

  paired_short : (m n : ℕ) (left right : List (List Row)) → AllByRecursion (IsShort (2 * m)) left → AllByRecursion (IsShort (2 * n)) right → AllByRecursion (IsShort (2 * (m + n))) (crossed left right)
  paired_short m n left right few short = longer (2 * m + 2 * n) (2 * (m + n)) (omega arith) (crossed left right) (crossed_short (2 * m) (2 * n) left right few short)

  -- at most two rows for each comparison
  pub cases_short : (outcome : Bool) (c : CondTree) → AllByRecursion (IsShort (2 * comparisons_of c)) (cases_of load outcome c)
  cases_short true always = (omega arith, tt)
  cases_short false always = tt
  cases_short outcome (negated c) = cases_short (not outcome) c
  cases_short true (both l r) = paired_short (comparisons_of l) (comparisons_of r) (cases_of load true l) (cases_of load true r) (cases_short true l) (cases_short true r)
  cases_short false (both l r) = joined_short (comparisons_of l) (comparisons_of r) (cases_of load false l) (cases_of load false r) (cases_short false l) (cases_short false r)
  cases_short true (either l r) = joined_short (comparisons_of l) (comparisons_of r) (cases_of load true l) (cases_of load true r) (cases_short true l) (cases_short true r)
  cases_short false (either l r) = paired_short (comparisons_of l) (comparisons_of r) (cases_of load false l) (cases_of load false r) (cases_short false l) (cases_short false r)
  cases_short outcome (test how l r) = test_short (asked outcome how) (form_of load (minus l r))

  -- conditions of few comparisons, of which one or all are to hold
  AreFew : List CondTree → Type 0
  AreFew cs = AllByRecursion (λ c. comparisons_of c ≤ 16) cs

  guard_short : (outcome : Bool) (c : CondTree) → comparisons_of c ≤ 16 → AllByRecursion (IsShort 32) (cases_of load outcome c)
  guard_short outcome c few = longer (2 * comparisons_of c) 32 (omega (arith, few)) (cases_of load outcome c) (cases_short outcome c)

  pairs_with_short : (c : CondTree) (cs rest : List CondTree) → comparisons_of c ≤ 16 → AreFew cs
      → AllByRecursion (IsShort 64) (cases_of load true (any_of rest)) → AllByRecursion (IsShort 64) (cases_of load true (any_of (map both_of (map (λ d. (c, d)) cs) ++ rest)))
  unfolding AreFew
  pairs_with_short c [] rest few others short = short
  pairs_with_short c (d ∷ cs) rest few others short =
      AllByRecursion-append (IsShort 64) (cases_of load true (both c d)) (cases_of load true (any_of (map both_of (map (λ e. (c, e)) cs) ++ rest)))
      (crossed_short 32 32 (cases_of load true c) (cases_of load true d) (guard_short true c few) (guard_short true d others.0))
      (pairs_with_short c cs rest few others.1 short)

  pairs_short : (cs : List CondTree) → AreFew cs → AllByRecursion (IsShort 64) (cases_of load true (any_of (map both_of (pairs_of cs))))
  unfolding AreFew
  pairs_short [] few = tt
  pairs_short (c ∷ cs) few =
      subst (λ ds. AllByRecursion (IsShort 64) (cases_of load true (any_of ds))) (sym (map-append both_of (map (λ d. (c, d)) cs) (pairs_of cs)))
      (pairs_with_short c cs (map both_of (pairs_of cs)) few.0 few.1 (pairs_short cs few.1))

  gaps_short : (cs : List CondTree) → AreFew cs → AllByRecursion (IsShort (32 * length cs)) (cases_of load true (all_of (map negated cs)))
  unfolding AreFew
  gaps_short [] few = (omega arith, tt)
  gaps_short (c ∷ cs) few =
      longer (32 + 32 * length cs) (32 * length (c ∷ cs)) (omega arith) (cases_of load true (all_of (map negated (c ∷ cs))))
      (crossed_short 32 (32 * length cs) (cases_of load false c) (cases_of load true (all_of (map negated cs))) (guard_short false c few.0) (gaps_short cs few.1))

module _ (p : Meaning) (is : IsResolved p) where
  guards_few : (e : Event) (cases : List CaseTree) → All (IsResolvedCase p e) cases → AreFew p.load (map (λ (c : CaseTree). c.guard) cases)
  unfolding AreFew
  guards_few e [] each = tt
  guards_few e (c ∷ cases) each = ((each 0 c (omega arith)).guard.few, guards_few e cases (λ k d inside. each (suc k) d (omega arith)))

  -- a premise of few comparisons, and a condition of the policy
  with_condition_short : (premise c : CondTree) (outcome : Bool) → comparisons_of premise ≤ 7 → comparisons_of c ≤ 16
      → AllByRecursion (IsShort 256) (crossed (cases_of p.load true premise) (cases_of p.load outcome c))
  with_condition_short premise c outcome few short =
      longer (14 + 32) 256 (omega arith) (crossed (cases_of p.load true premise) (cases_of p.load outcome c))
      (crossed_short 14 32 (cases_of p.load true premise) (cases_of p.load outcome c)
      (longer (2 * comparisons_of premise) 14 (omega (arith, few)) (cases_of p.load true premise) (cases_short p.load true premise))
      (guard_short p.load outcome c short))

  further_short : (batch : Option BatchTree) → HasResolvedBatch p batch → AllByRecursion (IsShort 256) (cases_of p.load true (moves_over_small_gap p.load batch))
  further_short None resolved = tt
  further_short (Some batch) resolved =
      with_condition_short (both (cores_fit p.load) (both victim_has_thread (both (has_thread p.load) gap_is_small))) batch.condition true (omega arith) resolved.condition.few

  last_short : (batch : Option BatchTree) → HasResolvedBatch p batch → AllByRecursion (IsShort 256) (cases_of p.load true (goes_on_to_last p.load batch))
  last_short None resolved = tt
  last_short (Some batch) resolved = with_condition_short (both (cores_fit p.load) busier_beside_two) batch.condition true (omega arith) resolved.condition.few

  pub refuting_cases_short : (s : Statement) → AllByRecursion (IsShort 256) (refuting_cases p s)
  refuting_cases_short idle_sees_overloaded = with_condition_short (both (cores_fit p.load) idle_and_overloaded) p.filter false (omega arith) is.filter.few
  refuting_cases_short victim_is_overloaded = with_condition_short (both (cores_fit p.load) victim_has_one) p.filter true (omega arith) is.filter.few
  refuting_cases_short move_narrows_gap = with_condition_short (both (cores_fit p.load) (both (has_thread p.load) gap_is_small)) p.filter true (omega arith) is.filter.few
  refuting_cases_short further_move_narrows_gap = further_short p.batch is.batch
  refuting_cases_short (no_overlap e) =
      longer 64 256 (omega arith) (refuting_cases p (no_overlap e)) (pairs_short p.load (guards_on p e) (guards_few e (cases_on p.handlers e) (is.handlers e).cases))
  refuting_cases_short (no_gap e) =
      let few = (is.handlers e).few in let long = length-map (cases_on p.handlers e) (λ (c : CaseTree). c.guard) in
      longer (32 * length (guards_on p e)) 256 (omega (arith, few, long)) (refuting_cases p (no_gap e))
      (gaps_short p.load (guards_on p e) (guards_few e (cases_on p.handlers e) (is.handlers e).cases))
  refuting_cases_short filter_leaves_last = with_condition_short (both (cores_fit p.load) busy_beside_two) p.filter true (omega arith) is.filter.few
  refuting_cases_short batch_leaves_last = last_short p.batch is.batch
  refuting_cases_short (rest_gap gap) = with_condition_short (both (cores_fit p.load) (gap_is_wide gap)) p.filter false (omega arith) is.filter.few
