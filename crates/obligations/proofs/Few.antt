-- Where no obligation is crowded, each has few cases.
use Rattle.std.proofs.Common.{◌≡◌, ℕ, zero, suc, ◌<◌, ◌≤◌, nat_lt, Bool, true, false, cond, List, [], ◌∷◌, length, get_or, Option, Some, None, refl, arith}
use Rattle.std.proofs.lemmas.Bool.{ltb-false}
use Rattle.sched_base.specs.declared.limits.TheConstants.{MAX_SYSTEM_CASES}
use Rattle.policy_tree.specs.Meaning.{BatchTree, Meaning}
use Rattle.obligations.specs.declared.names.ObName.{ObName}
use Rattle.obligations.specs.declared.names.ObName.TheVariants as name
use Rattle.obligations.specs.Counts.{case_count, count_of, first_crowded}
use Rattle.obligations.specs.Names.{ob_names, statement_of}
use Rattle.obligations.specs.Refutations.{goes_on_to_last, moves_over_small_gap}

-- a test that finds nothing was not met, and nothing is found behind it
none_behind : {X : Type 0} (b : Bool) (found : X) (rest : Option X) → cond b (Some found) rest ≡ None → rest ≡ None
none_behind true found rest none = absurd (let clash : ⊥ = cc in clash)
none_behind false found rest none = none

first_few : {X : Type 0} (count : ℕ) (found : X) (rest : Option X) → cond (nat_lt MAX_SYSTEM_CASES count) (Some found) rest ≡ None → count ≤ MAX_SYSTEM_CASES
first_few count found rest none = by (nat_lt MAX_SYSTEM_CASES count) refl none
  where
    by : (b : Bool) → nat_lt MAX_SYSTEM_CASES count ≡ b → cond b (Some found) rest ≡ None → count ≤ MAX_SYSTEM_CASES
    by true e none = absurd (let clash : ⊥ = cc in clash)
    by false e none = ltb-false MAX_SYSTEM_CASES count e

few_below : (p : Meaning) (names : List ObName) (k : ℕ) (d : ObName) → k < length names → first_crowded p names ≡ None → case_count p (statement_of (get_or names k d)) ≤ MAX_SYSTEM_CASES
few_below p [] k d lt none = absurd (omega arith)
few_below p (first ∷ names) zero d lt none = first_few (case_count p (statement_of first)) _ _ none
few_below p (first ∷ names) (suc k) d lt none = few_below p names k d (omega arith) (none_behind (nat_lt MAX_SYSTEM_CASES (case_count p (statement_of first))) _ _ none)

pub few_cases : (p : Meaning) (name : ObName) → first_crowded p ob_names ≡ None → case_count p (statement_of name) ≤ MAX_SYSTEM_CASES
unfolding ob_names
few_cases p name.B1 none = few_below p ob_names 0 name.B1 (omega arith) none
few_cases p name.B2 none = few_below p ob_names 1 name.B2 (omega arith) none
few_cases p name.B3 none = few_below p ob_names 2 name.B3 (omega arith) none
few_cases p name.B4 none = few_below p ob_names 3 name.B4 (omega arith) none
few_cases p name.H1Enqueue none = few_below p ob_names 4 name.H1Enqueue (omega arith) none
few_cases p name.H2Enqueue none = few_below p ob_names 5 name.H2Enqueue (omega arith) none
few_cases p name.H1Tick none = few_below p ob_names 6 name.H1Tick (omega arith) none
few_cases p name.H2Tick none = few_below p ob_names 7 name.H2Tick (omega arith) none
few_cases p name.H1Yield none = few_below p ob_names 8 name.H1Yield (omega arith) none
few_cases p name.H2Yield none = few_below p ob_names 9 name.H2Yield (omega arith) none
few_cases p name.H1Block none = few_below p ob_names 10 name.H1Block (omega arith) none
few_cases p name.H2Block none = few_below p ob_names 11 name.H2Block (omega arith) none

-- a batch that goes on in few cases goes on to the last waiting thread in few
pub few_moves : (p : Meaning) (batch : Option BatchTree) → count_of true (moves_over_small_gap p.load batch) ≤ MAX_SYSTEM_CASES
    → count_of true (goes_on_to_last p.load batch) ≤ MAX_SYSTEM_CASES
few_moves p None few = few
few_moves p (Some batch) few = few
