-- How many conjunctive cases there are, which is known before one of them is made.
use Rattle.std.specs.Prelude.{ℕ, ◌+◌, ◌*◌, min, nat_lt, Bool, true, false, not, cond, List, [], ◌∷◌, Option, Some, None}
use Rattle.sched_base.specs.declared.limits.TheConstants.{MAX_SYSTEM_CASES}
use Rattle.policy_tree.specs.declared.trees.Cmp.{Cmp}
use Rattle.policy_tree.specs.declared.trees.Cmp.TheVariants as cmp
use Rattle.policy_tree.specs.Meaning.{Meaning}
use Rattle.policy_tree.specs.Trees.{CondTree, always, negated, both, either, test}
use Rattle.policy_eval.specs.Obligations.{Statement}
use Rattle.obligations.specs.declared.counts.TheConstants.{MAX_COUNT}
use Rattle.obligations.specs.declared.names.ObName.{ObName}
use Rattle.obligations.specs.Cases.{asked}
use Rattle.obligations.specs.Names.{statement_of}
use Rattle.obligations.specs.Refutations.{refutation}

-- a comparison counts 1, and `!=` counts 2
abbrev pub count_of_test : Cmp → ℕ
count_of_test cmp.Eq = 1
count_of_test cmp.Ne = 2
count_of_test cmp.Lt = 1
count_of_test cmp.Le = 1
count_of_test cmp.Gt = 1
count_of_test cmp.Ge = 1

-- the number of cases in which the condition holds, or of those in which it doesn't, `not` being pushed to the
-- comparisons: what stands for both multiplies, and what stands for either adds
abbrev pub count_of : Bool → CondTree → ℕ
count_of true always = 1
count_of false always = 0
count_of outcome (negated c) = count_of (not outcome) c
count_of true (both l r) = count_of true l * count_of true r
count_of false (both l r) = count_of false l + count_of false r
count_of true (either l r) = count_of true l + count_of true r
count_of false (either l r) = count_of false l * count_of false r
count_of outcome (test how l r) = count_of_test (asked outcome how)

-- the count as it is reported: past the greatest it is the greatest
abbrev pub reported : ℕ → ℕ
reported count = min count MAX_COUNT

-- the number of cases of an obligation of the policy
abbrev pub case_count : Meaning → Statement → ℕ
case_count p s = count_of true (refutation p s)

-- the first of the obligations that has too many cases, and how many are reported of it
abbrev pub first_crowded : Meaning → List ObName → Option (ObName × ℕ)
first_crowded p [] = None
first_crowded p (name ∷ names) =
    cond (nat_lt MAX_SYSTEM_CASES (case_count p (statement_of name)))
    (Some (name, reported (case_count p (statement_of name))))
    (first_crowded p names)
