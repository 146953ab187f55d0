-- The conjunctive cases of a condition: it has an outcome exactly where all rows of one of its cases hold. The
-- variables of the rows are those of the policy.
use Rattle.std.specs.Prelude.{pos, negsuc, Bool, true, false, not, List, [], ◌∷◌, ◌++◌, map}
use Rattle.policy_tree.specs.declared.trees.Cmp.{Cmp}
use Rattle.policy_tree.specs.declared.trees.Cmp.TheVariants as cmp
use Rattle.policy_tree.specs.declared.typed.Load.{Load}
use Rattle.policy_tree.specs.Trees.{CondTree, always, negated, both, either, test, minus}
use Rattle.linear_form.specs.declared.form.Row.{Row}
use Rattle.obligations.specs.Forms.{LinearForm, at_most, form_of, opposite}

-- the comparison that fails where this one holds
abbrev pub complement : Cmp → Cmp
complement cmp.Eq = cmp.Ne
complement cmp.Ne = cmp.Eq
complement cmp.Lt = cmp.Ge
complement cmp.Le = cmp.Gt
complement cmp.Gt = cmp.Le
complement cmp.Ge = cmp.Lt

-- the comparison of which the outcome is asked, as one that is to hold
abbrev pub asked : Bool → Cmp → Cmp
asked true how = how
asked false how = complement how

-- the difference is at most 0, or less than 0. Whole numbers less than 0 are at most -1
abbrev pub not_above : LinearForm → Row
not_above difference = at_most difference (pos 0)

abbrev pub below : LinearForm → Row
below difference = at_most difference (negsuc 0)

-- the cases of a comparison by the form of its difference: `!=` has two, of one row each, and `==` one of two rows
abbrev pub cases_of_test : Cmp → LinearForm → List (List Row)
cases_of_test cmp.Le d = (not_above d ∷ []) ∷ []
cases_of_test cmp.Lt d = (below d ∷ []) ∷ []
cases_of_test cmp.Ge d = (not_above (opposite d) ∷ []) ∷ []
cases_of_test cmp.Gt d = (below (opposite d) ∷ []) ∷ []
cases_of_test cmp.Eq d = (not_above d ∷ not_above (opposite d) ∷ []) ∷ []
cases_of_test cmp.Ne d = (below d ∷ []) ∷ (below (opposite d) ∷ []) ∷ []

-- each case of the left side with each of the right side, the left side's order first, the left side's rows first
abbrev pub crossed : List (List Row) → List (List Row) → List (List Row)
crossed [] right = []
crossed (rows ∷ left) right = map (λ more. rows ++ more) right ++ crossed left right

-- the cases in which the condition holds, or those in which it doesn't
abbrev pub cases_of : Load → Bool → CondTree → List (List Row)
cases_of load true always = [] ∷ []
cases_of load false always = []
cases_of load outcome (negated c) = cases_of load (not outcome) c
cases_of load true (both l r) = crossed (cases_of load true l) (cases_of load true r)
cases_of load false (both l r) = cases_of load false l ++ cases_of load false r
cases_of load true (either l r) = cases_of load true l ++ cases_of load true r
cases_of load false (either l r) = crossed (cases_of load false l) (cases_of load false r)
cases_of load outcome (test how l r) = cases_of_test (asked outcome how) (form_of load (minus l r))
