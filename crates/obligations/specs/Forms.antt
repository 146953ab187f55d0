-- The linear form of a comparison's difference, and the rows that it gives.
use Rattle.std.specs.Prelude.{ℕ, zero, suc, ◌==◌, ℤ, pos, neg_ℤ, ◌+ℤ◌, ◌-ℤ◌, ◌*ℤ◌, Bool, cond, List, [], ◌∷◌, ◌++◌}
use Rattle.std.specs.Ordering.{int_eq}
use Rattle.sched_base.specs.declared.limits.TheConstants.{MAX_VARIABLES}
use Rattle.policy_tree.specs.declared.typed.Load.{Load}
use Rattle.policy_tree.specs.Trees.{ExprTree}
use Rattle.policy_eval.specs.Forms.{coefficient_of, constant_of}
use Rattle.policy_eval.specs.Ranges.{greatest_weight, least_weight}
use Rattle.linear_form.specs.declared.form.Term.{Term}
use Rattle.linear_form.specs.declared.form.Row.{Row}
use Rattle.policy_tree.specs.declared.variables.TheConstants.{WEIGHT}

-- a constant, and a coefficient for each variable by its number
pub record LinearForm : Type 0 where
  pub constant : ℤ
  pub coefficient : ℕ → ℤ

-- all threads weigh the same
abbrev pub weighs_one : Load → Bool
weighs_one load = least_weight load == greatest_weight load

-- the form with the number in place of the thread's weight
abbrev pub at_weight : ℕ → LinearForm → LinearForm
at_weight weight form = record {
  constant = form.constant +ℤ form.coefficient WEIGHT *ℤ pos weight;
  coefficient = λ v. cond (v == WEIGHT) (pos 0) (form.coefficient v);
}

-- the form of the expression as it stands
abbrev pub plain_form : ExprTree → LinearForm
plain_form e = record { constant = constant_of e; coefficient = coefficient_of e }

-- the form of the expression; the weight of a thread is a number where all threads weigh the same
abbrev pub form_of : Load → ExprTree → LinearForm
form_of load e = cond (weighs_one load) (at_weight (least_weight load) (plain_form e)) (plain_form e)

-- the form with the other sign
abbrev pub opposite : LinearForm → LinearForm
opposite form = record { constant = neg_ℤ form.constant; coefficient = λ v. neg_ℤ (form.coefficient v) }

-- the term of a variable, none where its coefficient is 0
abbrev pub term_of : ℕ → ℤ → List Term
term_of v x = cond (int_eq x (pos 0)) [] (record { var = v; coef = x } ∷ [])

-- the terms of the variables below that number, in the order of their numbers
abbrev pub terms_below : (ℕ → ℤ) → ℕ → List Term
terms_below coefficient zero = []
terms_below coefficient (suc v) = terms_below coefficient v ++ term_of v (coefficient v)

-- the form is at most that number: its constant is moved to the bound
unfoldable pub at_most : LinearForm → ℤ → Row
at_most form most = record { terms = terms_below form.coefficient MAX_VARIABLES; bound = most -ℤ form.constant }
