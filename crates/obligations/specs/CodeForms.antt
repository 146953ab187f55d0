-- Linear forms as the code has them: a constant and a coefficient for each variable. This serves the code alone.
use Rattle.std.specs.Prelude.{◌≡◌, ℕ, ◌^◌, ◌<◌, ◌≤◌, pos, slice_index_or, unsigned_abs, cond, Option, Some, None}
use Rattle.policy_tree.specs.declared.typed.Load.{Load}
use Rattle.policy_eval.specs.Ranges.{least_weight}
use Rattle.sched_base.specs.declared.limits.TheConstants.{MAX_VARIABLES}
use Rattle.sched_base.specs.declared.limits.TheConstants.{MAX_ROW_COEFFICIENT, MAX_ROW_BOUND}
use Rattle.obligations.specs.declared.forms.Form.{Form}
use Rattle.obligations.specs.Forms.{LinearForm, weighs_one}

-- the form that the code has
abbrev pub form_seen : Form → LinearForm
form_seen form = record { constant = form.constant; coefficient = λ v. slice_index_or form.coefficients v (pos 0) }

-- it is that form, as far as there are variables
pub record IsForm (form : Form) (d : LinearForm) : Type 0 where
  pub constant : form.constant ≡ d.constant
  pub coefficients : (v : ℕ) → v < MAX_VARIABLES → slice_index_or form.coefficients v (pos 0) ≡ d.coefficient v

-- its numbers fit a row, whatever the sign
pub record FitsRow (d : LinearForm) : Type 0 where
  pub constant : unsigned_abs d.constant < MAX_ROW_BOUND
  pub coefficients : (v : ℕ) → v < MAX_VARIABLES → unsigned_abs (d.coefficient v) ≤ MAX_ROW_COEFFICIENT

-- its numbers are differences of small ones
pub record IsDifferenceForm (d : LinearForm) : Type 0 where
  pub constant : unsigned_abs d.constant ≤ 2 ^ 41
  pub coefficients : (v : ℕ) → v < MAX_VARIABLES → unsigned_abs (d.coefficient v) ≤ 2 ^ 41

-- what all threads weigh, if they weigh the same
abbrev pub only_weight : Load → Option ℕ
only_weight load = cond (weighs_one load) (Some (least_weight load)) None
