use Rattle.std.proofs.Common.{◌-ℤ◌, arith, ◌∙◌, length-set}
use Rattle.policy_tree.specs.Trees.{expr_tree, minus}
use Rattle.policy_eval.specs.Forms.{coefficient_of}
use Rattle.obligations.specs.Forms.{plain_form}
use Rattle.obligations.proofs.Fitting.{plain-small, seen-small}
use Rattle.obligations.proofs.Products.{set_more, stored_difference}
use Rattle.obligations.proofs.forms.plain_form.Goals as goal

pub loop-variable-preserved : goal.loop-variable-preserved
loop-variable-preserved c =
    let left = c.coefficient in let right = c.coefficient-in-loop-variable in
    let long = c.loop-variable.invariant.long in let lt = c.loop-variable-test.true in
    record {
      each = set_more c.loop-variable.coefficients c.loop-variable.variable _
          (λ v. coefficient_of (expr_tree c.args.left.now) v -ℤ coefficient_of (expr_tree c.args.right.now) v) (omega (arith, long, lt))
          c.loop-variable.invariant.each
          (stored_difference left.result right.result _ _ left.ensures.small right.ensures.small left.ensures.value right.ensures.value);
      long = length-set _ _ _ ∙ long;
    }

pub returns-clause-form : goal.returns-clause-form
returns-clause-form c =
    let past = c.loop-variable-test.false in
    record {
      constant = stored_difference c.constant.result c.constant-2.result _ _ c.constant.ensures.small c.constant-2.ensures.small c.constant.ensures.value c.constant-2.ensures.value;
      coefficients = λ v lt. c.loop-variable.invariant.each v (omega (arith, past, lt));
    }

pub returns-clause-small : goal.returns-clause-small
returns-clause-small c =
    let left = expr_tree c.args.left.now in let right = expr_tree c.args.right.now in
    seen-small _ (plain_form (minus left right)) (returns-clause-form c) (plain-small left right c.requires.left c.requires.right)
