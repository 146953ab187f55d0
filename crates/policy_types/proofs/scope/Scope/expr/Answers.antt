-- A sign or a term is added to what is read.
use Rattle.std.proofs.Common.{◌≡◌, ap, ◌∙◌, arith}
use Rattle.std.proofs.lemmas.Result.{err_from_is_err_and}
use Rattle.policy_tree.specs.Trees.{expr_tree}
use Rattle.policy_types.specs.Expressions.{expr_faults, expr_meaning, joined, term_meaning}
use Rattle.policy_types.proofs.SumsRead.{meaning_on, sum_on, term_second}
use Rattle.policy_types.proofs.scope.Scope.expr.Goals as goal

pub returns-in_err-right-clause-fault : goal.returns-in_err-right-clause-fault
returns-in_err-right-clause-fault c =
    let p = err_from_is_err_and c.from_residual-in_err-right.result c.from_residual-in_err-right.ensures.1 in
    let loop = c.loop-added in let left = expr_tree loop.left in
    rw (p.1, p.2)
    (term_second c.args.self.now c.args.site left c.as_slice-rest.result.now loop.added-index c.added-item.result (omega arith) c.added-item.is
    (expr_faults c.args.self.now c.args.site c.args.expr.now) c.in_err-right.field-0.0 loop.invariant.faults
    (c.in_ok-form.ensures.sound left loop.invariant.is)
    c.in_err-right.ensures.fault)

pub loop-added-preserved : goal.loop-added-preserved
loop-added-preserved c =
    let loop = c.loop-added in let left = expr_tree loop.left in let x = c.added-item.result in let s = c.args.self.now in
    let tree : expr_tree c.in_ok-left-2.left ≡ joined x.minus left (term_meaning s x.term) =
    c.in_ok-left-2.ensures ∙ ap (joined x.minus left) c.in_ok-right.ensures.tree in
    record {
      tree = rw tree (meaning_on s c.args.site left c.as_slice-rest.result.now loop.added-index x (omega arith) c.added-item.is
          (expr_meaning s c.args.expr.now) loop.invariant.tree);
      faults = rw tree (sum_on s c.args.site left c.as_slice-rest.result.now loop.added-index x (omega arith) c.added-item.is
          (expr_faults s c.args.site c.args.expr.now) loop.invariant.faults (c.in_ok-form.ensures.sound left loop.invariant.is) c.in_ok-right.ensures.sound);
      is = rw tree (c.in_ok-form.ensures.is left loop.invariant.is c.in_ok-right.ensures.form.single.form);
    }
