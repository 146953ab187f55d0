use Rattle.std.proofs.Common.{◌∙◌, subst, sym, arith}
use Rattle.std.proofs.lemmas.Int.{ints}
use Rattle.linear_cert.specs.Right.{IsRightLeaf}
use Rattle.linear_solver.proofs.RightLeaves.{contradiction_leaf}
use Rattle.linear_solver.proofs.closing.shut_leaf.Goals as goal

pub returns : goal.returns
returns c =
    let bounds = c.args.bounds.now in
    let rows = c.args.rows.now in
    let sum = c.loop-variable.invariant in
    let leaf = rw c.as_slice-2.ensures.items at c.in_ok-leaf_of.ensures in
    let none = rw c.as_slice.ensures.items at (sym c.has_no_term.ensures ∙ c.if-not-has_no_term.false) in
    subst (IsRightLeaf bounds rows) (sym leaf) (contradiction_leaf bounds rows c.requires.system c.loop-variable.sum sum.follows sum.in_range.small (none, omega (arith, ints)))
