use Rattle.std.proofs.Common.{arith, ap, length}
use Rattle.linear_form.proofs.Sizes.{terms_few}
use Rattle.linear_solver.proofs.leaf.row_leaf.Goals as goal

pub push-requires-in-loop-term : goal.push-requires-in-loop-term
push-requires-in-loop-term c =
    let few = terms_few 30 _ (c.requires.rows c.args.number c.index-rows-number.result c.requires.known) in
    omega (arith, few, ap length c.as_slice-terms.ensures.items)
