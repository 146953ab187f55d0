-- A term is joined to nothing.
use Rattle.std.proofs.Common.{pos}
use Rattle.policy_tree.specs.Trees.{number}
use Rattle.policy_types.specs.Products.{with_sign}
use Rattle.policy_types.proofs.Moves.{moved_single, nothing_form}
use Rattle.policy_types.proofs.sums.Form.of_product.Goals as goal

pub returns : goal.returns
returns c = λ e is.
    c.moved.ensures (number (pos 0)) e is.exact nothing_form is.size
    (moved_single c.args.product.variable (with_sign c.args.product.negative is.exact) e is.single)
