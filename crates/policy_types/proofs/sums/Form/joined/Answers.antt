-- A term is joined to the sum.
use Rattle.policy_types.proofs.Moves.{moved_joined}
use Rattle.policy_types.specs.Expressions.{joined}
use Rattle.policy_types.proofs.sums.Form.joined.Goals as goal

pub returns : goal.returns
returns c = λ l r left right.
    c.moved.ensures l (joined c.args.minus l r) right.exact left right.size
    (moved_joined c.args.product.variable c.args.product.negative c.args.minus right.exact l r left.form right.single)
