-- At most one factor has a variable.
use Rattle.std.proofs.Common.{◌≡◌, ℕ, Option, Some, sym, subst, ap}
use Rattle.policy_types.specs.Products.{IsScaledBy}
use Rattle.policy_types.proofs.Singles.{apart_left, apart_right, chosen, product_times}
use Rattle.policy_types.proofs.products.Product.times.Goals as goal

pub returns-in-Some-None-clause-is : goal.returns-in-Some-None-clause-is
returns-in-Some-None-clause-is c = λ l r left right.
    let p = c.args.self in let q = c.args.other in let arm = c.in-Some-None in
    let same : Some arm.at ≡ chosen p.variable q.variable = ap (λ (o : Option ℕ). chosen o q.variable) (sym arm.is-0) in
    product_times p q c.scaled.result l r (subst (λ (o : Option ℕ). IsScaledBy p q o c.scaled.result) same c.scaled.ensures)
    (apart_right p.variable q.variable arm.is-1) left right

pub returns-in-None-default-clause-is : goal.returns-in-None-default-clause-is
returns-in-None-default-clause-is c = λ l r left right.
    let p = c.args.self in let q = c.args.other in let arm = c.in-None-default in let product = c.scaled-in-None-default in
    let same : q.variable ≡ chosen p.variable q.variable = ap (λ (o : Option ℕ). chosen o q.variable) (sym arm.is-0) in
    product_times p q product.result l r (subst (λ (o : Option ℕ). IsScaledBy p q o product.result) same product.ensures)
    (apart_left p.variable q.variable arm.is-0) left right
