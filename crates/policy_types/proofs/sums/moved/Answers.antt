-- A number too great for 64 bits is far from any small one.
use Rattle.std.proofs.Common.{◌≡◌, ◌≤◌, ◌<◌, ◌^◌, ◌+ℤ◌, unsigned_abs, sym, ◌∙◌, arith, subst, ℕ, Option}
use Rattle.std.proofs.lemmas.Int.{ints}
use Rattle.std.proofs.lemmas.Bool.{leb-true}
use Rattle.std.proofs.lemmas.Bool.Decides.{leb_tells}
use Rattle.policy_types.specs.Products.{IsSize, with_sign}
use Rattle.policy_types.proofs.Small.{abs-with_sign, small_abs}
use Rattle.policy_types.proofs.sums.moved.Goals as goal

pub returns-in-None : goal.returns-in-None
returns-in-None c = λ n few size.
    let x = with_sign c.args.negative n in
    let great : 2 ^ 64 ≤ n = subst (λ (o : Option ℕ). IsSize o n) c.in-None.is size in
    let far : unsigned_abs x ≡ n = abs-with_sign c.args.negative n in
    let near : unsigned_abs c.args.from ≤ 1099511627776 = leb-true (unsigned_abs c.args.from) 1099511627776 (sym (small_abs c.args.from) ∙ few) in
    let sum : 1099511627776 < unsigned_abs (c.args.from +ℤ x) = omega (arith, ints) in
    small_abs (c.args.from +ℤ x) ∙ grind (arith, leb_tells)
