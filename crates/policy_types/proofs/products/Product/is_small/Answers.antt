-- The magnitude is that of the number.
use Rattle.std.proofs.Common.{◌≡◌, ℕ, ◌^◌, ◌≤◌, leb, Bool, false, sym, ap, ◌∙◌, arith, subst, Option, Some, None}
use Rattle.std.proofs.lemmas.Bool.Decides.{leb_tells}
use Rattle.policy_types.specs.Forms.{is_small}
use Rattle.policy_types.specs.Products.{IsSize, with_sign}
use Rattle.policy_types.proofs.Small.{abs-with_sign, single_same, small_abs}
use Rattle.policy_types.proofs.products.Product.is_small.Goals as goal

size_small : (negative : Bool) (size : Option ℕ) (n s : ℕ) → size ≡ Some s → IsSize size n → is_small (with_sign negative n) ≡ leb s 1099511627776
size_small negative size n s told is =
    small_abs (with_sign negative n)
    ∙ ap (λ m. leb m 1099511627776) (abs-with_sign negative n ∙ sym (subst (λ (o : Option ℕ). IsSize o n) told is))

size_big : (negative : Bool) (size : Option ℕ) (n : ℕ) → size ≡ None → IsSize size n → is_small (with_sign negative n) ≡ false
size_big negative size n told is =
    let great : 2 ^ 64 ≤ n = subst (λ (o : Option ℕ). IsSize o n) told is in
    small_abs (with_sign negative n) ∙ (ap (λ m. leb m 1099511627776) (abs-with_sign negative n) ∙ grind (arith, leb_tells))

pub returns-in-Some : goal.returns-in-Some
returns-in-Some c = λ e is.
    single_same c.args.self.variable (with_sign c.args.self.negative is.exact) e c.requires is.single (leb c.in-Some.size 1099511627776)
    (size_small c.args.self.negative c.args.self.size is.exact c.in-Some.size c.in-Some.is is.size)

pub returns-in-None : goal.returns-in-None
returns-in-None c = λ e is.
    single_same c.args.self.variable (with_sign c.args.self.negative is.exact) e c.requires is.single false
    (size_big c.args.self.negative c.args.self.size is.exact c.in-None.is is.size)
