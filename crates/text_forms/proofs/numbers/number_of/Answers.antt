-- A number of so many digits stays below the power of ten.
use Rattle.std.proofs.Common.{◌≤◌, ◌^◌, arith, lit<}
use Rattle.std.proofs.Math.Nat.{pow-le-pow_right}
use Rattle.text_forms.proofs.numbers.number_of.Goals as goal

pub overflow_mul-number : goal.overflow_mul-number
overflow_mul-number c =
    let few : c.loop-digit.digit-index ≤ 18 = omega arith in
    let room : 10 ^ c.loop-digit.digit-index ≤ 10 ^ 18 = pow-le-pow_right (lit< tt) few in omega arith

pub overflow_add-number : goal.overflow_add-number
overflow_add-number c =
    let few : c.loop-digit.digit-index ≤ 18 = omega arith in
    let room : 10 ^ c.loop-digit.digit-index ≤ 10 ^ 18 = pow-le-pow_right (lit< tt) few in omega arith
