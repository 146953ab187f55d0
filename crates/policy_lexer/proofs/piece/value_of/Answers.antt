use Rattle.std.proofs.Common.{◌∙◌, ap, arith, sym}
use Rattle.std.proofs.Common.{drop, ◌+◌, get_or}
use Rattle.policy_lexer.specs.Bytes.{number_behind}
use Rattle.policy_lexer.proofs.Numbers.{digit_value-is, number-next, number-passes, number-ends}
use Rattle.policy_lexer.proofs.piece.value_of.Goals as goal

pub returns-in_err-checked_mul : goal.returns-in_err-checked_mul
returns-in_err-checked_mul c =
    rw c.from_residual.ensures (λ fits. c.in_err-checked_mul.ensures
    (omega (arith, fits, number-passes _ _ _ c.loop-digit-test.true c.loop-digit.invariant.reads)))

pub returns-in_err-value : goal.returns-in_err-value
returns-in_err-value c =
    let is = digit_value-is (get_or c.args.digits.now c.loop-digit.digit-index 0) (c.requires c.loop-digit.digit-index 0 c.loop-digit-test.true) in
    rw c.from_residual-in_err-value.ensures (λ fits. c.in_err-value.ensures
    (omega (
      arith,
      fits,
      is.2,
      c.from.ensures,
      c.in_ok-checked_mul.ensures,
      number-passes _ _ _ c.loop-digit-test.true c.loop-digit.invariant.reads,
    )))

pub loop-digit-preserved : goal.loop-digit-preserved
loop-digit-preserved c =
    let is = digit_value-is (get_or c.args.digits.now c.loop-digit.digit-index 0) (c.requires c.loop-digit.digit-index 0 c.loop-digit-test.true) in
    record {
      reads = number-next _ _ _ c.loop-digit-test.true c.loop-digit.invariant.reads
          ∙ ap (λ value. number_behind value (drop (c.loop-digit.digit-index + 1) c.args.digits.now))
          (omega (arith, is.2, c.from.ensures, c.in_ok-checked_mul.ensures, c.in_ok-value.ensures));
      fits = omega (arith, c.in_ok-value.ensures);
    }

pub returns : goal.returns
returns c =
    let value = number-ends _ _ _ c.loop-digit-test.false c.loop-digit.invariant.reads in
    (omega (arith, value, c.loop-digit.invariant.fits), sym value)
