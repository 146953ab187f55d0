use Rattle.std.proofs.Common.{arith}
use Rattle.std.proofs.lemmas.Nat.Gcd.{IsGcd-from_mod, IsGcd-from_zero}
use Rattle.linear_solver.proofs.Divisors.{gcd_is}
use Rattle.linear_solver.proofs.factors.gcd.Goals as goal

pub loop-less-preserved : goal.loop-less-preserved
loop-less-preserved c = record {
  positive = omega arith;
  divisors = λ g is. c.loop-less.invariant.divisors g (IsGcd-from_mod c.loop-less.greater c.loop-less.less g is);
}

pub returns-clause-value : goal.returns-clause-value
returns-clause-value c =
    let greater = c.loop-less.greater in
    gcd_is _ _ greater (c.loop-less.invariant.divisors greater (IsGcd-from_zero greater c.loop-less.less (omega arith))) c.loop-less.invariant.positive c.requires.a
