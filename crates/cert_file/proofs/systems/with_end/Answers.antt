-- Behind the last certificate one may be missing.
use Rattle.std.proofs.Common.{ℕ, Option, subst, arith}
use Rattle.cert_file.specs.Reading.{IsFoundSoFar}
use Rattle.cert_file.proofs.Places.{found_all, found_missing, found_whole}
use Rattle.cert_file.proofs.systems.with_end.Goals as goal

pub returns-in-Some : goal.returns-in-Some
returns-in-Some c = λ trees count found.
    found_whole c.args.systems.now trees c.in-Some.first (subst (λ (w : Option ℕ). IsFoundSoFar c.args.systems.now trees w) c.in-Some.is found)

pub returns-then-count-systems : goal.returns-then-count-systems
returns-then-count-systems c = λ trees count found.
    found_missing c.args.systems.now trees c.args.count count (subst (λ (w : Option ℕ). IsFoundSoFar c.args.systems.now trees w) c.in-None.is found) c.if-count-systems.true

pub returns-else-count-systems : goal.returns-else-count-systems
returns-else-count-systems c = λ trees count found.
    found_all c.args.systems.now trees (subst (λ (w : Option ℕ). IsFoundSoFar c.args.systems.now trees w) c.in-None.is found) (omega (arith, c.if-count-systems.false, count))
