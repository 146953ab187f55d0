use Rattle.std.proofs.Common.{◌≡◌, ◌+ℤ◌, sym, ◌∙◌, refl, arith, false, true, int_lt}
use Rattle.difference_solver.specs.Distance.{joined}
use Rattle.difference_solver.specs.Distances.{between}
use Rattle.difference_solver.specs.Passing.{IsSmall}
use Rattle.difference_solver.proofs.Steps.{sum_fits, over_middle, puts_nothing}
use Rattle.difference_solver.proofs.closing.pass_between.Goals as goal

pub are_less-requires : goal.are_less-requires
are_less-requires c =
    let first : IsSmall c.get-first.result.now = rw c.get-first.ensures (c.requires.small c.args.from c.requires.from).0 in
    let second : IsSmall c.get-second.result.now = rw c.get-second.ensures (c.requires.small c.args.to c.requires.to).1 in
    sum_fits _ _ first second

pub joined-requires-clause-fits : goal.joined-requires-clause-fits
joined-requires-clause-fits c =
    let first : IsSmall c.get-first.result.now = rw c.get-first.ensures (c.requires.small c.args.from c.requires.from).0 in
    let second : IsSmall c.get-second.result.now = rw c.get-second.ensures (c.requires.small c.args.to c.requires.to).1 in
    sum_fits _ _ first second

pub joined-requires-clause-short : goal.joined-requires-clause-short
joined-requires-clause-short c =
    let first : IsSmall c.get-first.result.now = rw c.get-first.ensures (c.requires.small c.args.from c.requires.from).0 in
    let second : IsSmall c.get-second.result.now = rw c.get-second.ensures (c.requires.small c.args.to c.requires.to).1 in
    omega (arith, first.short, second.short)

pub returns-in_ok-distance : goal.returns-in_ok-distance
returns-in_ok-distance c =
    let table = c.args.distances.now in
    let test : int_lt ((between table c.args.from c.args.middle).bound +ℤ (between table c.args.middle c.args.to).bound) (between table c.args.from c.args.to).bound ≡ true =
    rw (c.get-first.ensures, c.get-second.ensures, c.get.ensures) at (sym c.are_less.ensures ∙ c.if-are_less.true) in
    let is : c.in_ok-distance.distance ≡ joined (between table c.args.from c.args.middle) (between table c.args.middle c.args.to) = rw (c.get-first.ensures, c.get-second.ensures) at c.in_ok-distance.ensures in
    rw (over_middle c.args.middle table c.args.from c.args.to c.if-from-middle.false c.if-to-middle.false, test, ← is) c.put.ensures

pub returns-else-are_less : goal.returns-else-are_less
returns-else-are_less c =
    let table = c.args.distances.now in
    let test : int_lt ((between table c.args.from c.args.middle).bound +ℤ (between table c.args.middle c.args.to).bound) (between table c.args.from c.args.to).bound ≡ false =
    rw (c.get-first.ensures, c.get-second.ensures, c.get.ensures) at (sym c.are_less.ensures ∙ c.if-are_less.false) in
    rw (over_middle c.args.middle table c.args.from c.args.to c.if-from-middle.false c.if-to-middle.false, test) (puts_nothing table c.args.from c.args.to _ refl)
