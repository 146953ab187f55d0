-- Nothing is left, or what is left is bad.
use Rattle.std.proofs.Common.{◌≡◌, ◌≢◌, [], length, ap, refl, arith}
use Rattle.std.proofs.lemmas.Grind.{common_steps}
use Rattle.cert_file.proofs.Parts.{tally_none}
use Rattle.cert_file.proofs.Within.{bad_rest}
use Rattle.cert_file.proofs.systems.ended.Goals as goal

pub returns-then-is_empty-clause-tally : goal.returns-then-is_empty-clause-tally
returns-then-is_empty-clause-tally c = λ p.
    let none : c.args.rest.now.bytes.now ≡ [] = grind (arith, common_steps, c.is_empty.ensures, c.if-is_empty.true) in
    tally_none p c.args.rest.now.bytes.now _ none refl refl

pub returns-else-is_empty-clause-fault : goal.returns-else-is_empty-clause-fault
returns-else-is_empty-clause-fault c =
    let some : c.args.rest.now.bytes.now ≢ [] = λ none. grind (arith, common_steps, c.is_empty.ensures, c.if-is_empty.false, ap length none) in
    bad_rest c.args.rest.now.number c.args.rest.now.bytes.now some
