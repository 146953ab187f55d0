use Rattle.std.proofs.Common.{◌≡◌, ltb, true, false, ◌∙◌, arith}
use Rattle.std.proofs.lemmas.Bool.Decides.{nat_tests}
use Rattle.round_judge.proofs.Pasts.{and-false, and-true}
use Rattle.round_judge.proofs.past.is_due_by.Goals as goal

pub returns-then-rounds-plan : goal.returns-then-rounds-plan
returns-then-rounds-plan c =
    let more : ltb c.args.rounds c.args.plan.now.rounds ≡ true = let below = c.if-rounds-plan.true in grind (arith, nat_tests) in
    c.are_left.ensures ∙ and-true (ltb c.args.rounds c.args.plan.now.rounds) _ more

pub returns-else-rounds-plan : goal.returns-else-rounds-plan
returns-else-rounds-plan c =
    let none : ltb c.args.rounds c.args.plan.now.rounds ≡ false = let above = c.if-rounds-plan.false in grind (arith, nat_tests) in
    and-false (ltb c.args.rounds c.args.plan.now.rounds) _ none
