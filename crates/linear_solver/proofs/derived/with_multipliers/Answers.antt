use Rattle.std.proofs.Common.{All, [], subst}
use Rattle.std.proofs.lemmas.List.Elements.{All-head}
use Rattle.linear_solver.specs.Elimination.{IsSmall, sum_of}
use Rattle.linear_solver.proofs.derived.with_multipliers.Goals as goal

pub returns-in-None-2 : goal.returns-in-None-2
returns-in-None-2 c = λ all.
    let sum = sum_of c.args.x c.args.y c.args.p.now c.args.q.now in
    let small = All-head IsSmall sum [] (subst (All IsSmall) c.requires.kept all) in
    let large = rw (c.in-None-2.is, c.as_slice.ensures.items, c.as_slice-2.ensures.items) at c.in_ok-mults.ensures in
    large small.mults
