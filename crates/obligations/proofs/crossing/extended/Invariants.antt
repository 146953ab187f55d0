use Rattle.std.proofs.Common.{◌≡◌, ◌++◌, map, take}
use Rattle.obligations.proofs.crossing.extended.Given as goal

abbrev pub invariant-loop-others : goal.invariant-loop-others
invariant-loop-others l = l.all.items ≡ l.initial.all.items ++ map (λ others. l.fn.rows ++ others) (take l.others-index l.firsts)
