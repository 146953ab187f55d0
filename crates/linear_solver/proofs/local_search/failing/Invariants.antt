use Rattle.std.proofs.Common.{◌≡◌, All, MatchOption, take}
use Rattle.linear_solver.specs.LocalSearch.{Holds, IsFailing}
use Rattle.linear_solver.proofs.local_search.failing.Given as goal

abbrev pub invariant-loop-number : goal.invariant-loop-number
invariant-loop-number l = MatchOption l.found (All Holds (take l.number l.states) × l.count ≡ 0) (IsFailing l.states)
