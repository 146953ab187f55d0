use Rattle.std.proofs.Common.{◌≡◌, ◌==◌, ◌≤◌, map, filter, take, length}
use Rattle.round_model.specs.declared.plan.Planned.{Planned}
use Rattle.round_judge.specs.Past.{arrival_of}
use Rattle.round_judge.proofs.rounds.arrivals_of.Given as goal

-- the arrivals among the threads passed over
abbrev pub invariant-loop-at : goal.invariant-loop-at
invariant-loop-at l = record {
  found : l.arrivals ≡ map arrival_of (filter (λ (t : Planned). t.round == l.number) (take l.at l.plan.threads));
  few : length l.arrivals ≤ l.at;
}
