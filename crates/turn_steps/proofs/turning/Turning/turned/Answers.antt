use Rattle.std.proofs.Common.{◌+◌, ap, arith}
use Rattle.turn_steps.specs.States.{state_of}
use Rattle.turn_steps.proofs.Counting.{counts_view, ended_as_told}
use Rattle.turn_steps.proofs.Telling.{drawn_count}
use Rattle.turn_steps.proofs.turning.Turning.turned.Goals as goal

pub returns-clause-entries : goal.returns-clause-entries
returns-clause-entries c = let count = drawn_count (state_of c.args.self.now) in let behind = c.entries-behind.ensures in omega arith

pub returns-clause-ended : goal.returns-clause-ended
returns-clause-ended c id = ended_as_told (state_of c.args.self.now).reached c.ended.result c.ended.ensures id

pub returns-clause-view : goal.returns-clause-view
returns-clause-view c v told =
    let t = c.args.self.now in
    counts_view (state_of t) v told (t.arrived + t.woke + c.entries-behind.result) c.ended.result (ap (λ n. t.arrived + t.woke + n) c.entries-behind.ensures) c.ended.ensures
