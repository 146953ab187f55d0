use Rattle.difference_solver.proofs.Places.{puts_distance}
use Rattle.difference_solver.proofs.distances.Distances.put.Goals as goal

pub returns : goal.returns
returns c =
    let from = rw (← c.self.view_is) at c.requires.from in
    let to = rw (← c.self.view_is) at c.requires.to in
    rw (← c.self.view_is) (puts_distance _ c.args.from c.args.to c.args.distance c.self.invariant from to)
