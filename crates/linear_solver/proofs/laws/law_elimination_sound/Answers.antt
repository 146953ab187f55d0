use Rattle.std.proofs.Common.{get_or, le_refl}
use Rattle.linear_cert.specs.Right.{leaf}
use Rattle.linear_cert.proofs.Sound.{no_solution}
use Rattle.linear_solver.specs.Elimination.{list_after}
use Rattle.linear_solver.specs.Leaves.{multipliers_from}
use Rattle.linear_solver.proofs.Follows.{after_follows}
use Rattle.linear_solver.proofs.RightLeaves.{contradiction_leaf}
use Rattle.linear_solver.proofs.laws.law_elimination_sound.Goals as goal

pub returns : goal.returns
returns c = λ bounds rows system refuted point solves.
    let list = list_after bounds rows refuted.eliminated in
    refuted.refutes (λ k d lt contradiction.
    let row = get_or list k d in
    let small = (refuted.sizes refuted.eliminated (le_refl refuted.eliminated)).small k d lt in
    let follows = after_follows bounds rows refuted.eliminated k d lt in
    no_solution bounds rows (leaf (multipliers_from 0 row.mults)) (contradiction_leaf bounds rows system row follows small contradiction) point solves)
