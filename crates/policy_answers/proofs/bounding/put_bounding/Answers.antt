-- The line on the last waiting thread, and then the one on the bound.
use Rattle.std.proofs.Common.{[], ◌∷◌}
use Rattle.std.proofs.lemmas.Result.{err_from_is_err_and}
use Rattle.sched_io.proofs.PutsLemmas.{stops_later, stops_sooner}
use Rattle.policy_answers.specs.Bounds.{bound_line}
use Rattle.policy_answers.proofs.bounding.put_bounding.Goals as goal

pub returns-in_err-put_all : goal.returns-in_err-put_all
returns-in_err-put_all g c =
    let fault = err_from_is_err_and c.from_residual.result c.from_residual.ensures.1 in
    rw fault.1 (stops_sooner (c.args.bounding.now.line.items ∷ []) (bound_line c.args.bounding.now.outcome ∷ []) _ _ (rw c.as_slice.ensures.value at c.in_err-put_all.ensures))

pub returns-in_err-put_all-2 : goal.returns-in_err-put_all-2
returns-in_err-put_all-2 g c =
    let fault = err_from_is_err_and c.from_residual-in_err-put_all-2.result c.from_residual-in_err-put_all-2.ensures.1 in
    rw fault.1 (stops_later (c.args.bounding.now.line.items ∷ []) (bound_line c.args.bounding.now.outcome ∷ []) _ _ _ (rw c.as_slice.ensures.value at c.in_ok-put_all.ensures) (rw c.bound_line.ensures at c.in_err-put_all-2.ensures))
