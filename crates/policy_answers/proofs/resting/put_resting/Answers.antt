-- The line on the gap, and then the one on the rounds.
use Rattle.std.proofs.Common.{[], ◌∷◌}
use Rattle.std.proofs.lemmas.Result.{err_from_is_err_and}
use Rattle.sched_io.proofs.PutsLemmas.{puts_both, stops_later, stops_sooner}
use Rattle.policy_answers.specs.Rests.{rounds_line}
use Rattle.policy_answers.proofs.resting.put_resting.Goals as goal

pub returns-in_err-put_all : goal.returns-in_err-put_all
returns-in_err-put_all g c =
    let fault = err_from_is_err_and c.from_residual.result c.from_residual.ensures.1 in
    rw fault.1 (stops_sooner (c.args.resting.now.line.items ∷ []) (rounds_line c.args.resting.now.lowest_first ∷ []) _ _ (rw c.as_slice.ensures.value at c.in_err-put_all.ensures))

pub returns-in_err-put_all-2 : goal.returns-in_err-put_all-2
returns-in_err-put_all-2 g c =
    let fault = err_from_is_err_and c.from_residual-in_err-put_all-2.result c.from_residual-in_err-put_all-2.ensures.1 in
    rw fault.1 (stops_later (c.args.resting.now.line.items ∷ []) (rounds_line c.args.resting.now.lowest_first ∷ []) _ _ _ (rw c.as_slice.ensures.value at c.in_ok-put_all.ensures) (rw c.rounds_line.ensures at c.in_err-put_all-2.ensures))

pub returns : goal.returns
returns g c =
    puts_both (c.args.resting.now.line.items ∷ []) (rounds_line c.args.resting.now.lowest_first ∷ []) _ _ _ (rw c.as_slice.ensures.value at c.in_ok-put_all.ensures) (rw c.rounds_line.ensures at c.in_ok-put_all-2.ensures)
