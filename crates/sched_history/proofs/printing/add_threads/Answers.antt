-- One number more, each time round.
use Rattle.std.proofs.Common.{sym, ◌∙◌, ap, append-nil, get_or, arith, ◌++◌, List, ℕ}
use Rattle.sched_history.specs.Spelling.{spaced, spaced_number}
use Rattle.sched_history.proofs.SpacedLemmas.{length-spaced-take, spaced-take-more}
use Rattle.sched_history.proofs.printing.add_threads.Goals as goal

pub loop-at-init : goal.loop-at-init
unfolding spaced
loop-at-init c = sym (append-nil c.args.line.now)

pub add_spaced-requires : goal.add_spaced-requires
add_spaced-requires c =
    let room = length-spaced-take c.args.line.now c.args.threads.now c.loop-at.at (omega arith) in
    rw c.loop-at.invariant (omega (arith, room, c.requires))

pub loop-at-preserved : goal.loop-at-preserved
loop-at-preserved c =
    c.add_spaced.ensures
    ∙ ap (λ n. c.loop-at.line ++ spaced_number n) c.get.ensures.value
    ∙ ap (λ (bytes : List ℕ). bytes ++ spaced_number (get_or c.args.threads.now c.loop-at.at 0)) c.loop-at.invariant
    ∙ spaced-take-more c.args.line.now c.args.threads.now c.loop-at.at (omega arith)
