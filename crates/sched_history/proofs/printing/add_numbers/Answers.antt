-- One number more, each time round.
use Rattle.std.proofs.Common.{sym, ◌∙◌, ap, append-nil, get_or, arith, ◌++◌, List, ℕ}
use Rattle.sched_history.specs.Spelling.{spaced, spaced_number}
use Rattle.sched_history.proofs.SpacedLemmas.{length-spaced-take, spaced-take-more}
use Rattle.sched_history.proofs.printing.add_numbers.Goals as goal

pub loop-number-init : goal.loop-number-init
unfolding spaced
loop-number-init c = sym (append-nil c.args.line.now)

pub add_spaced-requires : goal.add_spaced-requires
add_spaced-requires c =
    let room = length-spaced-take c.args.line.now c.args.numbers.now c.loop-number.number-index (omega arith) in
    rw c.loop-number.invariant (omega (arith, room, c.requires))

pub loop-number-preserved : goal.loop-number-preserved
loop-number-preserved c =
    c.add_spaced.ensures
    ∙ ap (λ (bytes : List ℕ). bytes ++ spaced_number (get_or c.args.numbers.now c.loop-number.number-index 0)) c.loop-number.invariant
    ∙ spaced-take-more c.args.line.now c.args.numbers.now c.loop-number.number-index (omega arith)
