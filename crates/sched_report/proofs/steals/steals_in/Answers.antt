-- Round after round.
use Rattle.std.proofs.Common.{◌≡◌, ℕ, suc, ◌+◌, ◌-◌, get_or, ap, sym, ◌∙◌, arith, add-one}
use Rattle.sched_report.specs.StretchRows.{steals_within}
use Rattle.sched_report.proofs.StealLemmas.{few_steals, steals_next, steals_none}
use Rattle.sched_report.proofs.steals.steals_in.Goals as goal

pub loop-before-init : goal.loop-before-init
loop-before-init c = λ history are still.
    let first = c.args.still.now.first in
    let same : suc (first - 1) ≡ first = (let positive = still.positive in omega arith) in
    sym (ap (λ (n : ℕ). steals_within history n (first - 1)) (sym same) ∙ steals_none history (first - 1))

pub overflow_add-steals : goal.overflow_add-steals
overflow_add-steals c =
    let history = c.requires.counted.0 in let are = c.requires.counted.1 in let few = c.requires.counted.2 in let still = c.requires.counted.3 in
    let first = c.args.still.now.first in let before = c.loop-before.before in
    let low = c.loop-before.auto.before in let positive = still.positive in
    let next = steals_next history c.args.counts.now are first before (omega arith) in
    omega (arith, c.loop-before.invariant history are still, next, few_steals history first (suc before), few)

pub loop-before-preserved : goal.loop-before-preserved
loop-before-preserved c = λ history are still.
    let first = c.args.still.now.first in let before = c.loop-before.before in let counts = c.args.counts.now in
    let low = c.loop-before.auto.before in let positive = still.positive in
    let next = steals_next history counts are first before (omega arith) in
    ap (λ (n : ℕ). n + get_or counts before 0) (c.loop-before.invariant history are still) ∙ (sym next ∙ ap (steals_within history first) (sym (add-one before)))
