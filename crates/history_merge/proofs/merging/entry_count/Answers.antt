use Rattle.std.proofs.Common.{◌≡◌, ℕ, ◌∙◌, ap, length, max, subst, arith}
use Rattle.core_state.specs.Logs.{after_last}
use Rattle.history_merge.proofs.Counts.{IsCounted, count_begins, count_ends, count_goes}
use Rattle.history_merge.proofs.merging.entry_count.Goals as goal

pub loop-core-init : goal.loop-core-init
loop-core-init c = count_begins c.args.closed.now c.position_behind-count.result (c.position_behind-count.ensures ∙ ap (after_last 0) c.rounds.ensures)

pub loop-core-preserved : goal.loop-core-preserved
loop-core-preserved c =
    let behind = c.position_behind.ensures ∙ ap (after_last 0) c.entries.ensures in
    count_goes c.args.closed.now c.loop-core.core c.loop-core.count c.max-count.result c.core.result.now c.loop-core.invariant c.core.ensures
    (c.max-count.ensures ∙ ap (max c.loop-core.count) behind)

pub returns : goal.returns
returns c history logs =
    let closed = c.args.closed.now in
    let last : c.loop-core.core ≡ length closed.cores = omega arith in
    count_ends closed c.loop-core.count (subst (λ (k : ℕ). IsCounted closed k c.loop-core.count) last c.loop-core.invariant) history logs
