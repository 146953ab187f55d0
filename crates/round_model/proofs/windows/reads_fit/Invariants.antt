use Rattle.std.proofs.Common.{ℕ, ◌<◌, get_or}
use Rattle.round_model.specs.Reads.{IsReadOf}
use Rattle.round_model.proofs.windows.reads_fit.Given as goal

abbrev pub invariant-loop-at : goal.invariant-loop-at
invariant-loop-at l = (k d : ℕ) → k < l.at → IsReadOf l.start l.position (get_or l.reads k d)
