-- The reads so far lie in the window.
use Rattle.std.proofs.Common.{ℕ, ◌<◌, get_or}
use Rattle.round_model.specs.Reads.{IsReadOf}
use Rattle.history_reasons.proofs.reading.why_not_read.Given as goal

abbrev pub invariant-loop-core : goal.invariant-loop-core
invariant-loop-core l = (k d : ℕ) → k < l.core → IsReadOf l.first l.last (get_or l.reads k d)
