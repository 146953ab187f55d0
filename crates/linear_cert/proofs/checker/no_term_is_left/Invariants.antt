use Rattle.std.proofs.Common.{ℕ, ◌<◌}
use Rattle.linear_cert.specs.Right.{Cancels}
use Rattle.linear_cert.proofs.checker.no_term_is_left.Given as goal

abbrev pub invariant-loop-variable : goal.invariant-loop-variable
invariant-loop-variable l = (k : ℕ) → k < l.variable → Cancels k l.bounds l.rows l.mults
