use Rattle.std.proofs.Common.{◌≡◌, ℕ, ◌+◌, ◌<◌, take, FitsSigned}
use Rattle.std.specs.Int.{w128}
use Rattle.linear_cert.specs.Columns.{column_sum}
use Rattle.linear_cert.proofs.checker.column_sum.Given as goal

abbrev pub invariant-loop-mult : goal.invariant-loop-mult
invariant-loop-mult l = record {
  value : l.sum ≡ column_sum l.column l.bounds l.rows (take l.mult-index l.mults);
  fit : (k : ℕ) → k < l.mult-index + 1 → FitsSigned w128 (column_sum l.column l.bounds l.rows (take k l.mults));
}
