use Rattle.std.proofs.Common.{◌≡◌, map, vec_len}
use Rattle.std.specs.List.{range_with_len}
use Rattle.linear_solver.specs.LocalSearch.{column_of}
use Rattle.linear_solver.proofs.rows_at.columns_of.Given as goal

abbrev pub invariant-loop-variable : goal.invariant-loop-variable
invariant-loop-variable l = record {
  front : l.columns.items ≡ map (column_of l.rows) (range_with_len 0 l.variable);
  len : vec_len l.columns ≡ l.variable;
}
