use Rattle.std.proofs.Common.{◌≡◌, map, take, vec_len}
use Rattle.linear_cert.specs.declared.rows.Column.TheVariants.{Variable}
use Rattle.linear_cert.specs.Columns.{entry}
use Rattle.linear_solver.proofs.rows_at.column_of.Given as goal

abbrev pub invariant-loop-number : goal.invariant-loop-number
invariant-loop-number l = record {
  front : l.column.items ≡ map (entry (Variable l.variable)) (take l.number l.rows);
  len : vec_len l.column ≡ l.number;
}
