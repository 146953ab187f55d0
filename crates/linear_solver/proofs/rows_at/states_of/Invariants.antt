use Rattle.std.proofs.Common.{◌≡◌, map, take, vec_len}
use Rattle.linear_solver.specs.LocalSearch.{first_state}
use Rattle.linear_solver.proofs.rows_at.states_of.Given as goal

abbrev pub invariant-loop-row : goal.invariant-loop-row
invariant-loop-row l = record {
  front : l.states.items ≡ map (first_state l.values) (take l.row-index l.rows);
  len : vec_len l.states ≡ l.row-index;
}
