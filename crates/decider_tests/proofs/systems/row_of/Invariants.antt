use Rattle.std.proofs.Common.{◌≡◌, ◌<◌, vec_len, All}
use Rattle.linear_form.specs.System.{IsRow}
use Rattle.linear_form.proofs.Build.{row_of}
use Rattle.decider_tests.proofs.systems.row_of.Given as goal

abbrev pub invariant-loop-var : goal.invariant-loop-var
invariant-loop-var l = record {
  row : IsRow l.variables (row_of l.list.items l.bound);
  below : All (λ term. term.var < l.least) l.list.items;
  count : vec_len l.list ≡ l.var-index;
}
