use Rattle.std.proofs.Common.{◌≡◌, vec_len, All}
use Rattle.linear_form.specs.System.{IsBound}
use Rattle.decider_tests.proofs.systems.ranges_of.Given as goal

abbrev pub invariant-loop-lo : goal.invariant-loop-lo
invariant-loop-lo l = record { fit : All IsBound l.list.items; count : vec_len l.list ≡ l.lo-index }
