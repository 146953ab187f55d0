use Rattle.std.proofs.Common.{◌≡◌, ◌-◌, ◌<◌, length, Some}
use Rattle.std.specs.List.{range_with_len}
use Rattle.policy_tree.specs.Trees.{expr_tree}
use Rattle.policy_eval.specs.Orders.{best_of}
use Rattle.round_model.specs.Choices.{is_less, values_in}
use Rattle.round_model.proofs.choices.least.Given as goal

-- the least of the cores from here on
abbrev pub invariant-loop-core : goal.invariant-loop-core
invariant-loop-core l = record {
  best : best_of (is_less (expr_tree l.expr) (values_in l.values)) (range_with_len l.core (length l.values - l.core)) ≡ Some l.least;
  there : l.least < length l.values;
}
