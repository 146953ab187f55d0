use Rattle.std.proofs.Common.{◌≡◌, ◌-◌, ◌<◌, length, filter, IfSome}
use Rattle.std.specs.List.{range_with_len}
use Rattle.policy_tree.specs.Meaning.{meaning_of}
use Rattle.policy_eval.specs.Orders.{best_of}
use Rattle.round_model.specs.Choices.{is_candidate, prefers, values_in}
use Rattle.round_model.proofs.choices.choice.Given as goal

-- the best of the candidates from here on
abbrev pub invariant-loop-at : goal.invariant-loop-at
invariant-loop-at l = record {
  best : l.chosen ≡ best_of (prefers (meaning_of l.policy) (values_in l.values) l.own)
      (filter (is_candidate (meaning_of l.policy) (values_in l.values) l.own) (range_with_len l.at (length l.values - l.at)));
  there : IfSome l.chosen (λ core. core < length l.values);
}
