use Rattle.std.proofs.Common.{◌-◌, ap, ◌∙◌, arith, filter, length}
use Rattle.std.specs.List.{range_with_len}
use Rattle.policy_tree.specs.Meaning.{meaning_of}
use Rattle.policy_eval.specs.Orders.{best_of}
use Rattle.round_model.specs.Choices.{candidates_of, choice_of, is_candidate, prefers, values_in}
use Rattle.round_model.proofs.choices.choice.Goals as goal

pub returns-clause-choice : goal.returns-clause-choice
unfolding choice_of candidates_of
returns-clause-choice c =
    let p = meaning_of c.args.policy.now in let values = values_in c.args.values.now in let n = length c.args.values.now in
    c.loop-at.invariant.best
    ∙ (ap (λ at. best_of (prefers p values c.args.own) (filter (is_candidate p values c.args.own) (range_with_len at (n - at)))) (omega arith)
    ∙ ap (λ k. best_of (prefers p values c.args.own) (filter (is_candidate p values c.args.own) (range_with_len 0 k))) (omega arith))
