use Rattle.std.proofs.Common.{sym, ◌∙◌}
use Rattle.policy_tree.specs.Trees.{cond_tree}
use Rattle.obligations.proofs.ChainSteps.{none_left, none_right}
use Rattle.obligations.proofs.refuting.pair_cases.Goals as goal
use Rattle.obligations.proofs.refuting.pair_cases.Goals.{then-count-eq0-via-then-count-eq0, then-count-eq0-via-else-count-eq0+then-count-eq0-2}

pub returns-then-count-eq0 : goal.returns-then-count-eq0
returns-then-count-eq0 c =
    let left = cond_tree c.args.left.now in let right = cond_tree c.args.right.now in
    c.new.ensures.items
    ∙ elim c.then-count-eq0.branch [
      | then-count-eq0-via-then-count-eq0 w ↦ none_left c.args.load left right (sym c.count.ensures ∙ w.if-count-eq0.true)
      | then-count-eq0-via-else-count-eq0+then-count-eq0-2 w ↦
          none_right c.args.load left right (sym w.count-else-count-eq0.ensures ∙ w.if-count-eq0-2.true)
    ]
