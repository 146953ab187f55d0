use Rattle.std.proofs.Common.{◌++◌, ap, sym, ◌∙◌, map}
use Rattle.obligations.proofs.Folds.{crossed_push}
use Rattle.obligations.proofs.crossing.each_with_each.Goals as goal

pub loop-rows-preserved : goal.loop-rows-preserved
loop-rows-preserved c =
    c.in_ok-all.ensures
    ∙ (ap (λ cases. cases ++ map (λ others. c.in-Some.rows ++ others) c.args.right.now) c.loop-rows.invariant
    ∙ sym (crossed_push c.loop-rows.yielded c.in-Some.rows c.args.right.now))
