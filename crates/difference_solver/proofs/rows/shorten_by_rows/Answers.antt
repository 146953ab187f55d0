use Rattle.std.proofs.Common.{◌∙◌, arith}
use Rattle.difference_solver.proofs.Shorter.{both, one_more_kept, all_kept}
use Rattle.difference_solver.proofs.rows.shorten_by_rows.Goals as goal

pub loop-number-preserved : goal.loop-number-preserved
loop-number-preserved c =
    let now = c.loop-number.invariant in
    let next = c.in_ok-shorten_by_row.ensures in
    record {
      shortens = both _ _ _ _ _ now.shortens next.shortens;
      keeps = one_more_kept _ _ _ _ c.loop-number.number (now.shortens.size ∙ c.requires.size) (omega (arith, c.loop-number-test.true)) next.shortens now.keeps next.keeps;
    }

pub returns-clause-keeps : goal.returns-clause-keeps
returns-clause-keeps c =
    all_kept c.args.system.now.bounds _ _ c.loop-number.number (omega (arith, c.loop-number-test.false)) c.loop-number.invariant.keeps
