use Rattle.std.proofs.Common.{ap, arith, ◌∙◌}
use Rattle.std.proofs.lemmas.List.{length-set}
use Rattle.sched_report.proofs.OpeningRows.{loads_more}
use Rattle.sched_report.proofs.openings.loads_of.Goals as goal

pub loop-core-preserved : goal.loop-core-preserved
loop-core-preserved c = record {
  full = length-set c.loop-core.loads c.loop-core.core c.seen.result.load ∙ c.loop-core.invariant.full;
  so_far = let full = c.loop-core.invariant.full in
      loads_more c.loop-core.loads c.args.state.now c.loop-core.core c.seen.result.load c.get.result.now (omega arith) c.loop-core.invariant.so_far c.get.ensures.item
      (ap (λ seen. seen.load) c.seen.ensures);
}
