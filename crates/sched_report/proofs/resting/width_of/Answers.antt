-- The greatest distance is that of all loads.
use Rattle.std.proofs.Common.{◌-◌, ap, ◌∙◌}
use Rattle.std.specs.Prelude.{fold, max}
use Rattle.std.proofs.lemmas.List.{take_all}
use Rattle.sched_report.specs.Rests.{greatest}
use Rattle.sched_report.proofs.Scans.{fold_mapped}
use Rattle.sched_report.proofs.resting.width_of.Goals as goal

pub returns : goal.returns
returns c =
    let loads = c.args.loads.now in
    c.loop-load.invariant
    ∙ (ap (fold (λ width load. max width (greatest loads - load)) 0) (take_all c.loop-load.load-index loads c.loop-load-test.false)
    ∙ fold_mapped (λ load. greatest loads - load) 0 loads)
