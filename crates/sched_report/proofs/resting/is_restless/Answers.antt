-- One thief after another.
use Rattle.std.proofs.Common.{◌∙◌, sym, arith}
use Rattle.policy_tree.specs.Meaning.{meaning_of}
use Rattle.sched_report.specs.Code.Openings.{core_at}
use Rattle.sched_report.specs.Rests.{has_victim}
use Rattle.sched_report.proofs.Scans.{scan_done, scan_found, scan_more}
use Rattle.sched_report.proofs.resting.is_restless.Goals as goal

pub returns-then-has_victim : goal.returns-then-has_victim
returns-then-has_victim c =
    let plan = c.args.plan.now in let size = c.requires.cores.0 in
    sym (scan_found (has_victim (meaning_of c.args.policy.now) plan (core_at c.args.state.now)) plan.cores c.loop-thief.thief (omega arith) (sym c.has_victim.ensures ∙ c.if-has_victim.true))

pub loop-thief-preserved : goal.loop-thief-preserved
loop-thief-preserved c =
    let plan = c.args.plan.now in let size = c.requires.cores.0 in
    scan_more (has_victim (meaning_of c.args.policy.now) plan (core_at c.args.state.now)) plan.cores c.loop-thief.thief (omega arith)
    c.loop-thief.invariant (sym c.has_victim.ensures ∙ c.if-has_victim.false)

pub returns : goal.returns
returns c =
    let plan = c.args.plan.now in let size = c.requires.cores.0 in
    sym (scan_done (has_victim (meaning_of c.args.policy.now) plan (core_at c.args.state.now)) plan.cores c.loop-thief.thief (omega arith) c.loop-thief.invariant)
