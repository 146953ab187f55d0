-- One core after another is looked at.
use Rattle.std.proofs.Common.{◌∙◌, sym, arith}
use Rattle.policy_tree.specs.Meaning.{meaning_of}
use Rattle.round_model.specs.Attempts.{present_values}
use Rattle.round_model.specs.Choices.{is_candidate}
use Rattle.sched_report.specs.Code.Openings.{core_at}
use Rattle.sched_report.proofs.Scans.{scan_done, scan_found, scan_more}
use Rattle.sched_report.proofs.resting.has_victim.Goals as goal

pub returns-then-is_victim : goal.returns-then-is_victim
returns-then-is_victim c =
    let plan = c.args.plan.now in let size = c.requires.cores.0 in
    sym (scan_found (is_candidate (meaning_of c.args.policy.now) (present_values plan (core_at c.args.state.now)) c.args.thief) plan.cores c.loop-victim.victim (omega arith)
    (sym c.is_victim.ensures ∙ c.if-is_victim.true))

pub loop-victim-preserved : goal.loop-victim-preserved
loop-victim-preserved c =
    let plan = c.args.plan.now in let size = c.requires.cores.0 in
    scan_more (is_candidate (meaning_of c.args.policy.now) (present_values plan (core_at c.args.state.now)) c.args.thief) plan.cores c.loop-victim.victim (omega arith)
    c.loop-victim.invariant (sym c.is_victim.ensures ∙ c.if-is_victim.false)

pub returns : goal.returns
returns c =
    let plan = c.args.plan.now in let size = c.requires.cores.0 in
    sym (scan_done (is_candidate (meaning_of c.args.policy.now) (present_values plan (core_at c.args.state.now)) c.args.thief) plan.cores c.loop-victim.victim (omega arith) c.loop-victim.invariant)
