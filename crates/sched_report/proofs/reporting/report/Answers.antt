-- What is told has a cause for each failed steal.
use Rattle.std.proofs.Common.{All, subst, sym, ◌∙◌}
use Rattle.policy_tree.specs.Meaning.{meaning_of}
use Rattle.policy_eval.proofs.Statements.{handler_obligations}
use Rattle.sched_report.specs.CauseRows.{HasCause}
use Rattle.sched_report.proofs.CauseLemmas.{all_have_causes}
use Rattle.sched_report.proofs.ReportLemmas.{report_adds_up, report_is, report_paid, report_rests}
use Rattle.sched_report.proofs.reporting.report.Goals as goal

pub tell-requires-clause-handlers : goal.tell-requires-clause-handlers
tell-requires-clause-handlers c = handler_obligations (meaning_of c.args.policy.now) c.requires.meets

pub explained-requires-clause-each : goal.explained-requires-clause-each
explained-requires-clause-each c =
    let p = meaning_of c.args.policy.now in
    subst (All HasCause) (sym c.as_slice.ensures.items)
    (all_have_causes p c.args.plan.now c.args.history.now c.requires.fits c.requires.meets c.requires.whole.legal c.in_ok-told.told.causes c.in_ok-told.ensures.causes)

pub returns-clause-is : goal.returns-clause-is
returns-clause-is c =
    report_is (meaning_of c.args.policy.now) c.args.plan.now c.args.history.now c.in_ok-told.told c.in_ok-told.ensures c.in_ok-fails.fails (c.in_ok-fails.ensures ∙ c.as_slice.ensures.items)

pub returns-clause-paid : goal.returns-clause-paid
returns-clause-paid c =
    report_paid (meaning_of c.args.policy.now) c.args.plan.now c.args.history.now c.in_ok-told.told c.in_ok-told.ensures c.in_ok-fails.fails (c.in_ok-fails.ensures ∙ c.as_slice.ensures.items) c.requires.whole c.requires.fits c.requires.meets

pub returns-clause-rests : goal.returns-clause-rests
returns-clause-rests c =
    report_rests (meaning_of c.args.policy.now) c.args.plan.now c.args.history.now c.in_ok-told.told c.in_ok-told.ensures c.in_ok-fails.fails (c.in_ok-fails.ensures ∙ c.as_slice.ensures.items) c.requires.whole c.requires.fits c.requires.meets

pub returns-clause-adds_up : goal.returns-clause-adds_up
returns-clause-adds_up c =
    report_adds_up (meaning_of c.args.policy.now) c.args.plan.now c.args.history.now c.in_ok-told.told c.in_ok-told.ensures c.in_ok-fails.fails (c.in_ok-fails.ensures ∙ c.as_slice.ensures.items)
