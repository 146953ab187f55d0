-- What is told, with the steals of each stretch.
use Rattle.std.proofs.Common.{subst, sym}
use Rattle.policy_tree.specs.Meaning.{meaning_of}
use Rattle.round_model.specs.Legal.{Legal}
use Rattle.sched_report.proofs.reporting.waste.Goals as goal

pub steals_of_rounds-requires-clause-legal : goal.steals_of_rounds-requires-clause-legal
steals_of_rounds-requires-clause-legal c =
    let p = meaning_of c.args.policy.now in (p, c.args.plan.now, subst (Legal p c.args.plan.now) (sym c.as_slice.ensures.items) c.requires.legal)
