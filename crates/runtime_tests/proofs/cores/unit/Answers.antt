use Rattle.std.proofs.Common.{sym, ap, subst, ◌∙◌}
use Rattle.policy_tree.specs.Meaning.{Meaning, meaning_of}
use Rattle.round_model.specs.declared.plan.Plan.{Plan}
use Rattle.round_model.specs.Bounds.{CoreInBounds}
use Rattle.round_model.specs.Bursts.{HaveBursts}
use Rattle.runtime_tests.proofs.Moments.{fits, handlers, works}
use Rattle.runtime_tests.proofs.cores.unit.Goals as goal

pub work-requires-clause-fits : goal.work-requires-clause-fits
work-requires-clause-fits c = fits (meaning_of c.args.policy.now) c.args.plan.now c.requires.policy c.requires.plan

pub work-requires-clause-handlers : goal.work-requires-clause-handlers
work-requires-clause-handlers c = handlers (meaning_of c.args.policy.now) c.requires.policy

pub work-requires-clause-order : goal.work-requires-clause-order
work-requires-clause-order c = c.requires.state.order ∙ sym (ap (λ (p : Meaning). p.elect) c.requires.policy)

pub work-requires-clause-bounds : goal.work-requires-clause-bounds
work-requires-clause-bounds c = subst (λ (p : Meaning). CoreInBounds p c.args.state.now.core) (sym c.requires.policy) c.requires.state.bounds

pub work-requires-clause-bursts : goal.work-requires-clause-bursts
work-requires-clause-bursts c = subst (λ (r : Plan). HaveBursts r c.args.state.now.core) (sym c.requires.plan) c.requires.state.bursts

pub work-requires-clause-room : goal.work-requires-clause-room
work-requires-clause-room c = c.requires.state.room

pub returns : goal.returns
returns c = c.work.ensures.core ∙ works (meaning_of c.args.policy.now) c.args.plan.now c.args.round c.args.state.now c.requires.policy c.requires.plan
