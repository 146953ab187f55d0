use Rattle.std.proofs.Common.{sym, subst}
use Rattle.policy_tree.specs.Meaning.{meaning_of}
use Rattle.policy_eval.specs.Obligations.{MeetsHandlerObligations}
use Rattle.serial_steps.specs.SerialEnds.{IsPlayed, StopsFull}
use Rattle.serial_steps.proofs.EntryBounds.{room_suffices}
use Rattle.fair_policy.proofs.FairMeets.{fair_handlers_meet}
use Rattle.bench_play.proofs.playing.whole_history.Goals as goal

pub unreachable-requires : goal.unreachable-requires
unreachable-requires c =
    let p = meaning_of c.args.policy.now in let plan = c.args.plan.now in
    let stops : StopsFull p plan c.in-Full._history = subst (IsPlayed p plan) c.in-Full.is c.in_ok-history.ensures in
    room_suffices p plan c.in-Full._history c.requires.fits (subst MeetsHandlerObligations (sym c.requires.policy) fair_handlers_meet) c.requires.room stops.legal stops.full

pub play_plan-requires-clause-handlers : goal.play_plan-requires-clause-handlers
play_plan-requires-clause-handlers c = subst MeetsHandlerObligations (sym c.requires.policy) fair_handlers_meet
