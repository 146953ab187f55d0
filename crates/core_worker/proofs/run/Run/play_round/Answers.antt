use Rattle.std.proofs.Common.{◌++◌, cond, fold, ap, sym}
use Rattle.policy_tree.specs.Meaning.{meaning_of}
use Rattle.round_model.specs.Legal.{LegalNext}
use Rattle.serial_steps.specs.Serial.{step_of}
use Rattle.serial_steps.specs.SerialRounds.{order_of, remaining_turns, with_round}
use Rattle.core_worker.specs.Runs.{opened}
use Rattle.core_worker.proofs.Turning.{moved_both, still_at}
use Rattle.core_worker.proofs.run.Run.play_round.Goals as goal

pub take_ordered-requires-clause-at : goal.take_ordered-requires-clause-at
take_ordered-requires-clause-at c =
    let (s, may) = c.requires.may in
    (opened s.history c.args.number, c.begin.ensures s may, tt)

pub end_turns-requires-clause-at : goal.end_turns-requires-clause-at
end_turns-requires-clause-at c =
    let (s, may) = c.requires.may in
    still_at (meaning_of c.args.policy.now) c.args.plan.now (order_of c.args.plan.now c.args.number) c.begin.new.self c.take_ordered.new.self
    (opened s.history c.args.number, c.begin.ensures s may, tt) c.take_ordered.ensures

pub returns : goal.returns
unfolding with_round LegalNext
returns c s may =
    let p = meaning_of c.args.policy.now in let plan = c.args.plan.now in let number = c.args.number in
    let first = opened s.history number in
    let cores = order_of plan number ++ remaining_turns plan in
    let last = fold (step_of p plan) first cores in
    let moves = moved_both p plan (order_of plan number) (remaining_turns plan) c.begin.new.self c.take_ordered.new.self c.end_turns.new.self c.take_ordered.ensures c.end_turns.ensures in
    (last, sym (ap (λ b. cond b last.history s.history) may.next.due), (moves first (c.begin.ensures s may)).at)
