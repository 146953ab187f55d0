use Rattle.std.proofs.Common.{◌≡◌, replicate, sym, subst, arith}
use Rattle.policy_tree.specs.Meaning.{meaning_of}
use Rattle.serial_steps.specs.SerialRounds.{most_steps}
use Rattle.serial_steps.proofs.SerialWholes.{turns_more, turns_of}
use Rattle.core_worker.specs.Runs.{Moves}
use Rattle.core_worker.proofs.Turning.{moved_both, still_at}
use Rattle.core_worker.proofs.run.Run.end_turns.Goals as goal

pub end_turn-requires-clause-at : goal.end_turn-requires-clause-at
end_turn-requires-clause-at c =
    let plan = c.args.plan.now in
    still_at (meaning_of c.args.policy.now) plan (turns_of plan c.loop-core.core) c.args.self.now c.loop-core.self c.requires.at c.loop-core.invariant

pub loop-core-preserved : goal.loop-core-preserved
loop-core-preserved c =
    let p = meaning_of c.args.policy.now in let plan = c.args.plan.now in let at = c.loop-core.core in let new = c.end_turn.new.self in
    subst (λ cores. Moves p plan cores c.args.self.now new) (sym (turns_more plan at))
    (moved_both p plan (turns_of plan at) (replicate (most_steps plan) at) c.args.self.now c.loop-core.self new c.loop-core.invariant c.end_turn.ensures)

pub returns : goal.returns
returns c =
    let plan = c.args.plan.now in
    let all : c.loop-core.core ≡ plan.cores = omega arith in
    subst (λ n. Moves (meaning_of c.args.policy.now) plan (turns_of plan n) c.args.self.now c.loop-core.self) all c.loop-core.invariant
