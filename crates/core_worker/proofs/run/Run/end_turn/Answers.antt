use Rattle.std.proofs.Common.{◌≡◌, replicate, subst, arith}
use Rattle.policy_tree.specs.Meaning.{meaning_of}
use Rattle.serial_steps.specs.SerialRounds.{most_steps}
use Rattle.core_worker.specs.Runs.{Moves}
use Rattle.core_worker.proofs.Turning.{ended_early, still_at}
use Rattle.core_worker.proofs.run.Run.end_turn.Goals as goal

pub advance-requires-clause-at : goal.advance-requires-clause-at
advance-requires-clause-at c =
    still_at (meaning_of c.args.policy.now) c.args.plan.now (replicate c.loop-step._step c.args.core) c.args.self.now c.loop-step.self c.requires.at c.loop-step.invariant

pub returns-then-not-advance : goal.returns-then-not-advance
returns-then-not-advance c =
    let p = meaning_of c.args.policy.now in let plan = c.args.plan.now in
    ended_early p plan c.args.core c.loop-step._step c.args.self.now c.loop-step.self c.advance.new.self (omega (arith, c.most_steps-step-end.ensures)) c.loop-step.invariant
    c.advance.ensures.step (c.advance.ensures.over c.if-not-advance.true)

pub returns : goal.returns
returns c =
    let plan = c.args.plan.now in
    let all : c.loop-step._step ≡ most_steps plan = omega (arith, c.most_steps-step-end.ensures) in
    subst (λ n. Moves (meaning_of c.args.policy.now) plan (replicate n c.args.core) c.args.self.now c.loop-step.self) all c.loop-step.invariant
