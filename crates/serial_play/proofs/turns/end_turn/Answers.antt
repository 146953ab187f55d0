use Rattle.std.proofs.Common.{◌≡◌, Bool, ℕ, false, replicate, subst, arith}
use Rattle.policy_tree.specs.Meaning.{meaning_of}
use Rattle.serial_steps.specs.SerialRounds.{most_steps}
use Rattle.serial_play.specs.Plays.{Advances}
use Rattle.serial_play.specs.Rounds.{Moves}
use Rattle.serial_play.proofs.Turning.{ended_early, moved_none}
use Rattle.serial_play.proofs.turns.end_turn.Goals as goal

pub loop-step-init : goal.loop-step-init
loop-step-init c = moved_none (meaning_of c.args.policy.now) c.args.plan.now c.args.play.now c.requires.play

pub returns-then-not-branch : goal.returns-then-not-branch
returns-then-not-branch c =
    let p = meaning_of c.args.policy.now in let plan = c.args.plan.now in let a = c.args.core in
    ended_early p plan a c.loop-step._step c.args.play.now c.loop-step.play c.advance.new.play (omega (arith, c.most_steps-step-end.ensures)) c.loop-step.invariant
    (subst (Advances p plan a c.loop-step.play c.advance.new.play) (not_true c.in_ok-advance.field-0 c.if-not-branch.true) c.in_ok-advance.ensures)
  where
    not_true : (b : Bool) → b ≡ false → b ≡ false
    not_true b is = is

pub returns : goal.returns
returns c =
    let plan = c.args.plan.now in
    let all : c.loop-step._step ≡ most_steps plan = omega (arith, c.most_steps-step-end.ensures) in
    subst (λ (n : ℕ). Moves (meaning_of c.args.policy.now) plan (replicate n c.args.core) c.args.play.now c.loop-step.play) all c.loop-step.invariant
