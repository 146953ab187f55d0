use Rattle.std.proofs.Common.{◌≡◌, ℕ, List, replicate, sym, subst, arith}
use Rattle.policy_tree.specs.Meaning.{meaning_of}
use Rattle.serial_steps.specs.SerialRounds.{most_steps}
use Rattle.serial_steps.proofs.SerialWholes.{turns_more, turns_of}
use Rattle.serial_play.specs.Rounds.{Moves}
use Rattle.serial_play.proofs.Turning.{moved_both, moved_none}
use Rattle.serial_play.proofs.turns.end_turns.Goals as goal

pub loop-core-init : goal.loop-core-init
loop-core-init c = moved_none (meaning_of c.args.policy.now) c.args.plan.now c.args.play.now c.requires.play

pub loop-core-preserved : goal.loop-core-preserved
loop-core-preserved c =
    let p = meaning_of c.args.policy.now in let plan = c.args.plan.now in let at = c.loop-core.core in let new = c.end_turn.new.play in
    subst (λ (cores : List ℕ). Moves p plan cores c.args.play.now new) (sym (turns_more plan at))
    (moved_both p plan (turns_of plan at) (replicate (most_steps plan) at) c.args.play.now c.loop-core.play new c.loop-core.invariant c.in_ok-end_turn.ensures)

pub returns : goal.returns
returns c =
    let plan = c.args.plan.now in
    let all : c.loop-core.core ≡ plan.cores = omega arith in
    subst (λ (n : ℕ). Moves (meaning_of c.args.policy.now) plan (turns_of plan n) c.args.play.now c.loop-core.play) all c.loop-core.invariant
