use Rattle.std.proofs.Common.{◌≡◌, ◌+◌, ◌-◌, ◌<◌, length, ap, arith}
use Rattle.difference_solver.proofs.Leaf.{are_small}
use Rattle.difference_solver.proofs.State.{next_state, one_short}
use Rattle.difference_solver.proofs.Closed.{closed_on}
use Rattle.difference_solver.proofs.solver.close.Goals as goal

pub pass-requires-clause-small : goal.pass-requires-clause-small
pass-requires-clause-small c =
    let now = c.loop-step.invariant in
    let zero : length c.bounds-zero.result.now ≡ length c.args.system.now.bounds = ap length c.bounds-zero.ensures in
    let size = now.state.size in
    let few = c.requires.system.few_variables in
    let below = c.loop-step-test.true in
    are_small c.args.system.now.bounds c.args.system.now.rows c.requires.system _ now.state c.loop-step.step _ _ (omega (arith, zero, few, below)) (omega (arith, zero, size, below)) now.short

pub loop-step-preserved : goal.loop-step-preserved
loop-step-preserved c =
    let now = c.loop-step.invariant in
    let zero : length c.bounds-zero.result.now ≡ length c.args.system.now.bounds = ap length c.bounds-zero.ensures in
    let size = now.state.size in
    let below = c.loop-step-test.true in
    let middle = length c.bounds-zero.result.now - c.loop-step.step in
    let place : middle + c.loop-step.step ≡ length c.args.system.now.bounds = omega (arith, zero, below) in
    let within : middle < c.loop-step.distances.size = omega (arith, zero, size, below) in
    let passes = c.in_ok-pass.ensures in
    let settled = c.in_default.ensures middle within in
    record {
      state = next_state middle _ _ passes within _ _ now.state;
      short = one_short c.loop-step.step _ middle _ _ place passes within now.short;
      closed = closed_on _ c.loop-step.step middle _ _ place size passes settled now.closed;
    }
