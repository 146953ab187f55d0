use Rattle.std.proofs.Common.{◌-◌, ◌*◌, length, arith}
use Rattle.std.proofs.lemmas.Nat.{mul-le}
use Rattle.sched_base.specs.declared.limits.TheConstants.{MAX_CORES, MAX_LOAD}
use Rattle.round_model.proofs.Spreads.{later_loads-few, spread_of-drop}
use Rattle.round_model.proofs.measures.spread_of.Goals as goal

pub overflow_add-spread : goal.overflow_add-spread
overflow_add-spread c =
    let before = c.loop-at.invariant.small in let added = c.distances-spread.ensures.small in
    let few = later_loads-few c.args.loads.now (c.loop-at.at - 1) MAX_CORES c.requires.few MAX_LOAD in
    let all = mul-le (length c.args.loads.now - c.loop-at.at) (MAX_CORES * MAX_LOAD) MAX_CORES (MAX_CORES * MAX_LOAD) (omega arith) (omega arith) in
    omega arith

pub loop-at-preserved : goal.loop-at-preserved
loop-at-preserved c =
    let before = c.loop-at.invariant.small in let added = c.distances-spread.ensures.small in
    let few = later_loads-few c.args.loads.now (c.loop-at.at - 1) MAX_CORES c.requires.few MAX_LOAD in
    let step = spread_of-drop c.args.loads.now (c.loop-at.at - 1) c.loop-at.at (omega arith) (omega arith) in
    record {
      value = omega (arith, c.loop-at.invariant.value, c.distances-spread.ensures.value, step);
      small = omega arith;
    }
