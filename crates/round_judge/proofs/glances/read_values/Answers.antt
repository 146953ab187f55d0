use Rattle.std.proofs.Common.{◌≡◌, subst, arith}
use Rattle.round_judge.proofs.Sightings.{AreReadBelow, values_fit, values_seen}
use Rattle.round_judge.proofs.glances.read_values.Goals as goal

-- the values of all cores
all_read : (c : goal.After-loop-core) → AreReadBelow c.args.plan.now c.args.past.now c.args.reads.now c.loop-core.values c.args.plan.now.cores
all_read c = let over : c.loop-core.core ≡ c.args.plan.now.cores = omega arith in
    subst (AreReadBelow c.args.plan.now c.args.past.now c.args.reads.now c.loop-core.values) over c.loop-core.invariant.each

pub returns-clause-fits : goal.returns-clause-fits
returns-clause-fits c = values_fit c.args.plan.now c.args.past.now c.args.reads.now c.requires.read c.loop-core.values (all_read c)

pub returns-clause-values : goal.returns-clause-values
returns-clause-values c = values_seen c.args.plan.now c.args.past.now c.args.reads.now c.requires.read c.loop-core.values (all_read c)
