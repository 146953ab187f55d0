-- What the program has room for, of a plan's numbers. No law asks it: code does, which has arrays and counters.
use Rattle.std.specs.Prelude.{◌≤◌}
use Rattle.sched_base.specs.declared.limits.TheConstants.{MAX_CORES, MAX_ENTRIES, MAX_ROUNDS}
use Rattle.round_model.specs.declared.plan.Plan.{Plan}

-- the program can play the plan
pub record IsWithinLimits (plan : Plan) : Type 0 where
  pub few_cores : plan.cores ≤ MAX_CORES
  pub few_rounds : plan.rounds ≤ MAX_ROUNDS
  pub few_entries : plan.limit ≤ MAX_ENTRIES
