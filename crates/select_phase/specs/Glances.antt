-- What was read of each core, beside the positions.
use Rattle.std.specs.Prelude.{◌≡◌, ℕ, ◌<◌, List, length}
use Rattle.sched_base.specs.declared.limits.TheConstants.{MAX_CORES}
use Rattle.policy_eval.specs.declared.env.CoreValues.{CoreValues}
use Rattle.round_model.specs.declared.state.CountAndLoad.{CountAndLoad}
use Rattle.round_model.specs.Choices.{values_in}
use Rattle.core_table.specs.declared.views.View.{View}
use Rattle.select_phase.specs.Seen.{HasReadAll, values_read}

-- thread count and load of each core
abbrev pub seen_in : List CoreValues → ℕ → CountAndLoad
seen_in values c = record { nr = (values_in values c).nr; load = (values_in values c).load }

-- the seat read so much of each core, and nothing else is in the values
pub record AreGlanced (v : View) (reads : List ℕ) (values : List CoreValues) : Type 0 where
  pub long : length values ≡ MAX_CORES
  pub read : HasReadAll v reads (seen_in values)
  pub each : (c : ℕ) → c < v.plan.cores → values_in values c ≡ values_read v (seen_in values) c
