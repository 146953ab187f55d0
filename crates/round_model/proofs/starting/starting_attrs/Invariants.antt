use Rattle.std.proofs.Common.{◌≡◌, ◌-◌, ◌++◌, map, take, replicate, pos}
use Rattle.sched_base.specs.declared.limits.TheConstants.{MAX_ATTRIBUTES}
use Rattle.round_model.specs.Programs.{start_of}
use Rattle.round_model.proofs.starting.starting_attrs.Given as goal

-- the attributes passed over have their starts
abbrev pub invariant-loop-at : goal.invariant-loop-at
invariant-loop-at l = l.attrs ≡ map start_of (take l.at l.policy.thread_attrs) ++ replicate (MAX_ATTRIBUTES - l.at) (pos 0)
