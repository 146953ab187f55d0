use Rattle.std.proofs.Common.{◌≡◌, map, take}
use Rattle.policy_tree.specs.Meaning.{meaning_of}
use Rattle.obligations.specs.Systems.{bound_of}
use Rattle.obligations.proofs.assembling.bounds_of.Given as goal

abbrev pub invariant-loop-variable : goal.invariant-loop-variable
invariant-loop-variable l = l.bounds.items ≡ map (bound_of (meaning_of l.policy)) (take l.variable-index l.vars)
