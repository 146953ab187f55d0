use Rattle.std.proofs.Common.{◌+◌, ◌≤◌, vec_capacity}
use Rattle.policy_tree.specs.Meaning.{meaning_of}
use Rattle.core_table.specs.Ends.{CoresLaid}
use Rattle.core_table.proofs.ends.lay_cores.Given as goal

-- the cores so far, and room for the others and the log of the rounds
abbrev pub invariant-loop-core : goal.invariant-loop-core
invariant-loop-core l = record { laid : CoresLaid (meaning_of l.policy) l.plan l.slots.items l.core; room : l.plan.cores + 1 ≤ vec_capacity l.slots }
