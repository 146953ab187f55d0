-- None of the cores so far may steal from another.
use Rattle.std.proofs.Common.{◌≡◌, false, take}
use Rattle.std.specs.List.{list_any}
use Rattle.policy_tree.specs.Meaning.{meaning_of}
use Rattle.round_model.specs.Cores.{core_numbers}
use Rattle.sched_report.specs.Code.Openings.{core_at}
use Rattle.sched_report.specs.Rests.{has_victim}
use Rattle.sched_report.proofs.resting.is_restless.Given as goal

abbrev pub invariant-loop-thief : goal.invariant-loop-thief
invariant-loop-thief l = list_any (has_victim (meaning_of l.policy) l.plan (core_at l.state)) (take l.thief (core_numbers l.plan)) ≡ false
