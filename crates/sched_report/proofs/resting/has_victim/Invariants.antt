-- The thief may steal from none of the cores so far.
use Rattle.std.proofs.Common.{◌≡◌, false, take}
use Rattle.std.specs.List.{list_any}
use Rattle.policy_tree.specs.Meaning.{meaning_of}
use Rattle.round_model.specs.Attempts.{present_values}
use Rattle.round_model.specs.Choices.{is_candidate}
use Rattle.round_model.specs.Cores.{core_numbers}
use Rattle.sched_report.specs.Code.Openings.{core_at}
use Rattle.sched_report.proofs.resting.has_victim.Given as goal

abbrev pub invariant-loop-victim : goal.invariant-loop-victim
invariant-loop-victim l =
    list_any (is_candidate (meaning_of l.policy) (present_values l.plan (core_at l.state)) l.thief) (take l.victim (core_numbers l.plan)) ≡ false
