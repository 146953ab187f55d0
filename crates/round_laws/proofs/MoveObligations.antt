-- A policy that meets its obligations meets those that moves need.
use Rattle.policy_tree.specs.Meaning.{Meaning}
use Rattle.policy_eval.specs.Obligations.{MeetsObligations}
use Rattle.policy_eval.proofs.Statements.{balance_obligations, handler_obligations}
use Rattle.round_laws.specs.Rest.{MeetsMoveObligations}

pub move_obligations : (p : Meaning) → MeetsObligations p → MeetsMoveObligations p
move_obligations p meets =
    let balance = balance_obligations p meets in
    record {
      victim_is_overloaded = balance.victim_is_overloaded;
      move_narrows_gap = balance.move_narrows_gap;
      further_move_narrows_gap = balance.further_move_narrows_gap;
      handlers = handler_obligations p meets;
    }
