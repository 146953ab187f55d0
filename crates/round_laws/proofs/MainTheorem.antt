-- The main theorem, from the four laws.
use Rattle.policy_eval.proofs.Statements.{handler_obligations}
use Rattle.round_laws.specs.MainTheorem.{MainTheorem}
use Rattle.round_laws.proofs.FailedSteals.{failed_steals}
use Rattle.round_laws.proofs.OnePlace.{one_place_law}
use Rattle.round_laws.proofs.MoveObligations.{move_obligations}
use Rattle.round_laws.proofs.Rest.{rest_law}
use Rattle.round_laws.proofs.StillRounds.{still_rounds}

pub main_theorem : MainTheorem
main_theorem p meets plan history fits legal = record {
  one_place = one_place_law p plan history fits (handler_obligations p meets) legal;
  fails_explained = failed_steals p plan history fits meets legal;
  still_rounds = still_rounds p plan history fits meets legal;
  rest = rest_law p plan history fits (move_obligations p meets) legal;
}
