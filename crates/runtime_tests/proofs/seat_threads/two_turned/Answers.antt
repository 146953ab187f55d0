-- What the players share is shared, and one of them goes along.
use mathlib.Core.List.{◌∷◌, []}
use denote.Exit.{no}
use denote.Param.{param}
use denote.Param.Send.{IsSync, arg_send, param_send, sendable, shr_send}
use Rattle.core_calls.proofs.Crossing.{plan_sync, policy_sync, seat_send, table_sync, tuple_send}
use Rattle.table_players.proofs.Crossing.{player_send}
use Rattle.runtime_tests.proofs.seat_threads.two_turned.Goals as goal

pub join-requires-send-F : goal.join-requires-send-F
join-requires-send-F g c κs within =
    let runs : IsSync (param 0 g.row.R) = search sendable depth 4 in
    param_send 1 _ (arg_send _ no _ (tuple_send _ (_ ∷ _ ∷ _ ∷ _ ∷ _ ∷ [])
    (shr_send _ _ _ runs, (shr_send _ _ _ table_sync, (shr_send _ _ _ policy_sync, (shr_send _ _ _ plan_sync, (player_send, tt)))))))

pub join-requires-send-A : goal.join-requires-send-A
join-requires-send-A g c κs within = param_send 3 _ (arg_send _ no _ seat_send)
