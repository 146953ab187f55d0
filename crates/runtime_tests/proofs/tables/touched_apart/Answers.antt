-- The runtime and the table are shared, and the seat goes along and comes back.
use mathlib.Core.List.{◌∷◌, []}
use denote.Exit.{no}
use denote.Param.{param}
use denote.Param.Send.{IsSync, arg_send, param_send, sendable, shr_send}
use Rattle.core_calls.proofs.Crossing.{seat_send, table_sync, tuple_send}
use Rattle.runtime_tests.proofs.tables.touched_apart.Goals as goal

pub join-requires-send-F : goal.join-requires-send-F
join-requires-send-F g c κs within =
    let runs : IsSync (param 0 g.row.R) = search sendable depth 4 in
    param_send 1 _ (arg_send _ no _ (tuple_send _ (_ ∷ _ ∷ _ ∷ []) (shr_send _ _ _ runs, (shr_send _ _ _ table_sync, (seat_send, tt)))))

pub join-requires-send-A : goal.join-requires-send-A
join-requires-send-A g c κs within = param_send 3 _ (arg_send _ no _ seat_send)
