-- The runtime is shared, and the table and its seat go along and come back.
use mathlib.Core.List.{◌∷◌, []}
use denote.Exit.{no}
use denote.Param.{param}
use denote.Param.Send.{IsSync, arg_send, param_send, sendable, shr_send}
use Rattle.core_calls.proofs.Crossing.{seat_send, table_send, tuple_send}
use Rattle.runtime_tests.proofs.tables.sent.Goals as goal

pub join-back-requires-send-F : goal.join-back-requires-send-F
join-back-requires-send-F g c κs within =
    let runs : IsSync (param 0 g.row.R) = search sendable depth 4 in
    param_send 1 _ (arg_send _ no _ (tuple_send _ (_ ∷ _ ∷ _ ∷ []) (shr_send _ _ _ runs, (table_send, (seat_send, tt)))))

pub join-back-requires-send-A : goal.join-back-requires-send-A
join-back-requires-send-A g c κs within = param_send 3 _ (arg_send _ no _ (tuple_send _ (_ ∷ _ ∷ []) (table_send, (seat_send, tt))))
