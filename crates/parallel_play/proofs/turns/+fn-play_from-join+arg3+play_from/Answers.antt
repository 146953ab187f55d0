use Rattle.std.proofs.Common.{ap, arith}
use Rattle.round_model.specs.declared.plan.Plan.{Plan}
use Rattle.core_table.specs.Public.{view_of}
use Rattle.parallel_play.specs.Playing.{merged_in}
use mathlib.Core.List.{◌∷◌, []}
use denote.Exit.{no}
use denote.Param.{param}
use denote.Param.Send.{IsSync, arg_send, param_send, sendable, shr_send}
use Rattle.core_calls.proofs.Crossing.{number_sync, plan_sync, policy_sync, seat_send, table_sync, tuple_send, turned_send}
use Rattle.parallel_play.proofs.Seating.{played_more, played_none}
use Rattle.parallel_play.proofs.turns.+fn-play_from-join+arg3+play_from.Goals as goal

pub returns-then-core-cores-clause-played : goal.returns-then-core-cores-clause-played
returns-then-core-cores-clause-played g t c =
    let cores = ap (λ (p : Plan). p.cores) c.requires.seat.opening.plan in let count = c.cores.ensures in let high = c.if-core-cores.true in
    played_none c.args.core c.args.tally (view_of c.args.seat) (omega arith) c.requires.idle (let small = c.args.tally.small in omega arith)

pub join-own-requires-send-F : goal.join-own-requires-send-F
join-own-requires-send-F g t c κs within =
    let runs : IsSync (param 0 g.row.R) = search sendable depth 4 in let gates : IsSync (param 1 g.row.G) = search sendable depth 4 in
    param_send 1 _ (arg_send _ no _ (tuple_send _ (_ ∷ _ ∷ _ ∷ _ ∷ _ ∷ _ ∷ _ ∷ _ ∷ [])
    (shr_send _ _ _ runs, (shr_send _ _ _ table_sync, (shr_send _ _ _ policy_sync, (shr_send _ _ _ plan_sync, (shr_send _ _ _ number_sync, (shr_send _ _ _ gates, (seat_send, (shr_send _ _ _ number_sync, tt))))))))))

pub join-own-requires-send-A : goal.join-own-requires-send-A
join-own-requires-send-A g t c κs within = param_send 3 _ (arg_send _ no _ (tuple_send _ (_ ∷ _ ∷ []) (seat_send, (turned_send, tt))))

pub take_back-requires-clause-seat : goal.take_back-requires-clause-seat
take_back-requires-clause-seat g t c = c.join-own.ensures.second.0

pub take_back-requires-clause-own : goal.take_back-requires-clause-own
take_back-requires-clause-own g t c = c.join-own.ensures.first.0

pub take_back-requires-clause-back : goal.take_back-requires-clause-back
take_back-requires-clause-back g t c =
    let played = c.join-own.ensures.second.1 in let turned = c.join-own.ensures.first.1 in
    record {
      opening = record { merged = merged_in (view_of c.split_off-left.result.0).role; turns = played.turns; role = played.role };
      free = record { core = c.args.core; of_core = turned.of_core; free = turned.free };
    }

pub returns-clause-played : goal.returns-clause-played
returns-clause-played g t c =
    let cores = ap (λ (p : Plan). p.cores) c.requires.seat.opening.plan in let count = c.cores.ensures in let low = c.if-core-cores.false in
    played_more c.args.core c.args.tally c.join-own.result.1.1 c.take_back.result.1 (view_of c.args.seat) (view_of c.split_off-left.result.0) (view_of c.join-own.result.1.0) (view_of c.join-own.result.0.0)
    (view_of c.take_back.result.0) c.join-own.result.0.1 c.requires.idle c.split_off-left.ensures.left.1 c.join-own.ensures.second.1 (view_of c.split_off-left.result.1) c.join-own.ensures.first.1
    c.take_back.ensures.joined c.take_back.ensures.counted (omega arith)
