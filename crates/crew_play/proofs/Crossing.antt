-- A worker's hands may go to another thread, part by part.
use denote.Param.Send.{IsSend, recorded_send, sendable, struct_send}
use denote.Struct.Declared.{shape}
use Rattle.std.proofs.Crossing.{crosses}
use Rattle.core_calls.proofs.Crossing.{seat_send}
use Rattle.turn_steps.proofs.turning.Turning.TheSendSync.{the_field_send as turning_send}
use Rattle.crew_play.specs.contracts.hands.Hand as Hand

hand_moves : IsSend (Hand.the_field).row
hand_moves = struct_send (shape Hand.the_type) (search (sendable, crosses, seat_send) depth 20, (turning_send, tt))

pub hand_send : IsSend Hand.the_row
hand_send = recorded_send (Hand.the_field).row _ _ (Hand.the_type).to_one hand_moves
