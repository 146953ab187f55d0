-- A player may go to another thread, part by part.
use denote.Param.Send.{IsSend, recorded_send, sendable, struct_send}
use denote.Struct.Declared.{shape}
use Rattle.core_calls.proofs.Crossing.{seat_moves}
use Rattle.table_players.proofs.players.Stage.TheSendSync.{the_field_send as stage_moves}
use Rattle.table_players.specs.contracts.players.Player as Player

player_moves : IsSend (Player.the_field).row
player_moves = struct_send (shape Player.the_type) (search sendable, (seat_moves, (stage_moves, tt)))

pub player_send : IsSend Player.the_row
player_send = recorded_send (Player.the_field).row _ _ (Player.the_type).to_one player_moves
