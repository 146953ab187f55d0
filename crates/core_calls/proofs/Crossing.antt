-- What acts at a table may go to another thread, and what it acts by may be shared, part by part. A search through all of a
-- policy at once would be too long.
use mathlib.Core.List.{List}
use mir.Syntax.{Sym, w32}
use denote.RattleType.{RattleType}
use denote.Param.Send.{AllSend, IsSend, IsSync, recorded_send, recorded_sync, sendable, struct_send, struct_sync}
use denote.Plain.{UInt}
use denote.Struct.Declared.{fields, shape}
use denote.Struct.Struct.{Struct}
use denote.Struct.Tuple.{TupleAt, type_at}
use Rattle.std.proofs.Crossing.{crosses}
use Rattle.policy_tree.proofs.trees.Cond.TheLaws.TheKnot.{crosses as cond_crosses}
use Rattle.policy_tree.proofs.trees.Expr.TheLaws.TheKnot.{crosses as expr_crosses}
use Rattle.policy_tree.proofs.typed.Attr.TheSendSync.{the_sync as attr_sync}
use Rattle.policy_tree.specs.contracts.typed.Batch as Batch
use Rattle.policy_tree.specs.contracts.typed.Case as Case
use Rattle.policy_tree.specs.contracts.typed.HandlerList as HandlerList
use Rattle.policy_tree.specs.contracts.typed.Key as Key
use Rattle.policy_tree.specs.contracts.typed.PlaceRule as PlaceRule
use Rattle.policy_tree.specs.contracts.typed.Set as Set
use Rattle.atomic_table.proofs.shared.Seat.TheSendSync.{the_send as atomic_seat_send}
use Rattle.atomic_table.proofs.owned.Table.TheSendSync.{the_field_send as owned_field_send, the_field_sync as owned_field_sync}
use Rattle.atomic_table.proofs.shared.Shared.TheSendSync.{the_send as shared_send, the_sync as shared_sync}
use Rattle.round_model.proofs.plan.Plan.TheSendSync.{the_sync as planned}
use Rattle.round_model.specs.contracts.plan.Plan as Plan
use Rattle.core_table.specs.contracts.seat.Seat as Seat
use Rattle.core_table.specs.contracts.seat.Table as Table
use Rattle.core_calls.specs.contracts.turned.Turned as Turned
use Rattle.sched_base.proofs.task.Task.TheSendSync.{the_send as task_send, the_sync as task_sync}
use Rattle.round_model.proofs.state.Blocked.TheSendSync.{the_send as blocked_send, the_sync as blocked_sync}
use Rattle.core_state.proofs.logged.Logged.TheSendSync.{the_send as logged_send, the_sync as logged_sync}
use Rattle.run_queue.proofs.line.Line.TheSendSync.{the_send as line_send, the_sync as line_sync}
use Rattle.run_queue.specs.contracts.queue.Queue as Queue
use Rattle.core_state.specs.contracts.state.CoreState as CoreState
use Rattle.policy_tree.specs.contracts.typed.Policy as Policy
use Rattle.policy_tree.specs.contracts.trees.Cond as Cond
use Rattle.policy_tree.specs.contracts.trees.Expr as Expr

pub expr_send : IsSend (Expr.the_field).row
expr_send = search (sendable, crosses, expr_crosses) depth 20

pub expr_sync : IsSync (Expr.the_field).row
expr_sync = search (sendable, crosses, expr_crosses) depth 20

pub cond_send : IsSend (Cond.the_field).row
cond_send = search (sendable, crosses, cond_crosses, expr_send) depth 20

pub cond_sync : IsSync (Cond.the_field).row
cond_sync = search (sendable, crosses, cond_crosses, expr_sync) depth 20

pub key_send : IsSend (Key.the_field).row
key_send = search (sendable, crosses, cond_send, expr_send) depth 20

pub key_sync : IsSync (Key.the_field).row
key_sync = search (sendable, crosses, cond_sync, expr_sync) depth 20

place_sync : IsSync (PlaceRule.the_field).row
place_sync = search (sendable, crosses, expr_sync) depth 20

set_sync : IsSync (Set.the_field).row
set_sync = search (sendable, crosses, expr_sync) depth 20

case_sync : IsSync (Case.the_field).row
case_sync = search (sendable, crosses, cond_sync, set_sync) depth 20

handlers_sync : IsSync (HandlerList.the_field).row
handlers_sync = search (sendable, crosses, case_sync) depth 20

batch_sync : IsSync (Batch.the_field).row
batch_sync = search (sendable, crosses, cond_sync) depth 20

policy_fields : IsSync (Policy.the_field).row
policy_fields = search (sendable, crosses, attr_sync, key_sync, cond_sync, place_sync, handlers_sync, batch_sync) depth 30

pub policy_sync : IsSync Policy.the_row
policy_sync = recorded_sync (Policy.the_field).row _ _ (Policy.the_type).to_one policy_fields

pub queue_send : IsSend Queue.the_row
queue_send = search (sendable, crosses, key_send, line_send) depth 20

pub core_send : IsSend CoreState.the_row
core_send = search (sendable, crosses, queue_send, task_send, blocked_send, logged_send) depth 20

pub queue_sync : IsSync Queue.the_row
queue_sync = search (sendable, crosses, key_sync, line_sync) depth 20

pub core_sync : IsSync CoreState.the_row
core_sync = search (sendable, crosses, queue_sync, task_sync, blocked_sync, logged_sync) depth 20

pub plan_sync : IsSync Plan.the_row
plan_sync = planned

pub seat_send : IsSend Seat.the_row
seat_send = search (sendable, crosses, atomic_seat_send, core_send, logged_send) depth 20

table_fields : IsSync (Table.the_field).row
table_fields = struct_sync (shape Table.the_type) (search (sendable, crosses, owned_field_sync, shared_sync, core_send, logged_send) depth 20, (search sendable, (search (sendable, crosses), (search (sendable, crosses, core_sync), tt))))

pub table_sync : IsSync Table.the_row
table_sync = recorded_sync (Table.the_field).row _ _ (Table.the_type).to_one table_fields

-- a tuple, and what a closure captures, by its parts
pub tuple_send : (ν : Sym) (Ts : List RattleType) → AllSend (fields (type_at ν Ts)) → IsSend (TupleAt ν Ts)
tuple_send ν Ts s = let T = type_at ν Ts in recorded_send (Struct (shape T)) _ _ T.to_one (struct_send (shape T) s)

table_moves : IsSend (Table.the_field).row
table_moves = struct_send (shape Table.the_type) (search (sendable, crosses, owned_field_send, shared_send, core_send, logged_send) depth 20, (search sendable, (search (sendable, crosses), (search (sendable, crosses, core_send), tt))))

pub table_send : IsSend Table.the_row
table_send = recorded_send (Table.the_field).row _ _ (Table.the_type).to_one table_moves

pub seat_moves : IsSend (Seat.the_field).row
seat_moves = search (sendable, crosses, atomic_seat_send, core_send, logged_send) depth 20

pub turned_send : IsSend Turned.the_row
turned_send = search sendable depth 20

pub number_sync : IsSync (UInt w32)
number_sync = search sendable
