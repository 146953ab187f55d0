use Rattle.std.proofs.Common.{◌+◌, ap, sym, subst, arith}
use Rattle.round_model.specs.declared.plan.Plan.{Plan}
use Rattle.core_table.specs.Public.{view_of}
use Rattle.parallel_play.specs.Playing.{IdleFrom}
use Rattle.parallel_play.proofs.Seating.{is_idle, left_idle}
use Rattle.serial_tests.proofs.hand_turns.split_off.Goals as goal

pub split_for_core-requires-clause-idle : goal.split_for_core-requires-clause-idle
split_for_core-requires-clause-idle c =
    let cores = ap (λ (p : Plan). p.cores) c.requires.seat.opening.plan in let low = c.requires.core in
    is_idle c.args.core (view_of c.args.seat.now) (omega arith) c.requires.idle

pub returns-clause-left : goal.returns-clause-left
returns-clause-left c =
    let left = c.split_for_core.ensures.left in
    (left.of, record { view = left.view; idle = subst (IdleFrom (c.args.core + 1)) (sym left.view) (left_idle c.args.core (view_of c.args.seat.now) c.requires.idle) })
