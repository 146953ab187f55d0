use Rattle.std.proofs.Common.{ap, sym, subst}
use Rattle.policy_tree.specs.Meaning.{meaning_of}
use Rattle.core_table.specs.declared.views.View.{View}
use Rattle.core_table.specs.Told.{HasAllBack}
use Rattle.core_table.proofs.FirstRound.{back_first}
use Rattle.table_players.proofs.Fitting.{crowd_within, tried_handlers}
use Rattle.table_players.proofs.games.opened.Goals as goal

pub open-requires-clause-handlers : goal.open-requires-clause-handlers
open-requires-clause-handlers c = tried_handlers (meaning_of c.args.policy.now) c.requires.policy

pub open-requires-clause-limits : goal.open-requires-clause-limits
open-requires-clause-limits c = crowd_within c.args.plan.now c.requires.plan

pub returns-clause-seat : goal.returns-clause-seat
returns-clause-seat c =
    let seat = c.in_ok-table.ensures.seat in
    record {
      free = record {
        of = seat.of;
        back = subst HasAllBack (sym seat.view) (back_first c.args.policy.now c.args.plan.now);
        free = ap (λ (x : View). x.held) seat.view;
      };
      round = ap (λ (x : View). x.round) seat.view;
    }
