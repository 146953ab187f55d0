use Rattle.std.proofs.Common.{arith, ap, ◌∙◌}
use Rattle.core_table.specs.declared.views.View.{View}
use Rattle.core_table.specs.Views.{is_live}
use Rattle.core_table.proofs.Calls.{join_ok}
use Rattle.core_table.proofs.Joining.{joining_live}
use Rattle.core_table.proofs.cuts.join_to.Goals as goal

pub join_seat-requires : goal.join_seat-requires
join_seat-requires c = let w = c.requires.table.opened.words in (
  c.requires.table.table_is,
  c.requires.other.table_is,
  c.requires.slots,
  omega arith,
  join_ok c.args.shared.now.table_id c.args.shared.now.key c.args.place.now.table_id c.args.place.now.id c.args.place.now.me c.requires.table c.args.other.id c.args.other.me.0 c.requires.opening c.requires.free,
)

pub tell-requires : goal.tell-requires
tell-requires c = let t = c.requires.table in let e = c.join_seat.ensures in let v_is = ap (λ m. m.0) e.2 in record {
  table = record {
    table_is = e.0 ∙ t.table_is;
    of_opening = record { policy = ap (λ (v : View). v.policy) v_is ∙ t.of_opening.policy; plan = ap (λ (v : View). v.plan) v_is ∙ t.of_opening.plan };
    live = ap (λ (v : View). is_live v.role) v_is ∙ joining_live c.args.place.now.me.0 c.args.other.me.0 c.requires.free.core c.requires.opening c.requires.free.of_core;
    opened = t.opened;
  };
}
