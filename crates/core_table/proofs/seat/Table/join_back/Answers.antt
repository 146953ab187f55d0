use Rattle.std.proofs.Common.{ap, sym, ◌∙◌}
use Rattle.std.proofs.lemmas.Grind.{merely}
use Rattle.core_table.specs.declared.views.View.{View}
use Rattle.core_table.specs.Opened.{emptied}
use Rattle.core_table.specs.Views.{is_live}
use Rattle.core_table.proofs.Joining.{joining_live}
use Rattle.core_table.proofs.seat.Table.join_back.Goals as goal

pub invariant_of-seat : goal.invariant_of-seat
invariant_of-seat c = let s = c.args.seat.now in let f = c.requires.free in let m = c.join_to.ensures.joined.0 in let v = ap (λ x. x.0) m in record {
  carries = ap (λ x. x.1) m ∙ (s.carries ∙ ap (λ (w : View). emptied w.held) (sym v));
  starts = s.starts ∙ ap (λ (w : View). w.start) (sym v);
  live = ap (λ (w : View). is_live w.role) v ∙ joining_live s.place.me.0 c.args.other.place.me.0 f.core c.requires.opening f.of_core;
  known = merely c.join_to.ensures.joined.1;
}
