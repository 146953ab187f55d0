use Rattle.std.proofs.Common.{ap, sym, subst, ◌∙◌}
use Rattle.std.proofs.Math.Logic.{∥∥₁_map}
use Rattle.core_table.specs.declared.views.View.{View}
use Rattle.core_table.specs.Told.{IsKnown}
use Rattle.core_table.specs.Opened.{emptied}
use Rattle.core_table.specs.Views.{is_live}
use Rattle.core_table.proofs.Joining.{leaving_live}
use Rattle.core_table.proofs.Known.{leaving_known, seat_known, seat_live}
use Rattle.core_table.proofs.seat.Table.split_for_core.Goals as goal

pub invariant_of-seat : goal.invariant_of-seat
invariant_of-seat c = let s = c.args.seat.now in let i = c.requires.idle in let m = c.split_off-place.ensures.left in let v = ap (λ x. x.0) m in record {
  carries = ap (λ x. x.1) m ∙ (s.carries ∙ ap (λ (w : View). emptied w.held) (sym v));
  starts = s.starts ∙ ap (λ (w : View). w.start) (sym v);
  live = ap (λ (w : View). is_live w.role) v ∙ leaving_live s.place.me.0 c.args.core i.opening;
  known = ∥∥₁_map s.known (λ k. subst IsKnown (sym v) (leaving_known s.place.me.0 c.args.core i.opening k));
}

pub invariant_of-result : goal.invariant_of-result
invariant_of-result c = let s = c.args.seat.now in let i = c.requires.idle in let m = c.split_off-place.ensures.right.1 in let v = ap (λ x. x.0) m in record {
  carries = ap (λ x. x.1) m ∙ ap (λ (w : View). emptied w.held) (sym v);
  starts = s.starts ∙ ap (λ (w : View). w.start) (sym v);
  live = ap (λ (w : View). is_live w.role) v ∙ seat_live c.args.core s.place.me.0;
  known = ∥∥₁_map s.known (λ k. subst IsKnown (sym v) (seat_known s.place.me.0 c.args.core i c.requires.round k));
}
