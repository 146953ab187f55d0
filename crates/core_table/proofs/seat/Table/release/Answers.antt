use Rattle.std.proofs.Common.{ap, sym, subst, ◌∙◌}
use Rattle.std.proofs.lemmas.Grind.{merely}
use Rattle.atomic_table.specs.Table.{rest}
use Rattle.core_table.specs.declared.views.View.{View}
use Rattle.core_table.specs.Told.{IsKnown}
use Rattle.core_table.specs.Opened.{emptied}
use Rattle.core_table.specs.Views.{is_live}
use Rattle.core_table.proofs.Giving.{giving_live}
use Rattle.core_table.proofs.Known.{given_slots}
use Rattle.core_table.proofs.seat.Table.release.Goals as goal

pub invariant_of-seat : goal.invariant_of-seat
invariant_of-seat c = let s = c.args.seat.now in let h = c.release.ensures.home in let v = ap (λ m. m.0) h.now in record {
  carries = ap (λ m. m.1) h.now ∙ (ap rest s.carries ∙ (given_slots s.place.me.0.held ∙ ap (λ (w : View). emptied w.held) (sym v)));
  starts = s.starts ∙ ap (λ (w : View). w.start) (sym v);
  live = ap (λ (w : View). is_live w.role) v ∙ giving_live s.place.me.0 s.live;
  known = merely (subst IsKnown (sym v) h.known);
}
