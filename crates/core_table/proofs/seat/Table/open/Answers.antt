use Rattle.std.proofs.Common.{length, ap, sym, ◌∙◌, arith}
use Rattle.round_model.specs.declared.plan.Plan.{Plan}
use Rattle.core_table.proofs.seat.Table.open.Goals as goal

pub invariant_of-table : goal.invariant_of-table
invariant_of-table c =
    let plan_is = c.in_ok-inner.ensures.key.1 in let cores = ap (λ (p : Plan). p.cores) plan_is in let items = c.in_ok-consts.ensures in record {
      opened = c.in_ok-inner.ensures.sits.opened;
      count = sym cores;
      same = ap length items ∙ c.requires.fits.consts_each;
      each = items ∙ ap (λ (p : Plan). p.consts) (sym plan_is);
      empty = ap length c.in_ok-room.ensures.items;
      roomy = let room = c.in_ok-room.ensures.capacity in omega arith;
    }
