use Rattle.std.proofs.Common.{◌+◌, [], length, sym, ap, subst, ◌∙◌}
use lib.ListN.{length-replicate}
use Rattle.round_model.specs.declared.plan.Plan.{Plan}
use Rattle.core_table.specs.declared.views.View.{View}
use Rattle.core_table.proofs.Opening.{first_agrees, opens, sits_first}
use Rattle.core_table.proofs.ends.open.Goals as goal

pub new-requires : goal.new-requires
new-requires c = opens c.args.policy.now c.args.plan.now (record { policy = c.of.result; plan = c.of-2.result }) c.in_ok-slots.slots.items c.as_slice.result.now c.requires.fits c.requires.limits c.requires.handlers c.in_ok-slots.ensures
    (c.as_slice.ensures.value ∙ c.in_ok-words.ensures.items_if_clones_equal (λ y e. e)) c.of.ensures c.of-2.ensures

pub returns-in-Ok-clause-sits : goal.returns-in-Ok-clause-sits
returns-in-Ok-clause-sits c = let o = c.in-Ok.ensures.ok in
    sits_first (record { policy = c.of.result; plan = c.of-2.result }) c.in-Ok.made.0.shared.key c.in-Ok.made.0.shared.table_id c.in-Ok.made.1.table_id c.in-Ok.made.1.me.0 o.5 o.2 (ap (λ m. m.0) o.4)
    (o.0 ∙ (ap length (c.as_slice.ensures.value ∙ c.in_ok-words.ensures.items_if_clones_equal (λ y e. e)) ∙ (length-replicate (c.args.plan.now.cores + 2) 0 ∙ ap (λ (p : Plan). p.cores + 2) (sym c.of-2.ensures))))
    (o.1 ∙ (c.in_ok-slots.ensures.count ∙ ap (λ (p : Plan). p.cores + 1) (sym c.of-2.ensures)))

pub returns-in-Ok-clause-known : goal.returns-in-Ok-clause-known
returns-in-Ok-clause-known c = let o = c.in-Ok.ensures.ok in (
  [],
  subst (λ (v : View). Rattle.core_table.specs.Told.Agrees v [])
      (sym (ap (λ m. m.0) o.4 ∙ (λ i. Rattle.core_table.specs.Views.first_view (c.of.ensures i) (c.of-2.ensures i))))
      (first_agrees c.args.policy.now c.args.plan.now c.requires.fits c.requires.limits c.requires.handlers),
)
