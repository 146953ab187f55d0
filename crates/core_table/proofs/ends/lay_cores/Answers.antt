use Rattle.std.proofs.Common.{arith, ℕ, ◌+◌, ◌≤◌, List, length, sym, ap, ◌∙◌, subst, length-append}
use mathlib.Core.Logic.{dite}
use mathlib.Core.Option.{some}
use native.Mathlib.Decide.{ℕ_discrete}
use lib.ListN.{get_elem?}
use Rattle.atomic_table.proofs.Lists.{at_last, at_longer}
use Rattle.policy_tree.specs.Meaning.{meaning_of}
use Rattle.core_state.specs.Views.{CoreView}
use Rattle.core_table.specs.declared.slots.Slot.{Slot}
use Rattle.core_table.specs.declared.slots.Slot.TheVariants as slot
use Rattle.core_table.specs.Ends.{opening_core}
use Rattle.core_table.proofs.ends.lay_cores.Goals as goal

pub loop-core-preserved : goal.loop-core-preserved
loop-core-preserved c =
    let i = c.loop-core.invariant in let l = c.loop-core.slots.items in let e = c.push_reserved.ensures.items in let y : CoreView = opening_core (meaning_of c.args.policy.now) c.args.plan.now c.loop-core.core in
    let state = c.in_ok-open.ensures in record {
      laid = record {
        count = ap length e ∙ (length-append l _ ∙ ap (λ (n : ℕ). n + 1) i.laid.count);
        each = λ k low. dite (ℕ_discrete k c.loop-core.core)
            (λ hit. ap (λ (z : List Slot). get_elem? z k) e ∙ (at_last l _ k (i.laid.count ∙ sym hit) ∙ (ap (λ (z : CoreView). some (slot.Core z)) state ∙ ap (λ n. some (slot.Core (opening_core (meaning_of c.args.policy.now) c.args.plan.now n))) (sym hit))))
            (λ miss. ap (λ (z : List Slot). get_elem? z k) e ∙ at_longer l _ k _ (i.laid.each k (omega arith)));
      };
      room = subst (λ n. c.args.plan.now.cores + 1 ≤ n) (sym c.push_reserved.ensures.capacity) i.room;
    }
