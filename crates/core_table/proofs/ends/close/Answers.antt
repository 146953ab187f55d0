use Rattle.std.proofs.Common.{arith, ◌≡◌, ℕ, ◌+◌, ◌<◌, List, length, get_or, set, false, sym, ap, ◌∙◌, subst, ⊎_elim, length-append, get_or-set_other, get_or-set_same}
use Rattle.std.specs.Mem.Slots.{slots_counts, slots_filled, slots_items}
use mathlib.Core.Logic.{dite}
use mathlib.Core.Option.{some, some-injective}
use native.Mathlib.Decide.{ℕ_discrete}
use lib.ListN.{get_elem?}
use Rattle.round_model.proofs.Grows.{at_end}
use Rattle.core_state.specs.declared.logged.Logged.{Logged}
use Rattle.core_state.specs.Views.{ClosedView, CoreView}
use Rattle.core_table.specs.declared.slots.Slot.{Slot}
use Rattle.core_table.specs.declared.slots.Slot.TheVariants as slot
use Rattle.core_table.specs.Ends.{IsClosed}
use Rattle.core_table.proofs.Calls.{slot_core, slot_rounds}
use Rattle.core_table.proofs.Closing.{all_left, closes}
use Rattle.core_table.proofs.ends.close.Goals as goal

pub unreachable-requires : goal.unreachable-requires
unreachable-requires c =
    let t = c.requires.table in
    let f = all_left c.args.place.me.0 c.args.place.id _ _ c.requires.back c.requires.free _ _ _ t c.close_with-closed.ensures.values.2 in
    let n = ap (λ p. p.cores) t.of_opening.plan in let k = c.requires.cores in let l = c.loop-core-test.true in let x = f.2 c.loop-core.core (omega arith) in
    c.in_default.not-Core x.0 (some-injective _ _ (sym c.take.ensures.value ∙ (ap (λ (l : List Slot). get_elem? l c.loop-core.core) c.loop-core.invariant.slots ∙ (x.1 ∙ ap some (slot_core c.args.place.me.0.plan.cores c.loop-core.core x.0 (omega arith))))))

pub loop-core-preserved : goal.loop-core-preserved
loop-core-preserved c =
    let i = c.loop-core.invariant in let k₀ : ℕ = c.loop-core.core in let o = c.take.ensures.others in
    let long : k₀ < length (slots_filled c.loop-core.closed.slots) = let a = (slots_counts c.loop-core.closed.slots).1 in let b = c.close_with-closed.ensures.counts.1 in let d = c.requires.table.opened.slots in let q = c.requires.cores in let e = i.count in let t = c.loop-core-test.true in omega (arith, a, b, d, e, t) in record {
      len = ap length c.push_reserved.ensures.items ∙ (length-append _ _ ∙ ap (λ (n : ℕ). n + 1) i.len);
      room = c.push_reserved.ensures.capacity ∙ i.room;
      slots = o.0 ∙ i.slots;
      count = o.2 ∙ i.count;
      left = λ k low high. ap (λ l. get_or l k false) o.1 ∙ (get_or-set_other (slots_filled c.loop-core.closed.slots) k₀ k false false (λ e. omega arith) ∙ i.left k (omega arith) high);
      gone = λ k low. dite (ℕ_discrete k k₀)
          (λ hit. ap (λ l. get_or l k false) o.1 ∙ (ap (λ n. get_or (set (slots_filled c.loop-core.closed.slots) k₀ false) n false) hit ∙ get_or-set_same (slots_filled c.loop-core.closed.slots) k₀ false false long))
          (λ miss. ap (λ l. get_or l k false) o.1 ∙ (get_or-set_other (slots_filled c.loop-core.closed.slots) k₀ k false false miss ∙ i.gone k (omega arith)));
      got = λ k y e. ⊎_elim (λ old. i.got k y old.1)
          (λ new. sym (ap (λ (l : List Slot). get_elem? l k) i.slots) ∙ (ap (get_elem? (slots_items c.loop-core.closed.slots)) (new.0 ∙ i.len) ∙ (c.take.ensures.value ∙ (ap some c.in-Core.is ∙ ap (λ (z : CoreView). some (slot.Core z)) new.1))))
          (at_end c.loop-core.room.items c.in-Core.state y k (sym (ap (λ l. get_elem? l k) c.push_reserved.ensures.items) ∙ e));
    }

pub unreachable-requires-in_default-take : goal.unreachable-requires-in_default-take
unreachable-requires-in_default-take c =
    let t = c.requires.table in
    let f = all_left c.args.place.me.0 c.args.place.id _ _ c.requires.back c.requires.free _ _ _ t c.close_with-closed.ensures.values.2 in
    let n = ap (λ p. p.cores) t.of_opening.plan in let k = c.requires.cores in let x = f.2 c.args.cores (omega arith) in
    c.in_default-take.not-Rounds (record { entries = x.0.log; room = x.0.log_room }) (some-injective _ _ (sym c.take-2.ensures.value ∙ (ap (λ (l : List Slot). get_elem? l c.args.cores) c.loop-core.invariant.slots ∙ (x.1 ∙ ap some (slot_rounds c.args.place.me.0.plan.cores c.args.cores x.0 (omega arith))))))

pub returns : goal.returns
returns c =
    let t = c.requires.table in let v = c.args.place.me.0 in let i = c.loop-core.invariant in
    let f = all_left v c.args.place.id _ _ c.requires.back c.requires.free _ _ _ t c.close_with-closed.ensures.values.2 in
    let n = ap (λ p. p.cores) t.of_opening.plan in let k = c.requires.cores in let len = i.len in let over = c.loop-core-test.false in let more = c.loop-core.auto.core-end in
    let cores_are : c.args.cores ≡ v.plan.cores = omega arith in let log = c.in-Rounds.rounds in
    let last = ap (get_elem? (slots_items c.close_with-closed.result.slots)) (sym cores_are) ∙ (sym (ap (λ (l : List Slot). get_elem? l c.args.cores) i.slots) ∙ (c.take-2.ensures.value ∙ ap some c.in-Rounds.is)) in
    let closed = closes v f.0 c.loop-core.room.items log (slots_items c.close_with-closed.result.slots) f.1 f.2 (omega arith) i.got last in
    let is = c.new.ensures ∙ ap (λ (rounds : List Logged). let all : ClosedView = record { cores = c.loop-core.room.items; rounds = rounds } in all) c.into_entries.ensures in
    record { closed = subst (IsClosed v) (sym is) closed }
