use Rattle.std.proofs.Common.{◌≡◌, ℕ, ◌<◌, ◌≤◌, length, vec_capacity, true, false, get_or}
use mathlib.Core.Option.{some}
use lib.ListN.{get_elem?}
use Rattle.std.specs.Mem.Slots.{slots_filled, slots_items, slots_len}
use Rattle.core_state.specs.Views.{CoreView}
use Rattle.core_table.specs.declared.slots.Slot.TheVariants as slot
use Rattle.core_table.proofs.ends.close.Given as goal

-- the first slots are empty, and what was in them stands in the vector
abbrev pub invariant-loop-core : goal.invariant-loop-core
invariant-loop-core l = record {
  len : length l.room.items ≡ l.core;
  room : vec_capacity l.room ≡ vec_capacity l.initial.room;
  slots : slots_items l.closed.slots ≡ slots_items l.initial.closed.slots;
  count : slots_len l.closed.slots ≡ slots_len l.initial.closed.slots;
  left : (k : ℕ) → l.core ≤ k → k ≤ l.fn.cores → get_or (slots_filled l.closed.slots) k false ≡ true;
  gone : (k : ℕ) → k < l.core → get_or (slots_filled l.closed.slots) k false ≡ false;
  got : (k : ℕ) (y : CoreView) → get_elem? l.room.items k ≡ some y → get_elem? (slots_items l.initial.closed.slots) k ≡ some (slot.Core y);
}
