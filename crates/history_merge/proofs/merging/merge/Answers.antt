use Rattle.std.proofs.Common.{List, [], ◌∷◌, ◌++◌, sym, ap₂, ◌∙◌, arith}
use Rattle.std.proofs.lemmas.List.{take_more}
use Rattle.std.proofs.lemmas.Option.{get_or_from_slice_get, slice_get_within}
use Rattle.round_model.specs.declared.entry.Entry.{Entry}
use Rattle.history_merge.proofs.Walks.{none_beyond}
use Rattle.history_merge.proofs.merging.merge.Goals as goal

pub overflow_cast-count : goal.overflow_cast-count
overflow_cast-count c =
    let one = c.requires in let count = c.entry_count-count.ensures one.0 one.1 in let few = one.2 in omega arith

pub loop-at-init : goal.loop-at-init
loop-at-init c = record {
  entries = λ h logs. c.in_ok-entries.ensures.items;
  stand = c.start-cursors.ensures c.args.closed.now;
  len = c.in_ok-entries.ensures.len;
  room = c.in_ok-entries.ensures.capacity;
}

pub unreachable-requires : goal.unreachable-requires
unreachable-requires c =
    let one = c.requires in
    let none = sym (c.next_entry.ensures.entry one.0 one.1) ∙ c.in_default.is in
    let beyond = none_beyond one.0 c.loop-at.at none in
    let count = c.entry_count-count.ensures one.0 one.1 in
    let less = c.loop-at-test.true in omega arith

pub loop-at-preserved : goal.loop-at-preserved
loop-at-preserved c = record {
  entries = λ h logs.
      let there = sym (c.next_entry.ensures.entry h logs) ∙ c.in-Some.is in
      c.push_reserved.ensures.items
      ∙ (ap₂ (λ (es : List Entry) (e : Entry). es ++ e ∷ []) (c.loop-at.invariant.entries h logs) (sym (get_or_from_slice_get h c.loop-at.at c.in-Some.entry c.in-Some.entry there))
      ∙ sym (take_more h c.loop-at.at c.in-Some.entry (slice_get_within h c.loop-at.at c.in-Some.entry there)));
  stand = c.next_entry.ensures.stand;
  len = let len = c.push_reserved.ensures.len in let before = c.loop-at.invariant.len in omega arith;
  room = let same = c.push_reserved.ensures.capacity in let before = c.loop-at.invariant.room in omega arith;
}
