-- One entry more, each time round, until the lines end or one is bad.
use Rattle.std.proofs.Common.{inl, inr, ℕ, ◌+◌, ◌<◌, [], ◌∷◌, length, length-append, ap₂, sym, subst, ◌∙◌, arith}
use Rattle.std.proofs.lemmas.Grind.{common_steps}
use Rattle.sched_base.specs.declared.limits.TheConstants.{MAX_ENTRIES}
use Rattle.sched_history.specs.declared.forms.LineForm.{LineForm}
use Rattle.sched_history.specs.Lines.{form_behind}
use Rattle.sched_history.proofs.EntryLines.{form_after-push}
use Rattle.history_reader.specs.Reading.{BeginsWith, BeginsWithNone}
use Rattle.history_reader.proofs.Pushes.{bad_behind, printable_push, read_push, right_after}
use Rattle.history_reader.proofs.reading.read_lines.Goals as goal

pub returns-then-count-eq-MAX_ENTRIES-clause-fault : goal.returns-then-count-eq-MAX_ENTRIES-clause-fault
returns-then-count-eq-MAX_ENTRIES-clause-fault c =
    let now = c.loop-rest.invariant in let items = c.loop-rest.entries.items in
    let some : 0 < length c.loop-rest.rest.now = grind (arith, common_steps, c.is_empty.ensures, c.loop-rest-test.true) in (
      length items + 1,
      bad_behind c.args.first c.args.lines.now c.loop-rest.rest.now items now.read now.printable some
          (inl (omega (arith, now.count, c.if-count-eq-MAX_ENTRIES.true))),
      omega (arith, now.count),
    )

pub entry_at-requires : goal.entry_at-requires
entry_at-requires c =
    let now = c.loop-rest.invariant in
    rw now.form (right_after c.args.first c.loop-rest.entries.items c.requires.form now.printable.few)

pub returns-in-None-clause-fault : goal.returns-in-None-clause-fault
returns-in-None-clause-fault c =
    let now = c.loop-rest.invariant in let items = c.loop-rest.entries.items in
    let some : 0 < length c.loop-rest.rest.now = grind (arith, common_steps, c.is_empty.ensures, c.loop-rest-test.true) in (
      length items + 1,
      bad_behind c.args.first c.args.lines.now c.loop-rest.rest.now items now.read now.printable some
          (inr (subst (λ (f : LineForm). BeginsWithNone f c.loop-rest.rest.now) now.form c.in-None.ensures)),
      omega (arith, now.count),
    )

pub loop-rest-preserved : goal.loop-rest-preserved
loop-rest-preserved c =
    let now = c.loop-rest.invariant in let items = c.loop-rest.entries.items in
    let (e, behind) = c.in-Some.found in
    let begins = subst (λ (f : LineForm). BeginsWith f c.loop-rest.rest.now e behind.now) now.form c.in-Some.ensures in
    let room : length items < MAX_ENTRIES = omega (arith, now.count, now.printable.few, c.if-count-eq-MAX_ENTRIES.false) in
    rw c.in_ok-push.ensures.items (record {
      read = read_push c.args.first c.args.lines.now c.loop-rest.rest.now behind.now items e now.read begins;
      printable = printable_push c.args.first items e room now.printable begins.0;
      count = omega (arith, now.count, length-append items (e ∷ []));
      form = c.behind-form.ensures
          ∙ (ap₂ (λ (n : ℕ) (f : LineForm). form_behind n e f) (omega (arith, now.count)) now.form
          ∙ sym (form_after-push 0 c.args.first items e));
    })
