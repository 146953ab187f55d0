-- One entry more, each time round.
use Rattle.std.proofs.Common.{◌≡◌, ◌+◌, ◌<◌, ℕ, cond, List, length, take, get_or, sym, subst, ◌∙◌, ap, ap₂, arith, rules}
use Rattle.round_model.specs.declared.entry.Entry.{Entry}
use Rattle.round_model.specs.Kinds.{is_round}
use Rattle.round_model.specs.Reads.{round_start}
use Rattle.sched_history.specs.declared.forms.LineForm.TheVariants as form
use Rattle.sched_history.specs.Ranges.{IsPrintable}
use Rattle.sched_history.proofs.Writing.{start_next}
use Rattle.reader_tests.proofs.EachLine.{EachBefore, all_lines, each_more}
use Rattle.reader_tests.proofs.entries.have_lines.Goals as goal

pub loop-entry-preserved : goal.loop-entry-preserved
loop-entry-preserved c =
    let entries = c.args.entries.now in let at : ℕ = c.loop-entry.entry-index in let e = c.entry-item.result in
    let cores : ℕ = c.args.cores in let now = c.loop-entry.invariant in
    let inside : at < length entries = omega arith in
    let printable : IsPrintable (form.Second cores c.loop-entry.start) e = search rules in
    let here = subst (λ (n : ℕ). IsPrintable (form.Second cores n) (get_or entries at e)) now.start
    (subst (λ (x : Entry). IsPrintable (form.Second cores c.loop-entry.start) x) c.entry-item.is printable) in
    record {
      start = c.start_behind-start.ensures
          ∙ (ap₂ (λ (n k : ℕ). cond (is_round e) (n + 1) k) now.count now.start
          ∙ (ap (λ (x : Entry). cond (is_round x) (at + 1) (round_start (take at entries))) c.entry-item.is
          ∙ sym (start_next entries at e inside)));
      count = ap (λ (n : ℕ). n + 1) now.count;
      lines = each_more cores entries at e inside now.lines here;
    }

pub returns : goal.returns
returns c =
    let entries = c.args.entries.now in let cores : ℕ = c.args.cores in
    let end : c.loop-entry.entry-index ≡ length entries = omega (arith, c.loop-entry-test.false, c.loop-entry.auto.entry-index-end) in
    λ _. all_lines cores entries (subst (λ (n : ℕ). EachBefore cores entries n) end c.loop-entry.invariant.lines)
