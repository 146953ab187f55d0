-- Each of the entries so far has a line.
use Rattle.std.proofs.Common.{◌≡◌, ℕ, ◌<◌, take, get_or}
use Rattle.round_model.specs.declared.entry.Entry.{Entry}
use Rattle.round_model.specs.Reads.{round_start}
use Rattle.sched_history.specs.declared.forms.LineForm.TheVariants as form
use Rattle.sched_history.specs.Ranges.{IsPrintable}
use Rattle.reader_tests.proofs.entries.have_lines.Given as goal

abbrev pub invariant-loop-entry : goal.invariant-loop-entry
invariant-loop-entry l = record {
  start : l.start ≡ round_start (take l.entry-index l.entries);
  count : l.count ≡ l.entry-index;
  lines : (k : ℕ) (d : Entry) → k < l.entry-index → IsPrintable (form.Second l.cores (round_start (take k l.entries))) (get_or l.entries k d);
}
