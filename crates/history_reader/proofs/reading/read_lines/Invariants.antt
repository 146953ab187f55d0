use Rattle.std.proofs.Common.{◌≡◌, ◌++◌, length}
use Rattle.sched_history.specs.Lines.{form_after}
use Rattle.sched_history.specs.Ranges.{ArePrintable}
use Rattle.sched_history.specs.Spelling.{text_in}
use Rattle.history_reader.proofs.reading.read_lines.Given as goal

abbrev pub invariant-loop-rest : goal.invariant-loop-rest
invariant-loop-rest l = record {
  read : l.lines ≡ text_in l.fn.first l.entries.items ++ l.rest;
  printable : ArePrintable l.fn.first l.entries.items;
  count : l.count ≡ length l.entries.items;
  form : l.form ≡ form_after 0 l.fn.first l.entries.items;
}

abbrev pub decreases-loop-rest : goal.decreases-loop-rest
decreases-loop-rest l = length l.rest
