-- The threads so far stand behind the words, and a thread takes so much room at most.
use Rattle.std.proofs.Common.{◌≡◌, ◌≤◌, ◌+◌, ◌*◌, ◌++◌, codes, length, take}
use Rattle.sched_history.specs.Spelling.{spaced}
use Rattle.history_reasons.proofs.printing.threads_line.Given as goal

abbrev pub invariant-loop-at : goal.invariant-loop-at
invariant-loop-at l = record {
  told : l.line ≡ codes "rule threads" ++ spaced (take l.at l.ids);
  small : length l.line ≤ 12 + l.at * 36;
}
