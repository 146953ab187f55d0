-- What is left of the text, behind the lines so far, makes the trace of the whole.
use Rattle.std.proofs.Common.{◌≡◌, ◌+◌, ◌<◌, ◌≤◌, [], length, vec_len}
use Rattle.sched_base.specs.declared.limits.TheConstants.{MAX_CORES}
use Rattle.text_forms.specs.Lines.{lines_of}
use Rattle.job_trace.specs.Rules.{MayAllFollow, all_gifts, cores_of}
use Rattle.job_trace.specs.Code.Steps.{scan}
use Rattle.job_trace.proofs.reading.read.Given as goal

abbrev pub invariant-loop-line : goal.invariant-loop-line
invariant-loop-line l = record {
  same : scan [] 1 (lines_of l.text) ≡ scan l.lines.items l.number (lines_of l.rest);
  counted : l.number + length l.rest ≤ length l.text + 1;
  few : vec_len l.lines < l.number;
  rules : MayAllFollow [] l.lines.items;
  cores : cores_of l.lines.items ≤ MAX_CORES;
  gifts : l.given ≡ all_gifts l.lines.items;
}

abbrev pub decreases-loop-line : goal.decreases-loop-line
decreases-loop-line l = length l.rest
