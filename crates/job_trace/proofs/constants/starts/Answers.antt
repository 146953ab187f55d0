use Rattle.std.proofs.Common.{arith}
use Rattle.std.specs.Prelude.{pos}
use Rattle.std.proofs.lemmas.List.{ext_get_or}
use Rattle.job_trace.specs.Plans.{starts}
use Rattle.job_trace.proofs.StartLemmas.{length-starts}
use Rattle.job_trace.proofs.constants.starts.Goals as goal

pub returns : goal.returns
returns c =
    ext_get_or (pos 0) c.loop-at.starts (starts c.args.attrs.now) (omega (arith, length-starts c.args.attrs.now))
    (λ i inside. c.loop-at.invariant.written i (omega arith))
