-- What is left passes what the whole passes.
use Rattle.std.proofs.Common.{◌≡◌, drop, map}
use Rattle.job_trace.specs.Rules.{const_measure, first_passed}
use Rattle.job_trace.proofs.ranges.consts_limit.Given as goal

abbrev pub invariant-loop-given : goal.invariant-loop-given
invariant-loop-given l = first_passed (map const_measure l.consts) ≡ first_passed (map const_measure (drop l.given-index l.consts))
