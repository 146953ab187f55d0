use Rattle.std.proofs.Common.{arith}
use Rattle.job_trace.proofs.StepLemmas.{last-burst, more-bursts, no-burst}
use Rattle.job_trace.proofs.programs.program_in.Goals as goal

pub loop-burst-preserved : goal.loop-burst-preserved
loop-burst-preserved c = record {
  same = more-bursts _ _ _ c.loop-burst.invariant.same _ _ _ c.in-Some.ensures.found c.in_ok-push.ensures.items;
  counted = omega (arith, c.in_ok-push.ensures.len, c.in-Some.ensures.shorter, c.loop-burst.invariant.counted);
}

pub from_vec-requires : goal.from_vec-requires
from_vec-requires c = omega (arith, c.in_ok-push-in-Some-last_in.ensures.len, c.loop-burst.invariant.counted, c.requires)

pub returns-in_ok-push-in-Some-last_in : goal.returns-in_ok-push-in-Some-last_in
returns-in_ok-push-in-Some-last_in c =
    rw c.from_vec.ensures
    (last-burst _ _ _ c.loop-burst.invariant.same _ _ c.in_default.ensures.found c.in-Some-last_in.ensures c.in_ok-push-in-Some-last_in.ensures.items)

pub returns-in-None : goal.returns-in-None
returns-in-None c = no-burst _ _ _ c.loop-burst.invariant.same c.in_default.ensures.found c.in-None.ensures
