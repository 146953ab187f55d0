use Rattle.std.proofs.Common.{arith}
use Rattle.job_trace.proofs.StepLemmas.{all-numbers, more-numbers, no-number_left}
use Rattle.job_trace.proofs.form.numbers_in.Goals as goal

pub returns-in_default-kept_in : goal.returns-in_default-kept_in
returns-in_default-kept_in c = no-number_left _ _ _ c.loop-word.invariant.same _ _ c.in-Some.ensures.word c.in_default-kept_in.ensures.kept

pub loop-word-preserved : goal.loop-word-preserved
loop-word-preserved c = record {
  same = more-numbers _ _ _ c.loop-word.invariant.same _ _ _ _ c.in-Some.ensures.word c.in-Some-kept_in.ensures.kept c.in_ok-push.ensures.items;
  counted = omega (arith, c.in_ok-push.ensures.len, c.in-Some.ensures.shorter, c.loop-word.invariant.counted);
}

pub returns : goal.returns
returns c = rw c.from_vec.ensures (all-numbers _ _ _ c.loop-word.invariant.same c.in_default.ensures.none)
