use Rattle.std.proofs.Common.{sym, subst, arith, List, ◌+◌}
use Rattle.std.proofs.lemmas.Result.{err_from_is_err_and}
use Rattle.policy_lexer.specs.declared.token.Token.{Token}
use Rattle.policy_lexer.specs.First.{IsFirstFault, IsStep}
use Rattle.policy_lexer.specs.Tokens.{Reads, reads_nothing}
use Rattle.policy_lexer.proofs.Answered.{fault_at, first-some}
use Rattle.policy_lexer.proofs.Places.{Reads-gap, Reads-token}
use Rattle.policy_lexer.proofs.reading.read.Goals as goal

pub loop-at-init : goal.loop-at-init
loop-at-init c = record {
  within = omega arith;
  few = omega (arith, c.new-tokens.ensures.len);
  reads = subst (λ (tokens : List Token). Reads c.args.text.now 0 tokens 0) (sym c.new-tokens.ensures.items) reads_nothing;
}

pub returns-in_err-size-clause-fault : goal.returns-in_err-size-clause-fault
returns-in_err-size-clause-fault c =
    let p = err_from_is_err_and c.from_residual.result c.from_residual.ensures.1 in
    let found = subst (λ s. IsFirstFault s c.loop-at.at c.in_err-size.field-0.0) c.split_at.ensures.back c.in_err-size.ensures.fault in
    rw (p.1, p.2) (fault_at _ _ _ c.loop-at-test.true c.loop-at.invariant.reads _ found)

pub loop-at-preserved-in-Gap : goal.loop-at-preserved-in-Gap
loop-at-preserved-in-Gap c =
    let step = subst (λ s. IsStep c.split_at.result.1.now s) c.in-Gap.is c.in_ok-size.ensures.step in
    let first = rw c.split_at.ensures.back at step in
    record {
      within = omega (arith, step.within);
      few = omega arith;
      reads = Reads-gap _ c.loop-at.invariant.reads first;
    }

pub loop-at-preserved : goal.loop-at-preserved
loop-at-preserved c =
    let step = subst (λ s. IsStep c.split_at.result.1.now s) c.in-Token.is c.in_ok-size.ensures.step in
    let first = rw c.split_at.ensures.back at step.0 in
    let some = first-some _ _ _ first in
    record {
      within = omega (arith, step.0.within);
      few = omega (arith, c.in_ok-push-in-Token.ensures.len);
      reads = subst (λ tokens. Reads c.args.text.now 0 tokens (c.loop-at.at + c.in-Token.size)) (sym c.in_ok-push-in-Token.ensures.items)
          (Reads-token _ _ c.loop-at.invariant.reads first step.1);
    }
