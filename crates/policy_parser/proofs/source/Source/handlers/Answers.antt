use Rattle.std.proofs.Common.{◌∙◌, refl, arith}
use Rattle.std.proofs.lemmas.Result.{err_from_is_err_and}
use Rattle.policy_parser.proofs.Judged.{isnt, passes}
use Rattle.policy_parser.proofs.PartMoves.{handlers-over}
use Rattle.policy_parser.proofs.Parts.{handlers-first, handlers-more}
use Rattle.policy_parser.proofs.source.Source.handlers.Goals as goal

pub handlers-init : goal.handlers-init
handlers-init c = record {
  later = omega arith;
  within = c.requires.within;
  short = omega (arith, c.new-handlers.ensures.len);
  are = handlers-first c.new-handlers.ensures.items;
  reads = λ below. refl;
}

pub returns-in_err-handler-clause-reads : goal.returns-in_err-handler-clause-reads
returns-in_err-handler-clause-reads c = λ below.
    let p = err_from_is_err_and c.from_residual.result c.from_residual.ensures.1 in
    rw (p.1, p.2) (passes _ (c.handlers.invariant.reads below) (c.in_err-handler.ensures.reads below))

pub handlers-preserved : goal.handlers-preserved
handlers-preserved c = record {
  later = omega (arith, c.in_ok-handler.ensures.later, c.handlers.invariant.later);
  within = c.in_ok-handler.ensures.later.1;
  short = omega (arith, c.in_ok-push.ensures.len, c.in_ok-handler.ensures.later, c.handlers.invariant.short);
  are = handlers-more c.handlers.handlers.items c.in_ok-handler.handler c.handlers.invariant.are c.in_ok-handler.ensures.is c.in_ok-push.ensures.items;
  reads = λ below. c.handlers.invariant.reads below ∙ c.in_ok-handler.ensures.reads below;
}

pub returns-clause-reads : goal.returns-clause-reads
returns-clause-reads c = λ below.
    c.handlers.invariant.reads below ∙ handlers-over _ _ c.handlers.next below (isnt c.has.ensures.is c.handlers-test.false)
