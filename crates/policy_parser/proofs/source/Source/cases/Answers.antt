use Rattle.std.proofs.Common.{◌∷◌, ◌∙◌, ◌++◌, [], ap, arith}
use Rattle.std.proofs.lemmas.Result.{err_from_is_err_and}
use Rattle.policy_parser.proofs.Judged.{yes, isnt, passes}
use Rattle.policy_parser.proofs.PartMoves.{cases-case, cases-over}
use Rattle.policy_parser.proofs.Parts.{cased-one, cased-snoc}
use Rattle.policy_parser.proofs.source.Source.cases.Goals as goal

pub returns-in_err-first-clause-reads : goal.returns-in_err-first-clause-reads
returns-in_err-first-clause-reads c = λ below.
    let p = err_from_is_err_and c.from_residual.result c.from_residual.ensures.1 in
    rw (p.1, p.2) (c.in_err-first.ensures.reads below)

pub cases-init : goal.cases-init
cases-init c = record {
  later = c.in_ok-first.ensures.later.0;
  within = c.in_ok-first.ensures.later.1;
  few = omega (arith, c.in_ok-first.ensures.later);
  short = omega (arith, c.in_ok-push.ensures.len, c.new-cases.ensures.len, c.in_ok-first.ensures.later);
  are = cased-one c.in_ok-first.first (c.in_ok-push.ensures.items ∙ ap (λ x. x ++ c.in_ok-first.first ∷ []) c.new-cases.ensures.items) c.in_ok-first.ensures.is;
  reads = λ below. c.in_ok-first.ensures.reads below;
}

pub returns-in_err-case-clause-reads : goal.returns-in_err-case-clause-reads
returns-in_err-case-clause-reads c = λ below.
    let p = err_from_is_err_and c.from_residual-in_err-case.result c.from_residual-in_err-case.ensures.1 in
    rw (p.1, p.2)
    (passes _ (c.cases.invariant.reads below ∙ cases-case _ _ c.cases.next c.cases.count below (yes c.has.ensures.is c.cases-test.true))
    (c.in_err-case.ensures.reads below))

pub cases-preserved : goal.cases-preserved
cases-preserved c = record {
  later = omega (arith, c.in_ok-case.ensures.later, c.cases.invariant.later);
  within = c.in_ok-case.ensures.later.1;
  few = omega (arith, c.in_ok-case.ensures.later, c.cases.invariant.few);
  short = omega (arith, c.in_ok-push-2.ensures.len, c.in_ok-case.ensures.later, c.cases.invariant.short);
  are = cased-snoc c.in_ok-case.case c.cases.invariant.are c.in_ok-case.ensures.is c.in_ok-push-2.ensures.items;
  reads = λ below.
      c.cases.invariant.reads below
      ∙ cases-case _ _ c.cases.next c.cases.count below (yes c.has.ensures.is c.cases-test.true)
      ∙ c.in_ok-case.ensures.reads below;
}

pub returns-clause-reads : goal.returns-clause-reads
returns-clause-reads c = λ below.
    c.cases.invariant.reads below ∙ cases-over _ _ c.cases.next c.cases.count below (isnt c.has.ensures.is c.cases-test.false)
