use Rattle.std.proofs.Common.{◌∙◌, List, sym, subst, arith}
use Rattle.std.proofs.lemmas.Result.{err_from_is_err_and}
use Rattle.policy_syntax.specs.declared.syntax.TimesSyntax.{TimesSyntax}
use Rattle.policy_grammar.specs.Expressions.{IsTimes, times_none, term_of}
use Rattle.policy_parser.proofs.Judged.{yes, passes}
use Rattle.policy_parser.proofs.Moves.{star-goes, star-many}
use Rattle.policy_parser.proofs.Parts.{times-snoc}
use Rattle.policy_parser.proofs.source.Source.term.Goals as goal

pub returns-in_err-first-clause-reads : goal.returns-in_err-first-clause-reads
returns-in_err-first-clause-reads c = λ count below.
    let p = err_from_is_err_and c.from_residual.result c.from_residual.ensures.1 in
    rw (p.1, p.2) (c.in_err-first.ensures.reads count below)

pub stars-init : goal.stars-init
stars-init c = record {
  later = c.in_ok-first.ensures.later.0;
  within = c.in_ok-first.ensures.later.1;
  few = c.in_ok-first.ensures.few;
  short = omega (arith, c.new-rest.ensures.len);
  is = subst (λ (fs : List TimesSyntax). IsTimes c.args.self.now.text.now c.args.self.now.lexemes.now c.in_ok-first.next fs c.in_ok-first.next)
      (sym c.new-rest.ensures.items) times_none;
  reads = c.in_ok-first.ensures.reads;
}

pub returns-then-counted-self-clause-reads : goal.returns-then-counted-self-clause-reads
returns-then-counted-self-clause-reads c = λ count below.
    c.stars.invariant.reads count below
    ∙ star-many _ _ c.stars.next count c.args.depth c.stars.counted below (yes c.has.ensures.is c.stars-test.true) c.if-counted-self.true

pub returns-in_err-factor-clause-reads : goal.returns-in_err-factor-clause-reads
returns-in_err-factor-clause-reads c = λ count below.
    let p = err_from_is_err_and c.from_residual-in_err-factor.result c.from_residual-in_err-factor.ensures.1 in
    rw (p.1, p.2)
    (passes _
    (c.stars.invariant.reads count below
    ∙ star-goes _ _ c.stars.next count c.args.depth c.stars.counted below (yes c.has.ensures.is c.stars-test.true) c.if-counted-self.false)
    (c.in_err-factor.ensures.reads count below))

pub stars-preserved : goal.stars-preserved
stars-preserved c = record {
  later = omega (arith, c.in_ok-factor.ensures.later, c.stars.invariant.later);
  within = c.in_ok-factor.ensures.later.1;
  few = c.in_ok-factor.ensures.few;
  short = omega (arith, c.in_ok-push.ensures.len, c.in_ok-factor.ensures.later, c.stars.invariant.short);
  is = subst (λ (fs : List TimesSyntax). IsTimes c.args.self.now.text.now c.args.self.now.lexemes.now c.in_ok-first.next fs c.in_ok-factor.after)
      (sym c.in_ok-push.ensures.items)
      (times-snoc c.stars.invariant.is (yes c.has.ensures.is c.stars-test.true) c.in_ok-factor.ensures.is);
  reads = λ count below.
      c.stars.invariant.reads count below
      ∙ star-goes _ _ c.stars.next count c.args.depth c.stars.counted below (yes c.has.ensures.is c.stars-test.true) c.if-counted-self.false
      ∙ c.in_ok-factor.ensures.reads count below;
}

pub returns-clause-is : goal.returns-clause-is
returns-clause-is c = rw c.from_vec.ensures (term_of c.in_ok-first.ensures.is c.stars.invariant.is)
