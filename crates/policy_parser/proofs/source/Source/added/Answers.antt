use Rattle.std.proofs.Common.{◌∙◌, List, refl, sym, subst, arith}
use Rattle.std.proofs.lemmas.Result.{err_from_is_err_and}
use Rattle.policy_syntax.specs.declared.syntax.AddedSyntax.{AddedSyntax}
use Rattle.policy_grammar.specs.Expressions.{IsAdded, added_none}
use Rattle.policy_parser.proofs.Judged.{passes}
use Rattle.policy_parser.proofs.Moves.{added-goes, added-many, operators-over}
use Rattle.policy_parser.proofs.Parts.{added-snoc}
use Rattle.policy_parser.proofs.source.Source.added.Goals as goal

pub sums-init : goal.sums-init
sums-init c = record {
  later = omega arith;
  within = c.requires.within;
  few = c.requires.few;
  short = omega (arith, c.new-rest.ensures.len);
  star = c.requires.star;
  is = subst (λ (us : List AddedSyntax). IsAdded c.args.self.now.text.now c.args.self.now.lexemes.now c.args.at us c.args.at)
      (sym c.new-rest.ensures.items) added_none;
  reads = λ count below. refl;
}

pub returns-in-None-clause-is : goal.returns-in-None-clause-is
returns-in-None-clause-is c = rw c.from_vec.ensures c.sums.invariant.is

pub returns-in-None-clause-over : goal.returns-in-None-clause-over
returns-in-None-clause-over c = record {
  star = c.sums.invariant.star;
  plus = c.in-None.ensures.plus;
  minus = c.in-None.ensures.minus;
}

pub returns-in-None-clause-reads : goal.returns-in-None-clause-reads
returns-in-None-clause-reads c = λ count below.
    c.sums.invariant.reads count below
    ∙ operators-over _ _ c.sums.next count c.args.depth c.sums.counted below c.sums.invariant.star c.in-None.ensures.plus c.in-None.ensures.minus

pub returns-then-counted-self-clause-reads : goal.returns-then-counted-self-clause-reads
returns-then-counted-self-clause-reads c = λ count below.
    c.sums.invariant.reads count below
    ∙ added-many _ _ c.sums.next count c.args.depth c.sums.counted below c.in-Some.minus c.in-Some.ensures.some c.if-counted-self.true

pub returns-in_err-term-clause-reads : goal.returns-in_err-term-clause-reads
returns-in_err-term-clause-reads c = λ count below.
    let p = err_from_is_err_and c.from_residual.result c.from_residual.ensures.1 in
    rw (p.1, p.2)
    (passes _
    (c.sums.invariant.reads count below
    ∙ added-goes _ _ c.sums.next count c.args.depth c.sums.counted below c.in-Some.minus c.in-Some.ensures.some c.if-counted-self.false)
    (c.in_err-term.ensures.reads count below))

pub sums-preserved : goal.sums-preserved
sums-preserved c = record {
  later = omega (arith, c.in_ok-term.ensures.later, c.sums.invariant.later);
  within = c.in_ok-term.ensures.later.1;
  few = c.in_ok-term.ensures.few;
  short = omega (arith, c.in_ok-push.ensures.len, c.in_ok-term.ensures.later, c.sums.invariant.short);
  star = c.in_ok-term.ensures.over;
  is = subst (λ (us : List AddedSyntax). IsAdded c.args.self.now.text.now c.args.self.now.lexemes.now c.args.at us c.in_ok-term.after)
      (sym c.in_ok-push.ensures.items)
      (added-snoc c.in-Some.minus c.sums.invariant.is c.in-Some.ensures.some c.in_ok-term.ensures.is);
  reads = λ count below.
      c.sums.invariant.reads count below
      ∙ added-goes _ _ c.sums.next count c.args.depth c.sums.counted below c.in-Some.minus c.in-Some.ensures.some c.if-counted-self.false
      ∙ c.in_ok-term.ensures.reads count below;
}
