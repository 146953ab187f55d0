use Rattle.std.proofs.Common.{◌∷◌, ◌∙◌, ◌+◌, refl, sym, subst, arith}
use Rattle.std.proofs.lemmas.Result.{err_from_is_err_and}
use Rattle.policy_grammar.specs.Policies.{IsSets, sets_none}
use Rattle.policy_grammar.specs.Symbols.{actions}
use Rattle.policy_parser.proofs.Judged.{yes, isnt, passes}
use Rattle.policy_parser.proofs.PartMoves.{set-goes, set-many, put-goes, put-none}
use Rattle.policy_parser.proofs.Parts.{sets-snoc}
use Rattle.policy_parser.proofs.source.Source.actions.Goals as goal

pub sets-init : goal.sets-init
sets-init c = record {
  later = omega arith;
  within = c.requires.within;
  few = omega arith;
  short = omega (arith, c.new-sets.ensures.len);
  are = subst (λ x. IsSets c.args.self.now.text.now c.args.self.now.lexemes.now c.args.at x c.args.at) (sym c.new-sets.ensures.items) sets_none;
  reads = λ below. refl;
}

pub returns-then-count-self-clause-reads : goal.returns-then-count-self-clause-reads
returns-then-count-self-clause-reads c = λ below.
    c.sets.invariant.reads below ∙ set-many _ _ c.sets.next c.sets.count below (yes c.has.ensures.is c.sets-test.true) c.if-count-self.true

pub returns-in_err-set-clause-reads : goal.returns-in_err-set-clause-reads
returns-in_err-set-clause-reads c = λ below.
    let p = err_from_is_err_and c.from_residual.result c.from_residual.ensures.1 in
    rw (p.1, p.2)
    (passes _
    (c.sets.invariant.reads below ∙ set-goes _ _ c.sets.next c.sets.count below (yes c.has.ensures.is c.sets-test.true) (omega (arith, c.if-count-self.false)))
    (c.in_err-set.ensures.reads (actions (c.sets.count + 1) ∷ below)))

pub sets-preserved : goal.sets-preserved
sets-preserved c = record {
  later = omega (arith, c.in_ok-set.ensures.later, c.sets.invariant.later);
  within = c.in_ok-set.ensures.later.1;
  few = omega (arith, c.in_ok-set.ensures.later, c.sets.invariant.few);
  short = omega (arith, c.in_ok-push.ensures.len, c.in_ok-set.ensures.later, c.sets.invariant.short);
  are = subst (λ x. IsSets c.args.self.now.text.now c.args.self.now.lexemes.now c.args.at x c.in_ok-set.after) (sym c.in_ok-push.ensures.items)
      (sets-snoc c.sets.invariant.are (c.in_ok-set.ensures.is (yes c.has.ensures.is c.sets-test.true)));
  reads = λ below.
      c.sets.invariant.reads below
      ∙ set-goes _ _ c.sets.next c.sets.count below (yes c.has.ensures.is c.sets-test.true) (omega (arith, c.if-count-self.false))
      ∙ c.in_ok-set.ensures.reads (actions (c.sets.count + 1) ∷ below);
}

pub returns-in-Some-clause-reads : goal.returns-in-Some-clause-reads
returns-in-Some-clause-reads c = λ below.
    c.sets.invariant.reads below ∙ put-goes _ _ c.sets.next c.sets.count below c.in-Some.put c.in-Some.ensures.some

pub returns-in-None-clause-reads : goal.returns-in-None-clause-reads
returns-in-None-clause-reads c = λ below.
    c.sets.invariant.reads below ∙ put-none _ _ c.sets.next c.sets.count below (isnt c.has.ensures.is c.sets-test.false) c.in-None.ensures.none
