use Rattle.std.proofs.Common.{◌∷◌, ◌∙◌, ◌++◌, [], sym, ap, subst, arith, lit<}
use Rattle.std.proofs.lemmas.Result.{err_from_is_err_and}
use Rattle.policy_syntax.specs.SyntaxTrees.{condition_tree, no_more, grouped}
use Rattle.policy_grammar.specs.Conditions.{IsUnit, unit_always, unit_not, unit_group, ands_none, ors_none, conjunction_of, condition_of}
use Rattle.policy_grammar.specs.Symbols.{ands, ors, close}
use Rattle.policy_parser.proofs.Judged.{yes, isnt, inside, passes, fails-at, answers-as, go-from}
use Rattle.policy_parser.proofs.Moves.{ands-goes, ands-over, ors-goes, ors-over, always-goes, not-goes, not-deep, open-goes, open-deep, close-goes, close-none, test-begins}
use Rattle.policy_parser.proofs.Chains.{anded-one, anded-snoc, anded-all, ored-one, ored-snoc, ored-any}
use Rattle.policy_parser.proofs.source.Source.+nested.Goals as goal

pub condition-returns-in_err-first-clause-reads : goal.condition-returns-in_err-first-clause-reads
condition-returns-in_err-first-clause-reads t c = λ below.
    let p = err_from_is_err_and c.from_residual.result c.from_residual.ensures.1 in
    rw (p.1, p.2) (c.in_err-first.ensures.reads (ors c.args.most c.args.depth ∷ below))

pub condition-returns-then-not-has-clause-is : goal.condition-returns-then-not-has-clause-is
condition-returns-then-not-has-clause-is t c = condition_of (condition_tree c.in_ok-first.first) no_more c.in_ok-first.ensures.is ors_none

pub condition-returns-then-not-has-clause-reads : goal.condition-returns-then-not-has-clause-reads
condition-returns-then-not-has-clause-reads t c = λ below.
    c.in_ok-first.ensures.reads (ors c.args.most c.args.depth ∷ below)
    ∙ ors-over _ _ c.in_ok-first.next c.in_ok-first.counted c.args.most c.args.depth below (isnt c.has.ensures.is c.if-not-has.true)

pub condition-ors-init : goal.condition-ors-init
condition-ors-init t c = record {
  later = c.in_ok-first.ensures.later.0;
  within = inside _ _ (yes c.has.ensures.is c.if-not-has.false) (lit< tt);
  or = yes c.has.ensures.is c.if-not-has.false;
  are = ored-one c.in_ok-first.first (c.in_ok-push.ensures.items ∙ ap (λ x. x ++ c.in_ok-first.first ∷ []) c.new-parts.ensures.items) c.in_ok-first.ensures.is;
  reads = λ below. c.in_ok-first.ensures.reads (ors c.args.most c.args.depth ∷ below);
}

pub condition-returns-in_err-part-clause-reads : goal.condition-returns-in_err-part-clause-reads
condition-returns-in_err-part-clause-reads t c = λ below.
    let p = err_from_is_err_and c.from_residual-in_err-part.result c.from_residual-in_err-part.ensures.1 in
    rw (p.1, p.2)
    (passes _ (c.ors.invariant.reads below ∙ ors-goes _ _ c.ors.next c.ors.counted c.args.most c.args.depth below c.ors.invariant.or)
    (c.in_err-part.ensures.reads (ors c.args.most c.args.depth ∷ below)))

pub condition-returns-then-not-has-2-clause-is : goal.condition-returns-then-not-has-2-clause-is
condition-returns-then-not-has-2-clause-is t c =
    ored-any c.in_ok-part.part c.ors.invariant.are c.ors.invariant.or c.in_ok-part.ensures.is c.in_ok-push-2.ensures.items c.any_of.ensures

pub condition-returns-then-not-has-2-clause-reads : goal.condition-returns-then-not-has-2-clause-reads
condition-returns-then-not-has-2-clause-reads t c = λ below.
    c.ors.invariant.reads below
    ∙ ors-goes _ _ c.ors.next c.ors.counted c.args.most c.args.depth below c.ors.invariant.or
    ∙ c.in_ok-part.ensures.reads (ors c.args.most c.args.depth ∷ below)
    ∙ ors-over _ _ c.in_ok-part.after c.in_ok-part.more c.args.most c.args.depth below (isnt c.has-in-ors.ensures.is c.if-not-has-2.true)

pub condition-ors-preserved : goal.condition-ors-preserved
condition-ors-preserved t c = record {
  later = omega (arith, c.in_ok-part.ensures.later, c.ors.invariant.later);
  within = inside _ _ (yes c.has-in-ors.ensures.is c.if-not-has-2.false) (lit< tt);
  or = yes c.has-in-ors.ensures.is c.if-not-has-2.false;
  are = ored-snoc c.in_ok-part.part c.ors.invariant.are c.ors.invariant.or c.in_ok-part.ensures.is c.in_ok-push-2.ensures.items;
  reads = λ below.
      c.ors.invariant.reads below
      ∙ ors-goes _ _ c.ors.next c.ors.counted c.args.most c.args.depth below c.ors.invariant.or
      ∙ c.in_ok-part.ensures.reads (ors c.args.most c.args.depth ∷ below);
}

pub conjunction-returns-in_err-first-clause-reads : goal.conjunction-returns-in_err-first-clause-reads
conjunction-returns-in_err-first-clause-reads t c = λ below.
    let p = err_from_is_err_and c.from_residual.result c.from_residual.ensures.1 in
    rw (p.1, p.2) (c.in_err-first.ensures.reads (ands c.args.most c.args.depth ∷ below))

pub conjunction-returns-then-not-has-clause-is : goal.conjunction-returns-then-not-has-clause-is
conjunction-returns-then-not-has-clause-is t c = conjunction_of (condition_tree c.in_ok-first.first) no_more c.in_ok-first.ensures.is ands_none

pub conjunction-returns-then-not-has-clause-reads : goal.conjunction-returns-then-not-has-clause-reads
conjunction-returns-then-not-has-clause-reads t c = λ below.
    c.in_ok-first.ensures.reads (ands c.args.most c.args.depth ∷ below)
    ∙ ands-over _ _ c.in_ok-first.next c.in_ok-first.counted c.args.most c.args.depth below (isnt c.has.ensures.is c.if-not-has.true)

pub conjunction-ands-init : goal.conjunction-ands-init
conjunction-ands-init t c = record {
  later = c.in_ok-first.ensures.later.0;
  within = inside _ _ (yes c.has.ensures.is c.if-not-has.false) (lit< tt);
  and = yes c.has.ensures.is c.if-not-has.false;
  are = anded-one c.in_ok-first.first (c.in_ok-push.ensures.items ∙ ap (λ x. x ++ c.in_ok-first.first ∷ []) c.new-parts.ensures.items) c.in_ok-first.ensures.is;
  reads = λ below. c.in_ok-first.ensures.reads (ands c.args.most c.args.depth ∷ below);
}

pub conjunction-returns-in_err-part-clause-reads : goal.conjunction-returns-in_err-part-clause-reads
conjunction-returns-in_err-part-clause-reads t c = λ below.
    let p = err_from_is_err_and c.from_residual-in_err-part.result c.from_residual-in_err-part.ensures.1 in
    rw (p.1, p.2)
    (passes _ (c.ands.invariant.reads below ∙ ands-goes _ _ c.ands.next c.ands.counted c.args.most c.args.depth below c.ands.invariant.and)
    (c.in_err-part.ensures.reads (ands c.args.most c.args.depth ∷ below)))

pub conjunction-returns-then-not-has-2-clause-is : goal.conjunction-returns-then-not-has-2-clause-is
conjunction-returns-then-not-has-2-clause-is t c =
    anded-all c.in_ok-part.part c.ands.invariant.are c.ands.invariant.and c.in_ok-part.ensures.is c.in_ok-push-2.ensures.items c.all_of.ensures

pub conjunction-returns-then-not-has-2-clause-reads : goal.conjunction-returns-then-not-has-2-clause-reads
conjunction-returns-then-not-has-2-clause-reads t c = λ below.
    c.ands.invariant.reads below
    ∙ ands-goes _ _ c.ands.next c.ands.counted c.args.most c.args.depth below c.ands.invariant.and
    ∙ c.in_ok-part.ensures.reads (ands c.args.most c.args.depth ∷ below)
    ∙ ands-over _ _ c.in_ok-part.after c.in_ok-part.more c.args.most c.args.depth below (isnt c.has-in-ands.ensures.is c.if-not-has-2.true)

pub conjunction-ands-preserved : goal.conjunction-ands-preserved
conjunction-ands-preserved t c = record {
  later = omega (arith, c.in_ok-part.ensures.later, c.ands.invariant.later);
  within = inside _ _ (yes c.has-in-ands.ensures.is c.if-not-has-2.false) (lit< tt);
  and = yes c.has-in-ands.ensures.is c.if-not-has-2.false;
  are = anded-snoc c.in_ok-part.part c.ands.invariant.are c.ands.invariant.and c.in_ok-part.ensures.is c.in_ok-push-2.ensures.items;
  reads = λ below.
      c.ands.invariant.reads below
      ∙ ands-goes _ _ c.ands.next c.ands.counted c.args.most c.args.depth below c.ands.invariant.and
      ∙ c.in_ok-part.ensures.reads (ands c.args.most c.args.depth ∷ below);
}

pub unit-returns-then-has-clause-is : goal.unit-returns-then-has-clause-is
unit-returns-then-has-clause-is t c = unit_always (yes c.has.ensures.is c.if-has.true)

pub unit-returns-then-has-clause-reads : goal.unit-returns-then-has-clause-reads
unit-returns-then-has-clause-reads t c = λ below. always-goes _ _ c.args.at c.args.count c.args.most c.args.depth below (yes c.has.ensures.is c.if-has.true)

pub unit-returns-else-has-3-clause-reads : goal.unit-returns-else-has-3-clause-reads
unit-returns-else-has-3-clause-reads t c = λ below.
    answers-as _ c.comparison.result
    (test-begins _ _ c.args.at c.args.count c.args.most c.args.depth below (isnt c.has.ensures.is c.if-has.false)
    (isnt c.has-else-has.ensures.is c.if-has-2.false) (isnt c.has-else-has-2.ensures.is c.if-has-3.false))
    (c.comparison.ensures.reads below)

pub negation-returns-then-depth-self-clause-reads : goal.negation-returns-then-depth-self-clause-reads
negation-returns-then-depth-self-clause-reads t c = λ below. not-deep _ _ c.args.at c.args.count c.args.most c.args.depth below c.requires.begins c.if-depth-self.true

pub negation-returns-in_err-inner-clause-reads : goal.negation-returns-in_err-inner-clause-reads
negation-returns-in_err-inner-clause-reads t c = λ below.
    let p = err_from_is_err_and c.from_residual.result c.from_residual.ensures.1 in
    rw (p.1, p.2)
    (passes _ (not-goes _ _ c.args.at c.args.count c.args.most c.args.depth below c.requires.begins c.if-depth-self.false) (c.in_err-inner.ensures.reads below))

pub negation-returns-clause-is : goal.negation-returns-clause-is
negation-returns-clause-is t c = rw c.in_ok-whole.ensures (unit_not c.requires.begins c.in_ok-inner.ensures.is)

pub negation-returns-clause-reads : goal.negation-returns-clause-reads
negation-returns-clause-reads t c = λ below.
    not-goes _ _ c.args.at c.args.count c.args.most c.args.depth below c.requires.begins c.if-depth-self.false ∙ c.in_ok-inner.ensures.reads below

pub group-returns-then-depth-self-clause-reads : goal.group-returns-then-depth-self-clause-reads
group-returns-then-depth-self-clause-reads t c = λ below. open-deep _ _ c.args.at c.args.count c.args.most c.args.depth below c.requires.begins c.if-depth-self.true

pub group-returns-in_err-inner-clause-reads : goal.group-returns-in_err-inner-clause-reads
group-returns-in_err-inner-clause-reads t c = λ below.
    let p = err_from_is_err_and c.from_residual.result c.from_residual.ensures.1 in
    rw (p.1, p.2)
    (passes _ (open-goes _ _ c.args.at c.args.count c.args.most c.args.depth below c.requires.begins c.if-depth-self.false) (c.in_err-inner.ensures.reads (close ∷ below)))

pub group-returns-in_err-inner-2-clause-reads : goal.group-returns-in_err-inner-2-clause-reads
group-returns-in_err-inner-2-clause-reads t c = λ below.
    let p = err_from_is_err_and c.from_residual-in_err-inner-2.result c.from_residual-in_err-inner-2.ensures.1 in
    rw (p.1, p.2)
    (fails-at _ (rw c.in_err-inner-2.ensures.err at c.expect.ensures.fails)
    (open-goes _ _ c.args.at c.args.count c.args.most c.args.depth below c.requires.begins c.if-depth-self.false
    ∙ c.in_ok-inner.ensures.reads (close ∷ below)
    ∙ close-none _ _ c.in_ok-inner.end c.in_ok-inner.counted below (rw c.in_err-inner-2.ensures.err at c.expect.ensures.isnt)))

pub group-returns-clause-later : goal.group-returns-clause-later
group-returns-clause-later t c =
    let next = rw c.in_ok-inner-2.ensures.ok.1 at c.expect.ensures.next in
    (omega (arith, next.0, c.in_ok-inner.ensures.later), next.1)

pub group-returns-clause-is : goal.group-returns-clause-is
group-returns-clause-is t c =
    let next = rw c.in_ok-inner-2.ensures.ok.1 at c.expect.ensures.next in
    rw c.in_ok-whole.ensures
    (subst (λ v. IsUnit c.args.self.now.text.now c.args.self.now.lexemes.now c.args.at (grouped c.args.at (condition_tree v)) c.in_ok-inner-2.next)
    (sym c.in_ok-inner-2.ensures.ok.0)
    (subst (λ n. IsUnit c.args.self.now.text.now c.args.self.now.lexemes.now c.args.at (grouped c.args.at (condition_tree c.in_ok-inner.inner)) n)
    (sym next.0) (unit_group c.requires.begins c.in_ok-inner.ensures.is (rw c.in_ok-inner-2.ensures.ok.1 at c.expect.ensures.is))))

pub group-returns-clause-reads : goal.group-returns-clause-reads
group-returns-clause-reads t c = λ below.
    let next = rw c.in_ok-inner-2.ensures.ok.1 at c.expect.ensures.next in
    open-goes _ _ c.args.at c.args.count c.args.most c.args.depth below c.requires.begins c.if-depth-self.false
    ∙ c.in_ok-inner.ensures.reads (close ∷ below)
    ∙ close-goes _ _ c.in_ok-inner.end c.in_ok-inner.counted below (rw c.in_ok-inner-2.ensures.ok.1 at c.expect.ensures.is)
    ∙ go-from _ _ c.in_ok-inner.counted below (sym next.0)
