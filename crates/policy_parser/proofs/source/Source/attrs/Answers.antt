use Rattle.std.proofs.Common.{not, ◌∷◌, ◌∙◌, refl, sym, ap, subst, arith}
use Rattle.std.proofs.lemmas.Result.{err_from_is_err_and}
use Rattle.policy_grammar.specs.Policies.{IsAttrs, attrs_none}
use Rattle.policy_grammar.specs.Symbols.{attrs}
use Rattle.policy_grammar.specs.Machine.{go}
use Rattle.policy_grammar.specs.Breaks.{of_cores_more, of_threads_more}
use Rattle.policy_parser.proofs.Judged.{passes, cores-more, threads-more, at-most-one}
use Rattle.policy_parser.proofs.PartMoves.{attr-goes, attr-many, attrs-over}
use Rattle.policy_parser.proofs.Parts.{attrs-snoc}
use Rattle.policy_parser.proofs.source.Source.attrs.Goals as goal

pub attrs-init : goal.attrs-init
attrs-init c = record {
  later = omega arith;
  within = c.requires.within;
  few_cores = omega arith;
  few_threads = omega arith;
  short = omega (arith, c.new-attrs.ensures.len);
  are = subst (λ x. IsAttrs c.args.self.now.text.now c.args.self.now.lexemes.now c.args.at x c.args.at) (sym c.new-attrs.ensures.items) attrs_none;
  reads = λ below. refl;
}

pub returns-in-None-clause-reads : goal.returns-in-None-clause-reads
returns-in-None-clause-reads c = λ below.
    c.attrs.invariant.reads below ∙ attrs-over _ _ c.attrs.next c.attrs.cores c.attrs.threads below c.in-None.ensures.cores c.in-None.ensures.threads

pub returns-then-count-self-clause-reads : goal.returns-then-count-self-clause-reads
returns-then-count-self-clause-reads c = λ below.
    c.attrs.invariant.reads below
    ∙ attr-many _ _ c.attrs.next c.attrs.cores c.attrs.threads _ below c.in-Some.of_cores c.in-Some.ensures.some c.count_of_kind-count.ensures c.if-count-self.true

pub returns-in_err-attr-clause-reads : goal.returns-in_err-attr-clause-reads
returns-in_err-attr-clause-reads c = λ below.
    let p = err_from_is_err_and c.from_residual.result c.from_residual.ensures.1 in
    rw (p.1, p.2)
    (passes _
    (c.attrs.invariant.reads below
    ∙ attr-goes _ _ c.attrs.next c.attrs.cores c.attrs.threads _ below c.in-Some.of_cores c.in-Some.ensures.some c.count_of_kind-count.ensures (omega (arith, c.if-count-self.false)))
    (c.in_err-attr.ensures.reads (attrs (of_cores_more c.in-Some.of_cores c.attrs.cores) (of_threads_more c.in-Some.of_cores c.attrs.threads) ∷ below)))

pub attrs-preserved : goal.attrs-preserved
attrs-preserved c = record {
  later = omega (arith, c.in_ok-attr.ensures.later, c.attrs.invariant.later);
  within = c.in_ok-attr.ensures.later.1;
  few_cores = let most = at-most-one c.in-Some.of_cores c.one_more-cores.ensures.yes c.one_more-cores.ensures.no in omega (arith, most, c.in_ok-attr.ensures.later, c.attrs.invariant.few_cores);
  few_threads = let most = at-most-one (not c.in-Some.of_cores) c.one_more-threads.ensures.yes c.one_more-threads.ensures.no in omega (arith, most, c.in_ok-attr.ensures.later, c.attrs.invariant.few_threads);
  short = omega (arith, c.in_ok-push.ensures.len, c.in_ok-attr.ensures.later, c.attrs.invariant.short);
  are = subst (λ x. IsAttrs c.args.self.now.text.now c.args.self.now.lexemes.now c.args.at x c.in_ok-attr.after) (sym c.in_ok-push.ensures.items) (attrs-snoc c.attrs.invariant.are c.in_ok-attr.ensures.is);
  reads = λ below.
      c.attrs.invariant.reads below
      ∙ attr-goes _ _ c.attrs.next c.attrs.cores c.attrs.threads _ below c.in-Some.of_cores c.in-Some.ensures.some c.count_of_kind-count.ensures (omega (arith, c.if-count-self.false))
      ∙ c.in_ok-attr.ensures.reads (attrs (of_cores_more c.in-Some.of_cores c.attrs.cores) (of_threads_more c.in-Some.of_cores c.attrs.threads) ∷ below)
      ∙ ap (λ x. go c.args.self.now.limits c.args.self.now.lexemes.now c.in_ok-attr.after 0 (attrs x (of_threads_more c.in-Some.of_cores c.attrs.threads) ∷ below)) (sym (cores-more c.in-Some.of_cores c.one_more-cores.ensures.yes c.one_more-cores.ensures.no))
      ∙ ap (λ x. go c.args.self.now.limits c.args.self.now.lexemes.now c.in_ok-attr.after 0 (attrs c.one_more-cores.result x ∷ below)) (sym (threads-more c.in-Some.of_cores c.one_more-threads.ensures.yes c.one_more-threads.ensures.no));
}
