use Rattle.std.proofs.Common.{◌∷◌, ◌∙◌, ◌+◌, ◌++◌, List, [], map, sym, ap, subst, arith}
use Rattle.std.proofs.lemmas.Result.{err_from_is_err_and}
use Rattle.policy_syntax.specs.declared.syntax.KeySyntax.{KeySyntax}
use Rattle.policy_syntax.specs.SyntaxTrees.{key_syntax_tree}
use Rattle.policy_grammar.specs.Orders.{IsOrder, order_first}
use Rattle.policy_parser.proofs.Judged.{yes, isnt, passes}
use Rattle.policy_parser.proofs.Moves.{order-first, order-key, keys-goes, keys-over}
use Rattle.policy_parser.proofs.Chains.{keyed-one, keyed-snoc, keyed-order}
use Rattle.policy_parser.proofs.source.Source.order.Goals as goal

pub returns-then-has-clause-is : goal.returns-then-has-clause-is
returns-then-has-clause-is c =
    subst (λ (ks : List KeySyntax). IsOrder c.args.self.now.text.now c.args.self.now.lexemes.now c.args.at (record { at = c.args.at; keys = map key_syntax_tree ks }) (c.args.at + 1))
    (sym (c.from_vec.ensures ∙ c.new.ensures.items)) (order_first (yes c.has.ensures.is c.if-has.true))

pub returns-then-has-clause-reads : goal.returns-then-has-clause-reads
returns-then-has-clause-reads c = λ below. order-first _ _ c.args.at c.args.most below (yes c.has.ensures.is c.if-has.true)

pub returns-in_err-first-clause-reads : goal.returns-in_err-first-clause-reads
returns-in_err-first-clause-reads c = λ below.
    let p = err_from_is_err_and c.from_residual.result c.from_residual.ensures.1 in
    rw (p.1, p.2) (passes _ (order-key _ _ c.args.at c.args.most below (isnt c.has.ensures.is c.if-has.false)) (c.in_err-first.ensures.reads below))

pub keys-init : goal.keys-init
keys-init c = record {
  later = c.in_ok-first.ensures.later.0;
  within = c.in_ok-first.ensures.later.1;
  few = omega (arith, c.in_ok-first.ensures.later);
  short = omega (arith, c.in_ok-push.ensures.len, c.new-keys.ensures.len, c.in_ok-first.ensures.later);
  are = keyed-one c.in_ok-first.first (c.in_ok-push.ensures.items ∙ ap (λ x. x ++ c.in_ok-first.first ∷ []) c.new-keys.ensures.items) c.in_ok-first.ensures.is;
  reads = λ below. order-key _ _ c.args.at c.args.most below (isnt c.has.ensures.is c.if-has.false) ∙ c.in_ok-first.ensures.reads below;
}

pub returns-in_err-key-clause-reads : goal.returns-in_err-key-clause-reads
returns-in_err-key-clause-reads c = λ below.
    let p = err_from_is_err_and c.from_residual-in_err-key.result c.from_residual-in_err-key.ensures.1 in
    rw (p.1, p.2)
    (passes _ (c.keys.invariant.reads below ∙ keys-goes _ _ c.keys.next c.args.most c.keys.count below (yes c.has-in-keys.ensures.is c.keys-test.true))
    (c.in_err-key.ensures.reads below))

pub keys-preserved : goal.keys-preserved
keys-preserved c = record {
  later = omega (arith, c.in_ok-key.ensures.later, c.keys.invariant.later);
  within = c.in_ok-key.ensures.later.1;
  few = omega (arith, c.in_ok-key.ensures.later, c.keys.invariant.few);
  short = omega (arith, c.in_ok-push-2.ensures.len, c.in_ok-key.ensures.later, c.keys.invariant.short);
  are = keyed-snoc c.in_ok-key.key c.keys.invariant.are (yes c.has-in-keys.ensures.is c.keys-test.true) c.in_ok-key.ensures.is c.in_ok-push-2.ensures.items;
  reads = λ below.
      c.keys.invariant.reads below
      ∙ keys-goes _ _ c.keys.next c.args.most c.keys.count below (yes c.has-in-keys.ensures.is c.keys-test.true)
      ∙ c.in_ok-key.ensures.reads below;
}

pub returns-clause-is : goal.returns-clause-is
returns-clause-is c = rw c.from_vec-2.ensures (keyed-order c.keys.invariant.are)

pub returns-clause-reads : goal.returns-clause-reads
returns-clause-reads c = λ below.
    c.keys.invariant.reads below ∙ keys-over _ _ c.keys.next c.args.most c.keys.count below (isnt c.has-in-keys.ensures.is c.keys-test.false)
