use Rattle.std.proofs.Common.{◌≡◌, List, [], ◌∷◌, refl, sym, ap, ◌∙◌, true≢false}
use Rattle.policy_tree.specs.declared.typed.Key.{Key}
use Rattle.policy_tree.specs.Meaning.{meaning_of, order_tree}
use Rattle.wait_classes.proofs.Applying.{applies, by_least, in_order}
use Rattle.wait_classes.proofs.classes.wait_class.Goals as goal

none_in : (keys : List Key) → order_tree keys ≡ [] → keys ≡ []
none_in [] is = refl
none_in (key ∷ keys) is = absurd (cc)

pub returns-then-is_empty-clause-applies : goal.returns-then-is_empty-clause-applies
returns-then-is_empty-clause-applies c =
    let p = meaning_of c.args.policy.now in
    applies p c.class_in_order.result (c.class_in_order.ensures ∙ in_order p (ap order_tree (c.is_empty.ensures.0 c.if-is_empty.true)))

pub returns-else-is_empty-clause-class : goal.returns-else-is_empty-clause-class
returns-else-is_empty-clause-class c =
    c.class_by_least.ensures
    ∙ by_least (meaning_of c.args.policy.now) (λ none. true≢false (sym (c.is_empty.ensures.1 (none_in c.args.policy.now.elect none)) ∙ c.if-is_empty.false))

pub returns-else-is_empty-clause-applies : goal.returns-else-is_empty-clause-applies
returns-else-is_empty-clause-applies c = applies (meaning_of c.args.policy.now) c.class_by_least.result (returns-else-is_empty-clause-class c)
