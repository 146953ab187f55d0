-- The tokens from a place on have one tree at most, and it ends at one place: orders.
use Rattle.std.proofs.Common.{◌≡◌, ◌+◌, ℕ, List, ◌∷◌, Bool, true, false, arith}
use Rattle.policy_syntax.specs.SyntaxTrees.{KeySyntaxTree, ranked, preferring, OrderSyntaxTree}
use Rattle.policy_grammar.specs.declared.terminal.Lexeme.{Lexeme}
use Rattle.policy_grammar.specs.declared.terminal.Terminal.TheVariants as terminal
use Rattle.policy_grammar.specs.Terminals.{code, kind_at}
use Rattle.policy_grammar.specs.Words.{key_word}
use Rattle.policy_grammar.specs.Expressions.{IsExpr}
use Rattle.policy_grammar.specs.Orders.{IsKey, key_ranked, key_preferring, IsKeys, keys_none, keys_more, IsOrder, order_first, order_keys}
use Rattle.policy_grammar.proofs.CompleteConditions.{NoOr}
use Rattle.policy_grammar.proofs.CompleteOrders.{NoKey, keys-stop}
use Rattle.policy_grammar.proofs.OneExpressions.{expr-one}
use Rattle.policy_grammar.proofs.OneConditions.{condition-one}
use Rattle.policy_grammar.proofs.Same.{Same, same, same-ap, and-then, is-not, key-same}

module _ (text : List ℕ) (ts : List Lexeme) where
  ranks-no : (at : ℕ) (greatest : Bool) → kind_at ts at ≡ key_word greatest → kind_at ts at ≡ code terminal.Prefer → ⊥
  ranks-no at true k l = omega (arith, k, l)
  ranks-no at false k l = omega (arith, k, l)

  key-one : {at to so : ℕ} {v w : KeySyntaxTree} → IsKey text ts at v to → NoOr ts to → IsKey text ts at w so → NoOr ts so → Same v to w so
  key-one {at = at} (key_ranked a k d) n (key_ranked b l e) m =
      same-ap (λ p. ranked at p.0 p.1)
      (and-then (λ i. IsExpr text ts (i + 1)) (key-same at a b k l) e (λ o. expr-one text ts d n.before.operator o m.before.operator))
  key-one {at = at} (key_ranked a k d) n (key_preferring l e) m = absurd (ranks-no at a k l)
  key-one {at = at} (key_preferring k d) n (key_ranked b l e) m = absurd (ranks-no at b l k)
  key-one {at = at} (key_preferring k d) n (key_preferring l e) m = same-ap (preferring at) (condition-one text ts d n e m)

  keys-one : {at to so : ℕ} {v w : List KeySyntaxTree} → IsKeys text ts at v to → NoKey ts to → IsKeys text ts at w so → NoKey ts so → Same v to w so
  keys-one keys_none n keys_none m = same
  keys-one keys_none n (keys_more l e more) m = absurd (is-not _ (code terminal.Comma) n.comma l)
  keys-one (keys_more k d more) n keys_none m = absurd (is-not _ (code terminal.Comma) m.comma k)
  keys-one (keys_more k d more) n (keys_more l e others) m =
      same-ap (λ p. p.0 ∷ p.1)
      (and-then (IsKeys text ts) (key-one d (keys-stop more n.or) e (keys-stop others m.or)) others (λ o. keys-one more n o m))

  key-no_first : {at to : ℕ} {k : KeySyntaxTree} → IsKey text ts at k to → kind_at ts at ≡ code terminal.First → ⊥
  key-no_first (key_ranked true k d) l = omega (arith, k, l)
  key-no_first (key_ranked false k d) l = omega (arith, k, l)
  key-no_first (key_preferring k d) l = omega (arith, k, l)

  pub order-one : {at to so : ℕ} {v w : OrderSyntaxTree} → IsOrder text ts at v to → NoKey ts to → IsOrder text ts at w so → NoKey ts so → Same v to w so
  order-one (order_first k) n (order_first l) m = same
  order-one (order_first k) n (order_keys e more) m = absurd (key-no_first e k)
  order-one (order_keys d more) n (order_first l) m = absurd (key-no_first d l)
  order-one {at = at} (order_keys d more) n (order_keys e others) m =
      same-ap (λ p. record { at = at; keys = p.0 ∷ p.1 })
      (and-then (IsKeys text ts) (key-one d (keys-stop more n.or) e (keys-stop others m.or)) others (λ o. keys-one more n o m))
