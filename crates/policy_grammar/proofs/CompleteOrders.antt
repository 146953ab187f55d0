-- What the grammar has is read, up to the first limit that its tree passes: orders.
use Rattle.std.proofs.Common.{◌≡◌, ℕ, ◌+◌, ◌==◌, List, ◌∷◌, refl, sym, ap, lit<, Bool, true, false, None, ◌∙◌}
use Rattle.policy_syntax.specs.SyntaxTrees.{KeySyntaxTree, OrderSyntaxTree}
use Rattle.policy_grammar.specs.declared.terminal.Lexeme.{Lexeme}
use Rattle.policy_grammar.specs.declared.terminal.Terminal.TheVariants as terminal
use Rattle.policy_grammar.specs.declared.limits.Limits.{Limits}
use Rattle.policy_grammar.specs.Terminals.{code, kind_at}
use Rattle.policy_grammar.specs.Words.{key_word}
use Rattle.policy_grammar.specs.Orders.{IsKey, key_ranked, key_preferring, IsKeys, keys_none, keys_more, IsOrder, order_first, order_keys}
use Rattle.policy_grammar.specs.Breaks.{many, comparisons, breaks_condition, key_at, breaks_key, breaks_keys, breaks_order}
use Rattle.policy_grammar.specs.Symbols.{Symbol, order, key, keys, operand}
use Rattle.policy_grammar.specs.Machine.{go}
use Rattle.policy_grammar.proofs.Steps.{judged, judged-first, go-move, go-same}
use Rattle.policy_grammar.proofs.CompleteExpressions.{expr_read}
use Rattle.policy_grammar.proofs.CompleteConditions.{NoOr, no_or-by, whole_read}

-- nothing that goes on with an order stands there
pub record NoKey (ts : List Lexeme) (at : ℕ) : Type 0 where
  pub or : NoOr ts at
  pub comma : (kind_at ts at == code terminal.Comma) ≡ false

-- what a key leaves behind it doesn't go on with its expression or condition
pub keys-stop : {text : List ℕ} {ts : List Lexeme} {at to : ℕ} {ks : List KeySyntaxTree} → IsKeys text ts at ks to → NoOr ts to → NoOr ts at
keys-stop keys_none n = n
keys-stop {ts = ts} {at = at} (keys_more k d more) n = no_or-by ts at (code terminal.Comma) k refl refl refl refl refl

module _ (limits : Limits) (text : List ℕ) (ts : List Lexeme) where
  key-starts : (at most before : ℕ) (below : List Symbol) (greatest : Bool) → kind_at ts at ≡ key_word greatest →
      go limits ts at 0 (key most before ∷ below)
      ≡ judged (many most at before) (go limits ts (at + 1) 0 (operand 0 0 0 ∷ keys most (before + 1) ∷ below))
  key-starts at most before below true k = go-move limits ts at (code terminal.Max) 0 0 (key most before ∷ below) _ (many most at before) k (lit< tt) refl
  key-starts at most before below false k = go-move limits ts at (code terminal.Min) 0 0 (key most before ∷ below) _ (many most at before) k (lit< tt) refl

  -- what a key's condition has counted is over
  pub keys-anew : (at count most before : ℕ) (below : List Symbol) → go limits ts at count (keys most before ∷ below) ≡ go limits ts at 0 (keys most before ∷ below)
  keys-anew at count most before below = go-same limits ts at count 0 (keys most before ∷ below) (keys most before ∷ below) refl refl

  pub key_read : {at to : ℕ} {k : KeySyntaxTree} → IsKey text ts at k to → NoOr ts to → (most before : ℕ) (below : List Symbol) →
      go limits ts at 0 (key most before ∷ below)
      ≡ judged (many most (key_at k) before) (judged (breaks_key limits k) (go limits ts to 0 (keys most (before + 1) ∷ below)))
  key_read {at = at} (key_ranked greatest {v = v} k d) n most before below =
      key-starts at most before below greatest k
      ∙ ap (judged (many most at before)) (expr_read limits text ts d n.before.operator 0 0 (keys most (before + 1) ∷ below))
  key_read {at = at} {to = to} (key_preferring {v = v} k d) n most before below =
      go-move limits ts at (code terminal.Prefer) 0 0 (key most before ∷ below) _ (many most at before) k (lit< tt) refl
      ∙ ap (judged (many most at before))
      (whole_read limits text ts d n limits.comparisons (keys most (before + 1) ∷ below)
      ∙ ap (judged (breaks_condition limits limits.comparisons 0 0 v)) (keys-anew to (comparisons v) most (before + 1) below))

  pub keys_read : {at to : ℕ} {ks : List KeySyntaxTree} → IsKeys text ts at ks to → NoKey ts to → (most before : ℕ) (below : List Symbol) →
      go limits ts at 0 (keys most before ∷ below) ≡ judged (breaks_keys limits most before ks) (go limits ts to 0 below)
  keys_read {at = at} keys_none n most before below = let comma = n.comma in go-same limits ts at 0 0 (keys most before ∷ below) below refl (rw comma refl)
  keys_read {at = at} (keys_more {k = k} {rest = rest} e d more) n most before below =
      go-move limits ts at (code terminal.Comma) 0 0 (keys most before ∷ below) (key most before ∷ below) None e (lit< tt) refl
      ∙ key_read d (keys-stop more n.or) most before below
      ∙ ap (judged (many most (key_at k) before))
      (ap (judged (breaks_key limits k)) (keys_read more n most (before + 1) below)
      ∙ sym (judged-first (breaks_key limits k) _ _))
      ∙ sym (judged-first (many most (key_at k) before) _ _)

  order-key : (at most : ℕ) (below : List Symbol) (greatest : Bool) → kind_at ts at ≡ key_word greatest →
      go limits ts at 0 (order most ∷ below) ≡ go limits ts at 0 (key most 0 ∷ below)
  order-key at most below true k = go-same limits ts at 0 0 (order most ∷ below) (key most 0 ∷ below) refl (rw k refl)
  order-key at most below false k = go-same limits ts at 0 0 (order most ∷ below) (key most 0 ∷ below) refl (rw k refl)

  pub key-begins : {at to : ℕ} {k : KeySyntaxTree} → IsKey text ts at k to → (most : ℕ) (below : List Symbol) →
      go limits ts at 0 (order most ∷ below) ≡ go limits ts at 0 (key most 0 ∷ below)
  key-begins {at = at} (key_ranked greatest k d) most below = order-key at most below greatest k
  key-begins {at = at} (key_preferring k d) most below = go-same limits ts at 0 0 (order most ∷ below) (key most 0 ∷ below) refl (rw k refl)

  pub order_read : {at to : ℕ} {o : OrderSyntaxTree} → IsOrder text ts at o to → NoKey ts to → (most : ℕ) (below : List Symbol) →
      go limits ts at 0 (order most ∷ below) ≡ judged (breaks_order limits most o) (go limits ts to 0 below)
  order_read {at = at} (order_first k) n most below = go-move limits ts at (code terminal.First) 0 0 (order most ∷ below) below None k (lit< tt) refl
  order_read {at = at} (order_keys {k = k} d more) n most below =
      key-begins d most below
      ∙ key_read d (keys-stop more n.or) most 0 below
      ∙ ap (judged (many most (key_at k) 0))
      (ap (judged (breaks_key limits k)) (keys_read more n most 1 below)
      ∙ sym (judged-first (breaks_key limits k) _ _))
      ∙ sym (judged-first (many most (key_at k) 0) _ _)
