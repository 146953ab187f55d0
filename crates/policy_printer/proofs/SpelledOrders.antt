-- The tokens of a part are its printed tokens: orders.
use Rattle.std.proofs.Common.{◌≡◌, ◌+◌, ℕ, List, [], ◌∷◌, Bool, true, false, lit<, refl}
use Rattle.std.specs.List.{flat_map}
use Rattle.policy_syntax.specs.SyntaxTrees.{KeySyntaxTree, OrderSyntaxTree}
use Rattle.policy_lexer.specs.declared.token.Symbol.TheVariants as sign
use Rattle.policy_lexer.specs.declared.token.Token.{Token}
use Rattle.policy_grammar.specs.Lexemes.{reserved_words, policy_lexemes}
use Rattle.policy_grammar.specs.declared.terminal.Terminal.TheVariants as terminal
use Rattle.policy_grammar.specs.Terminals.{code, kind_at}
use Rattle.policy_grammar.specs.Words.{key_word}
use Rattle.policy_grammar.specs.Orders.{IsKey, key_ranked, key_preferring, IsKeys, keys_none, keys_more, IsOrder, order_first, order_keys}
use Rattle.policy_printer.specs.WordTexts.{key_text}
use Rattle.policy_printer.specs.OrderTexts.{key_texts, further_key_texts, order_texts}
use Rattle.policy_printer.proofs.SpelledExpressions.{Are, expr-spells}
use Rattle.policy_printer.proofs.SpelledConditions.{condition-spells}
use Rattle.policy_printer.proofs.Spells.{◌▹◌, nothing, reserved, symbol}

module _ (text : List ℕ) (tokens : List Token) where
  greatest-spells : {at : ℕ} (greatest : Bool) → kind_at (policy_lexemes text tokens) at ≡ key_word greatest → Are text tokens at (key_text greatest ∷ []) (at + 1)
  unfolding reserved_words
  greatest-spells true k = reserved text tokens (code terminal.Max) refl k (lit< tt) (lit< tt)
  greatest-spells false k = reserved text tokens (code terminal.Min) refl k (lit< tt) (lit< tt)

  key-spells : {at to : ℕ} {v : KeySyntaxTree} → IsKey text (policy_lexemes text tokens) at v to → Are text tokens at (key_texts v) to
  unfolding reserved_words
  key-spells (key_ranked greatest k d) = greatest-spells greatest k ▹ expr-spells text tokens d
  key-spells (key_preferring k d) = reserved text tokens (code terminal.Prefer) refl k (lit< tt) (lit< tt) ▹ condition-spells text tokens d

  keys-spells : {at to : ℕ} {v : List KeySyntaxTree} → IsKeys text (policy_lexemes text tokens) at v to → Are text tokens at (flat_map further_key_texts v) to
  keys-spells keys_none = nothing
  keys-spells (keys_more k d more) = (symbol text tokens sign.Comma refl k (lit< tt) ▹ key-spells d) ▹ keys-spells more

  pub order-spells : {at to : ℕ} {v : OrderSyntaxTree} → IsOrder text (policy_lexemes text tokens) at v to → Are text tokens at (order_texts v) to
  unfolding reserved_words
  order-spells (order_first k) = reserved text tokens (code terminal.First) refl k (lit< tt) (lit< tt)
  order-spells (order_keys d more) = key-spells d ▹ keys-spells more
