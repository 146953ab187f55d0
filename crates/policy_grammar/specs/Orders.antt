-- The grammar of orders, in the same form.
use Rattle.std.specs.Prelude.{ℕ, ◌+◌, ◌≡◌, Bool, List, [], ◌∷◌}
use Rattle.policy_syntax.specs.declared.syntax.ExprSyntax.{ExprSyntax}
use Rattle.policy_syntax.specs.SyntaxTrees.{ConditionTree, KeySyntaxTree, ranked, preferring, OrderSyntaxTree}
use Rattle.policy_grammar.specs.declared.terminal.Terminal.TheVariants.{First, Comma, Prefer}
use Rattle.policy_grammar.specs.declared.terminal.Lexeme.{Lexeme}
use Rattle.policy_grammar.specs.Terminals.{code, kind_at}
use Rattle.policy_grammar.specs.Words.{key_word}
use Rattle.policy_grammar.specs.Expressions.{IsExpr}
use Rattle.policy_grammar.specs.Conditions.{IsCondition}

-- key = ("min" | "max") expr | "prefer" cond
pub data IsKey (text : List ℕ) (ts : List Lexeme) : ℕ → KeySyntaxTree → ℕ → Type 0 where
  key_ranked : {at to : ℕ} (greatest : Bool) {v : ExprSyntax} → kind_at ts at ≡ key_word greatest →
      IsExpr text ts (at + 1) v to → IsKey text ts at (ranked at greatest v) to
  key_preferring : {at to : ℕ} {v : ConditionTree} → kind_at ts at ≡ code Prefer →
      IsCondition text ts (at + 1) v to → IsKey text ts at (preferring at v) to

-- ("," key)*
pub data IsKeys (text : List ℕ) (ts : List Lexeme) : ℕ → List KeySyntaxTree → ℕ → Type 0 where
  keys_none : {at : ℕ} → IsKeys text ts at [] at
  keys_more : {at mid to : ℕ} {k : KeySyntaxTree} {rest : List KeySyntaxTree} →
      kind_at ts at ≡ code Comma → IsKey text ts (at + 1) k mid → IsKeys text ts mid rest to →
      IsKeys text ts at (k ∷ rest) to

-- order = "first" | key ("," key)*
pub data IsOrder (text : List ℕ) (ts : List Lexeme) : ℕ → OrderSyntaxTree → ℕ → Type 0 where
  order_first : {at : ℕ} → kind_at ts at ≡ code First → IsOrder text ts at (record { at = at; keys = [] }) (at + 1)
  order_keys : {at mid to : ℕ} {k : KeySyntaxTree} {rest : List KeySyntaxTree} →
      IsKey text ts at k mid → IsKeys text ts mid rest to →
      IsOrder text ts at (record { at = at; keys = k ∷ rest }) to
