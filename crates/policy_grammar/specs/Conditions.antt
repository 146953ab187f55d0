-- The grammar of conditions, in the same form.
use Rattle.std.specs.Prelude.{ℕ, ◌+◌, ◌≡◌, List}
use Rattle.policy_tree.specs.declared.trees.Cmp.{Cmp}
use Rattle.policy_syntax.specs.declared.syntax.ExprSyntax.{ExprSyntax}
use Rattle.policy_syntax.specs.SyntaxTrees.{ConditionTree, always, negated, grouped, all, any, test, ConditionTrees}
use Rattle.policy_syntax.specs.SyntaxTrees.{no_more, more}
use Rattle.policy_grammar.specs.declared.terminal.Terminal.TheVariants.{And, Or, Not, Always, Open, Close}
use Rattle.policy_grammar.specs.declared.terminal.Lexeme.{Lexeme}
use Rattle.policy_grammar.specs.Terminals.{code, kind_at}
use Rattle.policy_grammar.specs.Words.{compare_word}
use Rattle.policy_grammar.specs.Expressions.{IsExpr}

-- a unit alone is a conjunction, more of them are joined
abbrev pub conjunction : ℕ → ConditionTree → ConditionTrees → ConditionTree
conjunction at first no_more = first
conjunction at first (more second rest) = all at (more first (more second rest))

-- a conjunction alone is a condition, more of them are joined
abbrev pub disjunction : ℕ → ConditionTree → ConditionTrees → ConditionTree
disjunction at first no_more = first
disjunction at first (more second rest) = any at (more first (more second rest))

mutual
  -- unit = "not" unit | "(" cond ")" | "always" | expr cmp expr
  pub data IsUnit (text : List ℕ) (ts : List Lexeme) : ℕ → ConditionTree → ℕ → Type 0 where
    unit_always : {at : ℕ} → kind_at ts at ≡ code Always → IsUnit text ts at (always at) (at + 1)
    unit_not : {at to : ℕ} {v : ConditionTree} → kind_at ts at ≡ code Not → IsUnit text ts (at + 1) v to →
        IsUnit text ts at (negated at v) to
    unit_group : {at mid : ℕ} {v : ConditionTree} → kind_at ts at ≡ code Open → IsCondition text ts (at + 1) v mid →
        kind_at ts mid ≡ code Close → IsUnit text ts at (grouped at v) (mid + 1)
    unit_test : {at mid to : ℕ} (compare : Cmp) {left right : ExprSyntax} → IsExpr text ts at left mid →
        kind_at ts mid ≡ compare_word compare → IsExpr text ts (mid + 1) right to →
        IsUnit text ts at (test mid compare left right) to

  -- ("and" unit)*
  pub data IsAnds (text : List ℕ) (ts : List Lexeme) : ℕ → ConditionTrees → ℕ → Type 0 where
    ands_none : {at : ℕ} → IsAnds text ts at no_more at
    ands_more : {at mid to : ℕ} {v : ConditionTree} {rest : ConditionTrees} → kind_at ts at ≡ code And →
        IsUnit text ts (at + 1) v mid → IsAnds text ts mid rest to → IsAnds text ts at (more v rest) to

  -- conj = unit ("and" unit)*
  pub data IsConjunction (text : List ℕ) (ts : List Lexeme) : ℕ → ConditionTree → ℕ → Type 0 where
    conjunction_of : {at mid to : ℕ} (first : ConditionTree) (rest : ConditionTrees) →
        IsUnit text ts at first mid → IsAnds text ts mid rest to →
        IsConjunction text ts at (conjunction at first rest) to

  -- ("or" conj)*
  pub data IsOrs (text : List ℕ) (ts : List Lexeme) : ℕ → ConditionTrees → ℕ → Type 0 where
    ors_none : {at : ℕ} → IsOrs text ts at no_more at
    ors_more : {at mid to : ℕ} {v : ConditionTree} {rest : ConditionTrees} → kind_at ts at ≡ code Or →
        IsConjunction text ts (at + 1) v mid → IsOrs text ts mid rest to → IsOrs text ts at (more v rest) to

  -- cond = conj ("or" conj)*
  pub data IsCondition (text : List ℕ) (ts : List Lexeme) : ℕ → ConditionTree → ℕ → Type 0 where
    condition_of : {at mid to : ℕ} (first : ConditionTree) (rest : ConditionTrees) →
        IsConjunction text ts at first mid → IsOrs text ts mid rest to →
        IsCondition text ts at (disjunction at first rest) to
