-- The tokens of a part are its printed tokens: conditions.
use Rattle.std.proofs.Common.{◌≡◌, ◌+◌, ℕ, List, [], ◌∷◌, ◌++◌, codes, lit<, refl, append-nil}
use Rattle.policy_tree.specs.declared.trees.Cmp.{Cmp}
use Rattle.policy_tree.specs.declared.trees.Cmp.TheVariants as cmp
use Rattle.policy_syntax.specs.SyntaxTrees.{ConditionTree, ConditionTrees, no_more, more}
use Rattle.policy_lexer.specs.declared.token.Symbol.TheVariants as sign
use Rattle.policy_lexer.specs.declared.token.Token.{Token}
use Rattle.policy_grammar.specs.Lexemes.{reserved_words, policy_lexemes}
use Rattle.policy_grammar.specs.declared.terminal.Terminal.TheVariants as terminal
use Rattle.policy_grammar.specs.Terminals.{code, kind_at}
use Rattle.policy_grammar.specs.Words.{compare_word}
use Rattle.policy_grammar.specs.Conditions.{conjunction, disjunction, IsUnit, unit_always, unit_not, unit_group, unit_test, IsAnds, ands_none, ands_more, IsConjunction, conjunction_of, IsOrs, ors_none, ors_more, IsCondition, condition_of}
use Rattle.policy_printer.specs.WordTexts.{compare_text}
use Rattle.policy_printer.specs.ConditionTexts.{condition_texts, further_texts}
use Rattle.policy_printer.proofs.SpelledExpressions.{Are, expr-spells}
use Rattle.policy_printer.proofs.Spells.{◌▹◌, nothing, spells-as, reserved, symbol}

conjunction-texts : (at : ℕ) (first : ConditionTree) (rest : ConditionTrees) →
    condition_texts first ++ further_texts (codes "and") rest ≡ condition_texts (conjunction at first rest)
conjunction-texts at first no_more = append-nil (condition_texts first)
conjunction-texts at first (more second rest) = refl

disjunction-texts : (at : ℕ) (first : ConditionTree) (rest : ConditionTrees) →
    condition_texts first ++ further_texts (codes "or") rest ≡ condition_texts (disjunction at first rest)
disjunction-texts at first no_more = append-nil (condition_texts first)
disjunction-texts at first (more second rest) = refl

module _ (text : List ℕ) (tokens : List Token) where
  compare-spells : {at : ℕ} (c : Cmp) → kind_at (policy_lexemes text tokens) at ≡ compare_word c → Are text tokens at (compare_text c ∷ []) (at + 1)
  compare-spells cmp.Eq k = symbol text tokens sign.Equal refl k (lit< tt)
  compare-spells cmp.Ne k = symbol text tokens sign.Unequal refl k (lit< tt)
  compare-spells cmp.Lt k = symbol text tokens sign.Less refl k (lit< tt)
  compare-spells cmp.Le k = symbol text tokens sign.AtMost refl k (lit< tt)
  compare-spells cmp.Gt k = symbol text tokens sign.More refl k (lit< tt)
  compare-spells cmp.Ge k = symbol text tokens sign.AtLeast refl k (lit< tt)

  always-spells : {at : ℕ} → kind_at (policy_lexemes text tokens) at ≡ code terminal.Always → Are text tokens at (codes "always" ∷ []) (at + 1)
  unfolding reserved_words
  always-spells k = reserved text tokens (code terminal.Always) refl k (lit< tt) (lit< tt)

  not-spells : {at : ℕ} → kind_at (policy_lexemes text tokens) at ≡ code terminal.Not →
      Are text tokens at (codes "not" ∷ []) (at + 1)
  unfolding reserved_words
  not-spells k = reserved text tokens (code terminal.Not) refl k (lit< tt) (lit< tt)

  and-spells : {at : ℕ} → kind_at (policy_lexemes text tokens) at ≡ code terminal.And →
      Are text tokens at (codes "and" ∷ []) (at + 1)
  unfolding reserved_words
  and-spells k = reserved text tokens (code terminal.And) refl k (lit< tt) (lit< tt)

  or-spells : {at : ℕ} → kind_at (policy_lexemes text tokens) at ≡ code terminal.Or →
      Are text tokens at (codes "or" ∷ []) (at + 1)
  unfolding reserved_words
  or-spells k = reserved text tokens (code terminal.Or) refl k (lit< tt) (lit< tt)

  mutual
    unit-spells : {at to : ℕ} {v : ConditionTree} → IsUnit text (policy_lexemes text tokens) at v to → Are text tokens at (condition_texts v) to
    unit-spells (unit_always k) = always-spells k
    unit-spells (unit_not k d) = not-spells k ▹ unit-spells d
    unit-spells (unit_group k d c) =
        symbol text tokens sign.Open refl k (lit< tt) ▹ condition-spells d ▹ symbol text tokens sign.Close refl c (lit< tt)
    unit-spells (unit_test c d k e) = expr-spells text tokens d ▹ compare-spells c k ▹ expr-spells text tokens e

    ands-spells : {at to : ℕ} {v : ConditionTrees} → IsAnds text (policy_lexemes text tokens) at v to → Are text tokens at (further_texts (codes "and") v) to
    ands-spells ands_none = nothing
    ands-spells (ands_more k d rest) = and-spells k ▹ unit-spells d ▹ ands-spells rest

    conjunction-spells : {at to : ℕ} {v : ConditionTree} → IsConjunction text (policy_lexemes text tokens) at v to → Are text tokens at (condition_texts v) to
    conjunction-spells {at = at} (conjunction_of first rest d are) = spells-as (conjunction-texts at first rest) (unit-spells d ▹ ands-spells are)

    ors-spells : {at to : ℕ} {v : ConditionTrees} → IsOrs text (policy_lexemes text tokens) at v to → Are text tokens at (further_texts (codes "or") v) to
    ors-spells ors_none = nothing
    ors-spells (ors_more k d rest) = or-spells k ▹ conjunction-spells d ▹ ors-spells rest

    pub condition-spells : {at to : ℕ} {v : ConditionTree} → IsCondition text (policy_lexemes text tokens) at v to → Are text tokens at (condition_texts v) to
    condition-spells {at = at} (condition_of first rest d are) = spells-as (disjunction-texts at first rest) (conjunction-spells d ▹ ors-spells are)
