-- Parts that are read one after another.
use Rattle.std.proofs.Common.{◌≡◌, ℕ, ◌+◌, List, [], ◌∷◌, ◌++◌, map, refl, sym, ap, subst, ◌∙◌}
use Rattle.policy_syntax.specs.declared.syntax.KeySyntax.{KeySyntax}
use Rattle.policy_syntax.specs.declared.syntax.ConditionSyntax.{ConditionSyntax}
use Rattle.policy_syntax.specs.SyntaxTrees.{ConditionTree, ConditionTrees, no_more, more, all, any, condition_tree, condition_trees, KeySyntaxTree, key_syntax_tree}
use Rattle.policy_grammar.specs.declared.terminal.Lexeme.{Lexeme}
use Rattle.policy_grammar.specs.declared.terminal.Terminal.TheVariants.{Comma, And, Or}
use Rattle.policy_grammar.specs.Terminals.{code, kind_at}
use Rattle.policy_grammar.specs.Orders.{IsKey, IsKeys, keys_none, IsOrder, order_keys}
use Rattle.policy_grammar.specs.Conditions.{conjunction, disjunction, IsUnit, IsAnds, ands_none, ands_more, IsConjunction, conjunction_of, IsOrs, ors_none, ors_more, IsCondition, condition_of}
use Rattle.policy_parser.proofs.Parts.{keys-snoc, map-snoc}

-- keys of an order so far
pub record Keyed (text : List ℕ) (ts : List Lexeme) (items : List KeySyntax) (at to : ℕ) : Type 0 where
  pub first : KeySyntaxTree
  pub rest : List KeySyntaxTree
  pub mid : ℕ
  pub same : map key_syntax_tree items ≡ first ∷ rest
  pub is : IsKey text ts at first mid
  pub are : IsKeys text ts mid rest to

pub keyed-one : {text : List ℕ} {ts : List Lexeme} {items : List KeySyntax} {at to : ℕ} (key : KeySyntax) → items ≡ key ∷ [] →
    IsKey text ts at (key_syntax_tree key) to → Keyed text ts items at to
keyed-one key e d = record { first = key_syntax_tree key; rest = []; mid = _; same = ap (map key_syntax_tree) e; is = d; are = keys_none }

pub keyed-snoc : {text : List ℕ} {ts : List Lexeme} {items new : List KeySyntax} {at mid to : ℕ} (key : KeySyntax) → Keyed text ts items at mid →
    kind_at ts mid ≡ code Comma → IsKey text ts (mid + 1) (key_syntax_tree key) to → new ≡ items ++ key ∷ [] → Keyed text ts new at to
keyed-snoc {items = items} key k comma d e =
    record {
      first = k.first;
      rest = k.rest ++ key_syntax_tree key ∷ [];
      mid = k.mid;
      same = ap (map key_syntax_tree) e ∙ map-snoc key_syntax_tree items key ∙ ap (λ x. x ++ key_syntax_tree key ∷ []) k.same;
      is = k.is;
      are = keys-snoc k.are comma d;
    }

pub keyed-order : {text : List ℕ} {ts : List Lexeme} {items : List KeySyntax} {at to : ℕ} → Keyed text ts items at to →
    IsOrder text ts at (record { at = at; keys = map key_syntax_tree items }) to
keyed-order {text = text} {ts = ts} {items = items} {at = at} {to = to} k =
    subst (λ x. IsOrder text ts at (record { at = at; keys = x }) to) (sym k.same) (order_keys k.is k.are)

-- one part more
abbrev snoc : ConditionTrees → ConditionTree → ConditionTrees
snoc no_more v = more v no_more
snoc (more u rest) v = more u (snoc rest v)

trees-snoc : (items : List ConditionSyntax) (part : ConditionSyntax) → condition_trees (items ++ part ∷ []) ≡ snoc (condition_trees items) (condition_tree part)
trees-snoc [] part = refl
trees-snoc (x ∷ xs) part = ap (more (condition_tree x)) (trees-snoc xs part)

conjunction-snoc : (at : ℕ) (first : ConditionTree) (rest : ConditionTrees) (v : ConditionTree) → conjunction at first (snoc rest v) ≡ all at (more first (snoc rest v))
conjunction-snoc at first no_more v = refl
conjunction-snoc at first (more u rest) v = refl

disjunction-snoc : (at : ℕ) (first : ConditionTree) (rest : ConditionTrees) (v : ConditionTree) → disjunction at first (snoc rest v) ≡ any at (more first (snoc rest v))
disjunction-snoc at first no_more v = refl
disjunction-snoc at first (more u rest) v = refl

ands-snoc : {text : List ℕ} {ts : List Lexeme} {at mid to : ℕ} {us : ConditionTrees} {v : ConditionTree} → IsAnds text ts at us mid → kind_at ts mid ≡ code And →
    IsUnit text ts (mid + 1) v to → IsAnds text ts at (snoc us v) to
ands-snoc ands_none k d = ands_more k d ands_none
ands-snoc (ands_more j e rest) k d = ands_more j e (ands-snoc rest k d)

ors-snoc : {text : List ℕ} {ts : List Lexeme} {at mid to : ℕ} {cs : ConditionTrees} {v : ConditionTree} → IsOrs text ts at cs mid → kind_at ts mid ≡ code Or →
    IsConjunction text ts (mid + 1) v to → IsOrs text ts at (snoc cs v) to
ors-snoc ors_none k d = ors_more k d ors_none
ors-snoc (ors_more j e rest) k d = ors_more j e (ors-snoc rest k d)

-- units of a conjunction so far
pub record Anded (text : List ℕ) (ts : List Lexeme) (items : List ConditionSyntax) (at to : ℕ) : Type 0 where
  pub first : ConditionTree
  pub rest : ConditionTrees
  pub mid : ℕ
  pub same : condition_trees items ≡ more first rest
  pub is : IsUnit text ts at first mid
  pub are : IsAnds text ts mid rest to

pub anded-one : {text : List ℕ} {ts : List Lexeme} {items : List ConditionSyntax} {at to : ℕ} (part : ConditionSyntax) → items ≡ part ∷ [] →
    IsUnit text ts at (condition_tree part) to → Anded text ts items at to
anded-one part e d = record { first = condition_tree part; rest = no_more; mid = _; same = ap condition_trees e; is = d; are = ands_none }

pub anded-snoc : {text : List ℕ} {ts : List Lexeme} {items new : List ConditionSyntax} {at mid to : ℕ} (part : ConditionSyntax) → Anded text ts items at mid →
    kind_at ts mid ≡ code And → IsUnit text ts (mid + 1) (condition_tree part) to → new ≡ items ++ part ∷ [] → Anded text ts new at to
anded-snoc {items = items} part a k d e =
    record {
      first = a.first;
      rest = snoc a.rest (condition_tree part);
      mid = a.mid;
      same = ap condition_trees e ∙ trees-snoc items part ∙ ap (λ x. snoc x (condition_tree part)) a.same;
      is = a.is;
      are = ands-snoc a.are k d;
    }

pub anded-all : {text : List ℕ} {ts : List Lexeme} {items new : List ConditionSyntax} {at mid to : ℕ} {v : ConditionTree} (part : ConditionSyntax) → Anded text ts items at mid →
    kind_at ts mid ≡ code And → IsUnit text ts (mid + 1) (condition_tree part) to → new ≡ items ++ part ∷ [] → v ≡ all at (condition_trees new) →
    IsConjunction text ts at v to
anded-all {text = text} {ts = ts} {items = items} {at = at} {to = to} part a k d e is =
    let trees = ap condition_trees e ∙ trees-snoc items part ∙ ap (λ x. snoc x (condition_tree part)) a.same in
    subst (λ x. IsConjunction text ts at x to)
    (conjunction-snoc at a.first a.rest (condition_tree part) ∙ ap (all at) (sym trees) ∙ sym is)
    (conjunction_of a.first (snoc a.rest (condition_tree part)) a.is (ands-snoc a.are k d))

-- conjunctions of a condition so far
pub record Ored (text : List ℕ) (ts : List Lexeme) (items : List ConditionSyntax) (at to : ℕ) : Type 0 where
  pub first : ConditionTree
  pub rest : ConditionTrees
  pub mid : ℕ
  pub same : condition_trees items ≡ more first rest
  pub is : IsConjunction text ts at first mid
  pub are : IsOrs text ts mid rest to

pub ored-one : {text : List ℕ} {ts : List Lexeme} {items : List ConditionSyntax} {at to : ℕ} (part : ConditionSyntax) → items ≡ part ∷ [] →
    IsConjunction text ts at (condition_tree part) to → Ored text ts items at to
ored-one part e d = record { first = condition_tree part; rest = no_more; mid = _; same = ap condition_trees e; is = d; are = ors_none }

pub ored-snoc : {text : List ℕ} {ts : List Lexeme} {items new : List ConditionSyntax} {at mid to : ℕ} (part : ConditionSyntax) → Ored text ts items at mid →
    kind_at ts mid ≡ code Or → IsConjunction text ts (mid + 1) (condition_tree part) to → new ≡ items ++ part ∷ [] → Ored text ts new at to
ored-snoc {items = items} part a k d e =
    record {
      first = a.first;
      rest = snoc a.rest (condition_tree part);
      mid = a.mid;
      same = ap condition_trees e ∙ trees-snoc items part ∙ ap (λ x. snoc x (condition_tree part)) a.same;
      is = a.is;
      are = ors-snoc a.are k d;
    }

pub ored-any : {text : List ℕ} {ts : List Lexeme} {items new : List ConditionSyntax} {at mid to : ℕ} {v : ConditionTree} (part : ConditionSyntax) → Ored text ts items at mid →
    kind_at ts mid ≡ code Or → IsConjunction text ts (mid + 1) (condition_tree part) to → new ≡ items ++ part ∷ [] → v ≡ any at (condition_trees new) →
    IsCondition text ts at v to
ored-any {text = text} {ts = ts} {items = items} {at = at} {to = to} part a k d e is =
    let trees = ap condition_trees e ∙ trees-snoc items part ∙ ap (λ x. snoc x (condition_tree part)) a.same in
    subst (λ x. IsCondition text ts at x to)
    (disjunction-snoc at a.first a.rest (condition_tree part) ∙ ap (any at) (sym trees) ∙ sym is)
    (condition_of a.first (snoc a.rest (condition_tree part)) a.is (ors-snoc a.are k d))
