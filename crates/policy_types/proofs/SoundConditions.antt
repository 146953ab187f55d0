-- Conditions and orders that break no rule and keep the limits are resolved ones.
use Rattle.std.proofs.Common.{◌≡◌, ℕ, ◌+◌, ◌≤◌, Bool, true, false, List, [], ◌∷◌, All, map, length, refl, sym, subst, ◌∙◌, arith, Option, Some, None}
use Rattle.std.proofs.lemmas.List.{length-map}
use Rattle.std.proofs.lemmas.List.Elements.{All-cons, All-nil}
use Rattle.policy_syntax.specs.declared.syntax.ExprSyntax.{ExprSyntax}
use Rattle.policy_tree.specs.Meaning.{Meaning}
use Rattle.policy_syntax.specs.SyntaxTrees.{ConditionTree, always, negated, grouped, all, any, test, ConditionTrees, no_more, more, KeySyntaxTree, ranked, preferring, OrderSyntaxTree}
use Rattle.policy_tree.specs.Trees.{CondTree, ExprTree}
use Rattle.policy_grammar.specs.declared.limits.TheConstants.{POLICY_LIMITS}
use Rattle.policy_grammar.specs.Breaks as breaks
use Rattle.policy_grammar.specs.Breaks.{breaks_condition, breaks_expr, breaks_key, breaks_keys, breaks_order, breaks_parts, comparisons, deep, first_of, key_at, many}
use Rattle.policy_eval.specs.Forms as eval
use Rattle.policy_eval.specs.Forms.{EachSide}
use Rattle.policy_eval.specs.Sites as Sites
use Rattle.policy_eval.specs.Resolved.{IsResolvedCond, IsResolvedExpr, IsResolvedKey, IsResolvedOrder}
use Rattle.policy_types.specs.declared.scope.Scope.{Scope}
use Rattle.policy_types.specs.declared.sites.Site.{Site}
use Rattle.policy_types.specs.Conditions.{chain_meaning, condition_faults, condition_meaning, directed, key_faults, key_meaning, keys_faults, linked, order_faults, order_meaning, parts_faults}
use Rattle.policy_types.specs.Expressions.{expr_faults, expr_meaning}
use Rattle.policy_types.proofs.Allowed.{declared, site_of}
use Rattle.policy_types.proofs.Counted.{expr_few, keeps_many, keeps_parts}
use Rattle.policy_types.proofs.Firsts.{none_parts}
use Rattle.policy_types.proofs.SoundExpressions.{sound_expr}

-- the comparisons of the chain so far
abbrev count_chain : Option CondTree → ℕ
count_chain None = 0
count_chain (Some c) = eval.comparisons_of c

linked_count : (both : Bool) (chain : Option CondTree) (c : CondTree) → eval.comparisons_of (linked both chain c) ≡ count_chain chain + eval.comparisons_of c
linked_count both None c = omega arith
linked_count true (Some left) c = refl
linked_count false (Some left) c = refl

-- a key is a resolved one where its expression is
key_resolved : (p : Meaning) (at : Sites.Site) (greatest : Bool) (e : ExprTree) → IsResolvedExpr p at e → IsResolvedKey p at (directed greatest e)
key_resolved p at true e is = is
key_resolved p at false e is = is

zero_plus : (n : ℕ) → 0 + n ≡ n
zero_plus n = omega arith

mutual
  condition_count : (scope : Scope) (c : ConditionTree) → eval.comparisons_of (condition_meaning scope c) ≡ comparisons c
  condition_count scope (always at) = refl
  condition_count scope (negated at inner) = condition_count scope inner
  condition_count scope (grouped at inner) = condition_count scope inner
  condition_count scope (all at parts) = chain_count scope true None parts ∙ zero_plus (breaks.comparisons_of parts)
  condition_count scope (any at parts) = chain_count scope false None parts ∙ zero_plus (breaks.comparisons_of parts)
  condition_count scope (test at compare left right) = refl

  chain_count : (scope : Scope) (both : Bool) (chain : Option CondTree) (parts : ConditionTrees) → eval.comparisons_of (chain_meaning scope both chain parts) ≡ count_chain chain + breaks.comparisons_of parts
  chain_count scope both None no_more = refl
  chain_count scope both (Some c) no_more = omega arith
  chain_count scope both chain (more part rest) =
      let here = condition_count scope part in let link = linked_count both chain (condition_meaning scope part) in
      let later = chain_count scope both (Some (linked both chain (condition_meaning scope part))) rest in
      omega arith

mutual
  condition_few : (most depth count : ℕ) (c : ConditionTree) → count ≤ most → breaks_condition POLICY_LIMITS most depth count c ≡ None → count + comparisons c ≤ most
  condition_few most depth count (always at) few keeps = omega arith
  condition_few most depth count (negated at inner) few keeps =
      condition_few most (depth + 1) count inner few (keeps_parts (deep POLICY_LIMITS at depth) (breaks_condition POLICY_LIMITS most (depth + 1) count inner) keeps).1
  condition_few most depth count (grouped at inner) few keeps =
      condition_few most (depth + 1) count inner few (keeps_parts (deep POLICY_LIMITS at depth) (breaks_condition POLICY_LIMITS most (depth + 1) count inner) keeps).1
  condition_few most depth count (all at parts) few keeps = parts_few most depth count parts few keeps
  condition_few most depth count (any at parts) few keeps = parts_few most depth count parts few keeps
  condition_few most depth count (test at compare left right) few keeps =
      let later = (keeps_parts (breaks_expr POLICY_LIMITS depth left) (first_of (many most at count) (breaks_expr POLICY_LIMITS depth right)) keeps).1 in
      let less = keeps_many most at count (keeps_parts (many most at count) (breaks_expr POLICY_LIMITS depth right) later).0 in
      omega arith

  parts_few : (most depth count : ℕ) (parts : ConditionTrees) → count ≤ most → breaks_parts POLICY_LIMITS most depth count parts ≡ None → count + breaks.comparisons_of parts ≤ most
  parts_few most depth count no_more few keeps = omega arith
  parts_few most depth count (more part rest) few keeps =
      let both = keeps_parts (breaks_condition POLICY_LIMITS most depth count part) (breaks_parts POLICY_LIMITS most depth (count + comparisons part) rest) keeps in
      let here = condition_few most depth count part few both.0 in
      let later = parts_few most depth (count + comparisons part) rest here both.1 in
      omega arith

-- so many comparisons has the condition at most
pub resolved_few : (scope : Scope) (most : ℕ) (c : ConditionTree) → breaks_condition POLICY_LIMITS most 0 0 c ≡ None → eval.comparisons_of (condition_meaning scope c) ≤ most
resolved_few scope most c keeps =
    subst (λ n. n ≤ most) (zero_plus (comparisons c) ∙ sym (condition_count scope c)) (condition_few most 0 0 c (omega arith) keeps)

-- so many keys has the order at most
keys_few : (most count : ℕ) (keys : List KeySyntaxTree) → count ≤ most → breaks_keys POLICY_LIMITS most count keys ≡ None → count + length keys ≤ most
keys_few most count [] few keeps = omega (arith, few)
keys_few most count (k ∷ rest) few keeps =
    let first = keeps_parts (many most (key_at k) count) (first_of (breaks_key POLICY_LIMITS k) (breaks_keys POLICY_LIMITS most (count + 1) rest)) keeps in
    let less = keeps_many most (key_at k) count first.0 in
    let later = keys_few most (count + 1) rest (omega (arith, less)) (keeps_parts (breaks_key POLICY_LIMITS k) (breaks_keys POLICY_LIMITS most (count + 1) rest) first.1).1 in
    omega (arith, later)

pub order_few : (scope : Scope) (most : ℕ) (order : OrderSyntaxTree) → breaks_order POLICY_LIMITS most order ≡ None → length (order_meaning scope order) ≤ most
order_few scope most order keeps =
    let few = keys_few most 0 order.keys (omega arith) keeps in let same = length-map order.keys (key_meaning scope) in
    omega (arith, few, same)

-- each side of a condition that breaks no rule and keeps the limits is what each such expression is
module _ (scope : Scope) (site : Site) (P : ExprTree → Type 0)
    (each : (depth : ℕ) (e : ExprSyntax) → expr_faults scope site e ≡ [] → breaks_expr POLICY_LIMITS depth e ≡ None → P (expr_meaning scope e)) where
  abbrev ChainSides : Option CondTree → Type 0
  ChainSides None = Unit {0}
  ChainSides (Some c) = EachSide P c

  linked_sides : (both : Bool) (chain : Option CondTree) (c : CondTree) → ChainSides chain → EachSide P c → EachSide P (linked both chain c)
  linked_sides both None c sides right = right
  linked_sides true (Some left) c sides right = (sides, right)
  linked_sides false (Some left) c sides right = (sides, right)

  mutual
    condition_sides : (most depth count : ℕ) (c : ConditionTree) → condition_faults scope site c ≡ [] → breaks_condition POLICY_LIMITS most depth count c ≡ None → EachSide P (condition_meaning scope c)
    condition_sides most depth count (always at) none keeps = tt
    condition_sides most depth count (negated at inner) none keeps =
        condition_sides most (depth + 1) count inner none (keeps_parts (deep POLICY_LIMITS at depth) (breaks_condition POLICY_LIMITS most (depth + 1) count inner) keeps).1
    condition_sides most depth count (grouped at inner) none keeps =
        condition_sides most (depth + 1) count inner none (keeps_parts (deep POLICY_LIMITS at depth) (breaks_condition POLICY_LIMITS most (depth + 1) count inner) keeps).1
    condition_sides most depth count (all at parts) none keeps = chain_sides most depth count true None parts tt none keeps
    condition_sides most depth count (any at parts) none keeps = chain_sides most depth count false None parts tt none keeps
    condition_sides most depth count (test at compare left right) none keeps =
        let both = none_parts (expr_faults scope site left) (expr_faults scope site right) none in
        let first = keeps_parts (breaks_expr POLICY_LIMITS depth left) (first_of (many most at count) (breaks_expr POLICY_LIMITS depth right)) keeps in
        let later = keeps_parts (many most at count) (breaks_expr POLICY_LIMITS depth right) first.1 in
        (each depth left both.0 first.0, each depth right both.1 later.1)

    chain_sides : (most depth count : ℕ) (both : Bool) (chain : Option CondTree) (parts : ConditionTrees) → ChainSides chain → parts_faults scope site parts ≡ [] → breaks_parts POLICY_LIMITS most depth count parts ≡ None → EachSide P (chain_meaning scope both chain parts)
    chain_sides most depth count both None no_more sides none keeps = tt
    chain_sides most depth count both (Some c) no_more sides none keeps = sides
    chain_sides most depth count both chain (more part rest) sides none keeps =
        let empty = none_parts (condition_faults scope site part) (parts_faults scope site rest) none in
        let kept = keeps_parts (breaks_condition POLICY_LIMITS most depth count part) (breaks_parts POLICY_LIMITS most depth (count + comparisons part) rest) keeps in
        let here = condition_sides most depth count part empty.0 kept.0 in
        chain_sides most depth (count + comparisons part) both (Some (linked both chain (condition_meaning scope part))) rest
        (linked_sides both chain (condition_meaning scope part) sides here) empty.1 kept.1

  pub each_side : (most : ℕ) (c : ConditionTree) → condition_faults scope site c ≡ [] → breaks_condition POLICY_LIMITS most 0 0 c ≡ None → EachSide P (condition_meaning scope c)
  each_side most c none keeps = condition_sides most 0 0 c none keeps

module _ (p : Meaning) (cores : length p.core_attrs ≤ 8) (threads : length p.thread_attrs ≤ 8) (site : Site) where
  pub resolved_expr : (depth : ℕ) (e : ExprSyntax) → expr_faults (declared p) site e ≡ [] → breaks_expr POLICY_LIMITS depth e ≡ None → IsResolvedExpr p (site_of site) (expr_meaning (declared p) e)
  resolved_expr depth e none keeps =
      let sound = sound_expr p cores threads site e none in
      record { linear = sound.linear; few = expr_few POLICY_LIMITS (declared p) depth e keeps; allowed = sound.allowed }

  pub resolved_condition : (c : ConditionTree) → condition_faults (declared p) site c ≡ [] → breaks_condition POLICY_LIMITS 16 0 0 c ≡ None → IsResolvedCond p (site_of site) (condition_meaning (declared p) c)
  resolved_condition c none keeps = record {
    few = resolved_few (declared p) 16 c keeps;
    sides = each_side (declared p) site (IsResolvedExpr p (site_of site)) resolved_expr 16 c none keeps;
  }

  resolved_key : (k : KeySyntaxTree) → key_faults (declared p) site k ≡ [] → breaks_key POLICY_LIMITS k ≡ None → IsResolvedKey p (site_of site) (key_meaning (declared p) k)
  resolved_key (ranked at greatest e) none keeps =
      key_resolved p (site_of site) greatest (expr_meaning (declared p) e) (resolved_expr 0 e none keeps)
  resolved_key (preferring at c) none keeps = resolved_condition c none keeps

  keys_each : (most count : ℕ) (keys : List KeySyntaxTree) → keys_faults (declared p) site keys ≡ [] → breaks_keys POLICY_LIMITS most count keys ≡ None → All (IsResolvedKey p (site_of site)) (map (key_meaning (declared p)) keys)
  keys_each most count [] none keeps = All-nil (IsResolvedKey p (site_of site))
  keys_each most count (k ∷ rest) none keeps =
      let empty = none_parts (key_faults (declared p) site k) (keys_faults (declared p) site rest) none in
      let first = keeps_parts (many most (key_at k) count) (first_of (breaks_key POLICY_LIMITS k) (breaks_keys POLICY_LIMITS most (count + 1) rest)) keeps in
      let later = keeps_parts (breaks_key POLICY_LIMITS k) (breaks_keys POLICY_LIMITS most (count + 1) rest) first.1 in
      All-cons (IsResolvedKey p (site_of site)) (key_meaning (declared p) k) (map (key_meaning (declared p)) rest)
      (resolved_key k empty.0 later.0) (keys_each most (count + 1) rest empty.1 later.1)

  pub resolved_order : (most : ℕ) → most ≤ 4 → (order : OrderSyntaxTree) → order_faults (declared p) site order ≡ [] → breaks_order POLICY_LIMITS most order ≡ None → IsResolvedOrder p (site_of site) (order_meaning (declared p) order)
  resolved_order most less order none keeps =
      let few = order_few (declared p) most order keeps in
      record { few = omega (arith, few, less); keys = keys_each most 0 order.keys none keeps }

-- an order without keys
pub no_keys : (p : Meaning) (at : Sites.Site) → IsResolvedOrder p at []
no_keys p at = record { few = omega arith; keys = All-nil (IsResolvedKey p at) }
