-- What the grammar has of some tokens, it has of tokens that are alike: conditions, orders and policies.
use Rattle.std.proofs.Common.{◌≡◌, ◌+◌, ℕ, List, ◌∷◌, Option, Some, refl, sym, subst}
use Rattle.policy_syntax.specs.declared.syntax.LoadSyntax.{LoadSyntax}
use Rattle.policy_syntax.specs.declared.syntax.AttrSyntax.{AttrSyntax}
use Rattle.policy_syntax.specs.declared.syntax.PlaceSyntax.{PlaceSyntax}
use Rattle.policy_syntax.specs.declared.syntax.SetSyntax.{SetSyntax}
use Rattle.policy_syntax.specs.SyntaxTrees.{ConditionTree, ConditionTrees, KeySyntaxTree, OrderSyntaxTree, ElectSyntaxTree, BatchSyntaxTree, CaseSyntaxTree, HandlerSyntaxTree, SyntaxTree}
use Rattle.policy_grammar.specs.declared.terminal.Lexeme.{Lexeme}
use Rattle.policy_grammar.specs.declared.terminal.Terminal.TheVariants as terminal
use Rattle.policy_grammar.specs.Terminals.{code, kind_at, word_at}
use Rattle.policy_grammar.specs.Conditions.{IsUnit, unit_always, unit_not, unit_group, unit_test, IsAnds, ands_none, ands_more, IsConjunction, conjunction_of, IsOrs, ors_none, ors_more, IsCondition, condition_of}
use Rattle.policy_grammar.specs.Orders.{IsKey, key_ranked, key_preferring, IsKeys, keys_none, keys_more, IsOrder, order_first, order_keys}
use Rattle.policy_grammar.specs.Policies.{IsLoad, load_count, load_weight, IsAttr, attr_of, IsAttrs, attrs_none, attrs_more, IsPlace, place_none, place_here, place_least, IsElect, elect_none, elect_some, IsBatch, batch_none, batch_some, IsSets, sets_none, sets_more, IsCase, case_of, IsCases, cases_none, cases_more, IsHandler, handler_of, IsHandlers, handlers_none, handlers_more, IsPolicy, policy_of}
use Rattle.policy_printer.proofs.Alike.{Alike}
use Rattle.policy_printer.proofs.AgainExpressions.{kind-again, word-again, int-again, range-again, expr-again}

module _ (text : List ℕ) (ts : List Lexeme) (other : List ℕ) (us : List Lexeme) (like : Alike text ts other us) where
  kind : {k : ℕ} (at : ℕ) → kind_at ts at ≡ k → kind_at us at ≡ k
  kind at k = kind-again text ts other us like at k

  mutual
    unit-again : {at to : ℕ} {v : ConditionTree} → IsUnit text ts at v to → IsUnit other us at v to
    unit-again {at = at} (unit_always k) = unit_always (kind at k)
    unit-again {at = at} (unit_not k d) = unit_not (kind at k) (unit-again d)
    unit-again {at = at} (unit_group k d c) = unit_group (kind at k) (condition-again d) (kind _ c)
    unit-again (unit_test compare d k e) =
        unit_test compare (expr-again text ts other us like d) (kind _ k) (expr-again text ts other us like e)

    ands-again : {at to : ℕ} {v : ConditionTrees} → IsAnds text ts at v to → IsAnds other us at v to
    ands-again ands_none = ands_none
    ands-again {at = at} (ands_more k d rest) = ands_more (kind at k) (unit-again d) (ands-again rest)

    conjunction-again : {at to : ℕ} {v : ConditionTree} → IsConjunction text ts at v to → IsConjunction other us at v to
    conjunction-again (conjunction_of first rest d are) = conjunction_of first rest (unit-again d) (ands-again are)

    ors-again : {at to : ℕ} {v : ConditionTrees} → IsOrs text ts at v to → IsOrs other us at v to
    ors-again ors_none = ors_none
    ors-again {at = at} (ors_more k d rest) = ors_more (kind at k) (conjunction-again d) (ors-again rest)

    condition-again : {at to : ℕ} {v : ConditionTree} → IsCondition text ts at v to → IsCondition other us at v to
    condition-again (condition_of first rest d are) = condition_of first rest (conjunction-again d) (ors-again are)

  key-again : {at to : ℕ} {v : KeySyntaxTree} → IsKey text ts at v to → IsKey other us at v to
  key-again {at = at} (key_ranked greatest k d) = key_ranked greatest (kind at k) (expr-again text ts other us like d)
  key-again {at = at} (key_preferring k d) = key_preferring (kind at k) (condition-again d)

  keys-again : {at to : ℕ} {v : List KeySyntaxTree} → IsKeys text ts at v to → IsKeys other us at v to
  keys-again keys_none = keys_none
  keys-again {at = at} (keys_more k d more) = keys_more (kind at k) (key-again d) (keys-again more)

  order-again : {at to : ℕ} {v : OrderSyntaxTree} → IsOrder text ts at v to → IsOrder other us at v to
  order-again {at = at} (order_first k) = order_first (kind at k)
  order-again (order_keys d more) = order_keys (key-again d) (keys-again more)

  batch-again : {at to : ℕ} {v : Option BatchSyntaxTree} → IsBatch text ts at v to → IsBatch other us at v to
  batch-again batch_none = batch_none
  batch-again {at = at} (batch_some {mid = mid} {condition = v} w d l n) =
      subst (λ (limit : ℕ). IsBatch other us at (Some (record { at = at; condition = v; limit_at = mid + 1; limit = limit })) (mid + 2)) (like.value (mid + 1))
      (batch_some (kind at w) (condition-again d) (kind mid l) (kind (mid + 1) n))

  load-again : {at to : ℕ} {v : LoadSyntax} → IsLoad ts at v to → IsLoad us at v to
  load-again {at = at} (load_count k c) = load_count (kind at k) (kind (at + 1) c)
  load-again {at = at} (load_weight k w d) = load_weight (kind at k) (kind (at + 1) w) (range-again text ts other us like d)

  -- a name is spelled by the same bytes
  name-again : (at : ℕ) → kind_at ts at ≡ code terminal.Name → word_at other us at ≡ word_at text ts at
  name-again at k = like.word at (rw k refl)

  attr-again : {at to : ℕ} {v : AttrSyntax} → IsAttr text ts at v to → IsAttr other us at v to
  attr-again {at = at} {to = to} (attr_of of_cores {range = range} {start = start} k n i r s d) =
      subst (λ (name : List ℕ). IsAttr other us at (record { at = at; of_cores = of_cores; name = name; range = range; start = start }) to)
      (name-again (at + 1) n)
      (attr_of of_cores (kind at k) (kind (at + 1) n) (kind (at + 2) i) (range-again text ts other us like r) (kind _ s) (int-again text ts other us like d))

  attrs-again : {at to : ℕ} {v : List AttrSyntax} → IsAttrs text ts at v to → IsAttrs other us at v to
  attrs-again attrs_none = attrs_none
  attrs-again (attrs_more d rest) = attrs_more (attr-again d) (attrs-again rest)

  place-again : {at to : ℕ} {v : Option PlaceSyntax} → IsPlace text ts at v to → IsPlace other us at v to
  place-again place_none = place_none
  place-again {at = at} (place_here k h) = place_here (kind at k) (kind (at + 1) h)
  place-again {at = at} (place_least k m d) = place_least (kind at k) (kind (at + 1) m) (expr-again text ts other us like d)

  elect-again : {at to : ℕ} {v : Option ElectSyntaxTree} → IsElect text ts at v to → IsElect other us at v to
  elect-again elect_none = elect_none
  elect-again {at = at} (elect_some k d) = elect_some (kind at k) (order-again d)

  sets-again : {at to : ℕ} {v : List SetSyntax} → IsSets text ts at v to → IsSets other us at v to
  sets-again sets_none = sets_none
  sets-again {at = at} {to = to} (sets_more {v = v} {rest = rest} k d w g e c more) =
      subst (λ (word : List ℕ). IsSets other us at (record { at = at; word = word; value = v } ∷ rest) to) (like.word (at + 2) w)
      (sets_more (kind at k) (kind (at + 1) d) (word-again text ts other us like (at + 2) w) (kind (at + 3) g) (expr-again text ts other us like e) (kind _ c)
      (sets-again more))

  case-again : {at to : ℕ} {v : CaseSyntaxTree} → IsCase text ts at v to → IsCase other us at v to
  case-again {at = at} (case_of put k g c s p) = case_of put (kind at k) (condition-again g) (kind _ c) (sets-again s) (kind _ p)

  cases-again : {at to : ℕ} {v : List CaseSyntaxTree} → IsCases text ts at v to → IsCases other us at v to
  cases-again cases_none = cases_none
  cases-again (cases_more d rest) = cases_more (case-again d) (cases-again rest)

  handler-again : {at to : ℕ} {v : HandlerSyntaxTree} → IsHandler text ts at v to → IsHandler other us at v to
  handler-again {at = at} (handler_of event k e b d more f) =
      handler_of event (kind at k) (kind (at + 1) e) (kind (at + 2) b) (case-again d) (cases-again more) (kind _ f)

  handlers-again : {at to : ℕ} {v : List HandlerSyntaxTree} → IsHandlers text ts at v to → IsHandlers other us at v to
  handlers-again handlers_none = handlers_none
  handlers-again (handlers_more d rest) = handlers_more (handler-again d) (handlers-again rest)

  pub policy-again : {s : SyntaxTree} → IsPolicy text ts s → IsPolicy other us s
  policy-again
      (policy_of {at_filter = at_filter} {at_choose = at_choose} {at_steal = at_steal} {at_batch = at_batch} {load = load} {attrs = attrs} {place = place} {elect = elect}
      {handlers = handlers} {filter = filter} {choose = choose} {steal = steal} {batch = batch} k0 k1 dl da dp de dh kf df kc dc ks ds db) =
      subst (λ (name : List ℕ). IsPolicy other us (record {
        name = name;
        load = load;
        attrs = attrs;
        place = place;
        elect = elect;
        handlers = handlers;
        filter_at = at_filter;
        filter = filter;
        choose_at = at_choose;
        choose = choose;
        steal_at = at_steal;
        steal = steal;
        batch = batch;
      })) (name-again 1 k1)
      (policy_of (kind 0 k0) (kind 1 k1) (load-again dl) (attrs-again da) (place-again dp) (elect-again de) (handlers-again dh) (kind at_filter kf)
      (condition-again df) (kind at_choose kc) (order-again dc) (kind at_steal ks)
      (order-again ds)
      (subst (λ n. IsBatch other us at_batch batch n) (sym like.size) (batch-again db)))
