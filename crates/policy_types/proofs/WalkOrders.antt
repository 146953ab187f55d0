-- The faults of an order stand in the order of its tokens.
use Rattle.std.proofs.Common.{ℕ, ◌+◌, ◌^◌, ◌≤◌, List, arith}
use Rattle.policy_syntax.specs.SyntaxTrees.{KeySyntaxTree, OrderSyntaxTree}
use Rattle.policy_grammar.specs.declared.terminal.Lexeme.{Lexeme}
use Rattle.policy_grammar.specs.Orders.{IsKey, key_ranked, key_preferring, IsKeys, keys_none, keys_more, IsOrder, order_first, order_keys}
use Rattle.policy_types.specs.declared.scope.Scope.{Scope}
use Rattle.policy_types.specs.declared.sites.Site.{Site}
use Rattle.policy_types.specs.Conditions.{condition_faults, key_faults, keys_faults, order_faults}
use Rattle.policy_types.specs.Expressions.{expr_faults}
use Rattle.policy_types.proofs.Spans.{Spans, spans_append, spans_none, spans_wider}
use Rattle.policy_types.proofs.WalkConditions.{guard_spans}
use Rattle.policy_types.proofs.WalkExpressions.{expr_spans}

module _ (text : List ℕ) (ts : List Lexeme) (scope : Scope) (site : Site) where
  key_spans : {at to : ℕ} {k : KeySyntaxTree} → IsKey text ts at k to → to ≤ 2 ^ 32 → Spans at to (key_faults scope site k)
  key_spans {at = at} {to = to} (key_ranked greatest {v = v} k d) room =
      let is = expr_spans text ts scope site d room in let less = is.ordered in
      spans_wider at (at + 1) to to (expr_faults scope site v) (omega arith) (omega arith) is
  key_spans {at = at} {to = to} (key_preferring {v = v} k d) room =
      let is = guard_spans text ts scope site d room in let less = is.ordered in
      spans_wider at (at + 1) to to (condition_faults scope site v) (omega arith) (omega arith) is

  keys_spans : {at to : ℕ} {ks : List KeySyntaxTree} → IsKeys text ts at ks to → to ≤ 2 ^ 32 → Spans at to (keys_faults scope site ks)
  keys_spans {at = at} keys_none room = spans_none at at (omega arith)
  keys_spans {at = at} {to = to} (keys_more {mid = mid} {k = k} {rest = rest} comma d more) room =
      let later = keys_spans more room in let end = later.ordered in
      let key = key_spans d (omega arith) in let start = key.ordered in
      spans_append at mid to (key_faults scope site k) (keys_faults scope site rest)
      (spans_wider at (at + 1) mid mid (key_faults scope site k) (omega arith) (omega arith) key) later

  pub order_spans : {at to : ℕ} {order : OrderSyntaxTree} → IsOrder text ts at order to → to ≤ 2 ^ 32 → Spans at to (order_faults scope site order)
  order_spans {at = at} {to = to} (order_first k) room = spans_none at to (omega arith)
  order_spans {at = at} {to = to} (order_keys {mid = mid} {k = k} {rest = rest} d more) room =
      let later = keys_spans more room in let end = later.ordered in
      spans_append at mid to (key_faults scope site k) (keys_faults scope site rest) (key_spans d (omega arith)) later
