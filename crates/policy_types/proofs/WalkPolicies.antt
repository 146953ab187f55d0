-- The faults of a policy stand in the order of its tokens.
use Rattle.std.proofs.Common.{◌≡◌, ◌≢◌, ◌⊎◌, ℕ, ◌+◌, ◌^◌, ◌<◌, ◌≤◌, not, List, [], ◌∷◌, ◌++◌, length, refl, arith, Option, Some, None, Result, Ok, Err, IfErr}
use Rattle.policy_syntax.specs.declared.syntax.AttrSyntax.{AttrSyntax}
use Rattle.policy_syntax.specs.declared.syntax.IntSyntax.{IntSyntax}
use Rattle.policy_syntax.specs.declared.syntax.LoadSyntax.{LoadSyntax}
use Rattle.policy_syntax.specs.declared.syntax.PlaceSyntax.{PlaceSyntax}
use Rattle.policy_syntax.specs.declared.syntax.RangeSyntax.{RangeSyntax}
use Rattle.policy_syntax.specs.declared.syntax.SetSyntax.{SetSyntax}
use Rattle.policy_tree.specs.declared.typed.Event.{Event}
use Rattle.policy_syntax.specs.SyntaxTrees.{ElectSyntaxTree, BatchSyntaxTree, CaseSyntaxTree, HandlerSyntaxTree, OrderSyntaxTree, SyntaxTree}
use Rattle.policy_grammar.specs.declared.terminal.Lexeme.{Lexeme}
use Rattle.policy_grammar.specs.Orders.{IsOrder}
use Rattle.policy_grammar.specs.Expressions.{IsInt, int_plain, int_signed, IsRange, range_of}
use Rattle.policy_grammar.specs.Policies.{IsLoad, load_count, load_weight, IsAttr, attr_of, IsAttrs, attrs_none, attrs_more, IsPlace, place_none, place_here, place_least, IsElect, elect_none, elect_some, IsBatch, batch_none, batch_some, IsSets, sets_none, sets_more, IsCase, case_of, IsCases, cases_none, cases_more, handler_of, IsHandlers, handlers_none, handlers_more, IsPolicy, policy_of}
use Rattle.policy_grammar.specs.Terminals.{value_at, word_at}
use Rattle.policy_types.specs.declared.fault.TypeFault.{TypeFault}
use Rattle.policy_types.specs.declared.fault.TypeFault.TheVariants.{BadRange, Memory, NotHere, Twice, Unknown}
use Rattle.policy_types.specs.declared.scope.Scope.{Scope}
use Rattle.policy_types.specs.declared.sites.Feature.{Feature}
use Rattle.policy_types.specs.declared.sites.Feature.TheVariants.{Nr, Load, Weight, Fresh, Attribute}
use Rattle.policy_types.specs.declared.sites.Site.TheVariants.{Choose, Elect, Filter, GoingOn, Handler, Placement, Steal}
use Rattle.policy_types.specs.Conditions.{condition_faults, elect_faults, order_faults}
use Rattle.policy_types.specs.Correct.{IsLeast, IsOfGrammar}
use Rattle.policy_types.specs.Declarations.{attr_faults, attrs_faults, declared_with, is_weight_range, load_faults, nothing_declared, of_kind, scope_after}
use Rattle.policy_types.specs.Expressions.{expr_faults}
use Rattle.policy_types.specs.Faults.{IsFirst, behind, where_broken}
use Rattle.policy_types.specs.Handlers.{case_faults, cases_faults, handlers_faults, is_among, sets_faults, target_faults}
use Rattle.policy_types.specs.Policies.{batch_faults, choices_faults, is_batch_limit, limit_faults, place_faults, policy_faults, running_faults}
use Rattle.policy_types.specs.References.{allows_put, feature_among}
use Rattle.policy_types.proofs.Spans.{Spans, behind_is, first_answer, first_least, spans_append, spans_none, spans_one, spans_where, spans_wider}
use Rattle.policy_types.proofs.WalkConditions.{guard_spans}
use Rattle.policy_types.proofs.WalkExpressions.{expr_spans}
use Rattle.policy_types.proofs.WalkOrders.{order_spans}

target_spans : (from to at : ℕ) (found : Option Feature) → from ≤ at → at < to → Spans from to (target_faults at found)
target_spans from to at None low high = spans_one from to (Unknown at) low high
target_spans from to at (Some Nr) low high = spans_one from to (NotHere at) low high
target_spans from to at (Some Load) low high = spans_one from to (NotHere at) low high
target_spans from to at (Some Weight) low high = spans_one from to (NotHere at) low high
target_spans from to at (Some Fresh) low high = spans_one from to (NotHere at) low high
target_spans from to at (Some (Attribute number)) low high = spans_none from to (omega arith)

module _ (text : List ℕ) (ts : List Lexeme) where
  int_less : {at to : ℕ} {i : IntSyntax} → IsInt ts at i to → at < to
  int_less (int_plain k) = omega arith
  int_less (int_signed k more) = omega arith

  range_less : {at to : ℕ} {r : RangeSyntax} → IsRange ts at r to → (r.at ≡ at) × (at < to)
  range_less (range_of low k high) = let a = int_less low in let b = int_less high in (refl, omega arith)

  pub load_spans : {at to : ℕ} {l : LoadSyntax} → IsLoad ts at l to → Spans at to (load_faults l)
  load_spans {at = at} (load_count k more) = spans_none at (at + 2) (omega arith)
  load_spans {at = at} {to = to} (load_weight {range = range} k more d) =
      let r = range_less d in let first = r.0 in let less = r.1 in
      spans_where at to (not (is_weight_range range)) (BadRange range.at) (omega arith) (omega arith)

  attr_spans : {at to : ℕ} {a : AttrSyntax} (scope : Scope) → IsAttr text ts at a to → to ≤ 2 ^ 32 → Spans at to (attr_faults (of_kind a.of_cores scope) a)
  attr_spans {at = at} {to = to} scope (attr_of {mid = mid} of_cores {range = range} {start = start} k name word d begin number) room =
      let r = range_less d in let first = r.0 in let less = r.1 in let last = int_less number in
      let here = behind_is at 1 (omega arith) in
      spans_append at (at + 3) to (where_broken _ (Twice (behind at 1))) (where_broken _ (BadRange range.at))
      (spans_where at (at + 3) _ (Twice (behind at 1)) (omega arith) (omega arith))
      (spans_where (at + 3) to _ (BadRange range.at) (omega arith) (omega arith))

  pub attrs_spans : {at to : ℕ} {attrs : List AttrSyntax} (scope : Scope) → IsAttrs text ts at attrs to → to ≤ 2 ^ 32 → Spans at to (attrs_faults scope attrs)
  attrs_spans {at = at} scope attrs_none room = spans_none at at (omega arith)
  attrs_spans {at = at} {to = to} scope (attrs_more {mid = mid} {a = a} {rest = rest} d more) room =
      let later = attrs_spans (declared_with scope a) more room in let end = later.ordered in
      spans_append at mid to (attr_faults (of_kind a.of_cores scope) a) (attrs_faults (declared_with scope a) rest) (attr_spans scope d (omega arith)) later

  module _ (scope : Scope) where
    pub place_spans : {at to : ℕ} {place : Option PlaceSyntax} → IsPlace text ts at place to → to ≤ 2 ^ 32 → Spans at to (place_faults scope place)
    place_spans {at = at} place_none room = spans_none at at (omega arith)
    place_spans {at = at} (place_here k more) room = spans_none at (at + 2) (omega arith)
    place_spans {at = at} {to = to} (place_least {v = v} k more d) room =
        spans_wider at (at + 2) to to (expr_faults scope Placement v) (omega arith) (omega arith) (expr_spans text ts scope Placement d room)

    pub elect_spans : {at to : ℕ} {elect : Option ElectSyntaxTree} → IsElect text ts at elect to → to ≤ 2 ^ 32 → Spans at to (elect_faults scope elect)
    elect_spans {at = at} elect_none room = spans_none at at (omega arith)
    elect_spans {at = at} {to = to} (elect_some {order = order} k d) room =
        spans_wider at (at + 1) to to (order_faults scope Elect order) (omega arith) (omega arith) (order_spans text ts scope Elect d room)

    pub batch_spans : {at to : ℕ} {batch : Option BatchSyntaxTree} → IsBatch text ts at batch to → to ≤ 2 ^ 32 → Spans at to (batch_faults scope batch)
    batch_spans {at = at} batch_none room = spans_none at at (omega arith)
    batch_spans {at = at} (batch_some {mid = mid} {condition = c} w d l n) room =
        let is = guard_spans text ts scope GoingOn d (omega arith) in let less = is.ordered in
        spans_append at mid (mid + 2) (condition_faults scope GoingOn c) (limit_faults (record { at = at; condition = c; limit_at = mid + 1; limit = value_at ts (mid + 1) }))
        (spans_wider at (at + 1) mid mid (condition_faults scope GoingOn c) (omega arith) (omega arith) is)
        (spans_where mid (mid + 2) (not (is_batch_limit (value_at ts (mid + 1)))) (BadRange (mid + 1)) (omega arith) (omega arith))

    sets_spans : {at to : ℕ} {sets : List SetSyntax} (e : Event) → IsSets text ts at sets to → to ≤ 2 ^ 32 → Spans at to (sets_faults scope e sets)
    sets_spans {at = at} e sets_none room = spans_none at at (omega arith)
    sets_spans {at = at} {to = to} e (sets_more {mid = mid} {v = v} {rest = rest} k dot word gets d comma more) room =
        let later = sets_spans e more room in let end = later.ordered in
        let value = expr_spans text ts scope (Handler e) d (omega arith) in let start = value.ordered in
        let here = behind_is at 2 (omega arith) in
        let target = feature_among scope.threads (word_at text ts (at + 2)) in
        let set = spans_append at (at + 4) mid (target_faults (behind at 2) target) (expr_faults scope (Handler e) v)
        (target_spans at (at + 4) (behind at 2) target (omega arith) (omega arith)) value in
        spans_append at mid to (target_faults (behind at 2) target ++ expr_faults scope (Handler e) v) (sets_faults scope e rest) set
        (spans_wider mid (mid + 1) to to (sets_faults scope e rest) (omega arith) (omega arith) later)

    case_spans : {at to : ℕ} {c : CaseSyntaxTree} (e : Event) → IsCase text ts at c to → to ≤ 2 ^ 32 → Spans at to (case_faults scope e c)
    case_spans {at = at} e (case_of {mid = mid} {last = last} {guard = guard} {sets = sets} put k d colon more word) room =
        let later = sets_spans e more (omega arith) in let end = later.ordered in
        let first = guard_spans text ts scope (Handler e) d (omega arith) in let start = first.ordered in
        spans_append at mid (last + 1) (condition_faults scope (Handler e) guard) (sets_faults scope e sets ++ where_broken (not (allows_put e put)) (NotHere last))
        (spans_wider at (at + 1) mid mid (condition_faults scope (Handler e) guard) (omega arith) (omega arith) first)
        (spans_append mid last (last + 1) (sets_faults scope e sets) (where_broken (not (allows_put e put)) (NotHere last))
        (spans_wider mid (mid + 1) last last (sets_faults scope e sets) (omega arith) (omega arith) later)
        (spans_where last (last + 1) (not (allows_put e put)) (NotHere last) (omega arith) (omega arith)))

    cases_spans : {at to : ℕ} {cs : List CaseSyntaxTree} (e : Event) → IsCases text ts at cs to → to ≤ 2 ^ 32 → Spans at to (cases_faults scope e cs)
    cases_spans {at = at} e cases_none room = spans_none at at (omega arith)
    cases_spans {at = at} {to = to} e (cases_more {mid = mid} {c = c} {rest = rest} d more) room =
        let later = cases_spans e more room in let end = later.ordered in
        spans_append at mid to (case_faults scope e c) (cases_faults scope e rest) (case_spans e d (omega arith)) later

    pub handlers_spans : {at to : ℕ} {hs : List HandlerSyntaxTree} (before : List Event) → IsHandlers text ts at hs to → to ≤ 2 ^ 32 → Spans at to (handlers_faults scope before hs)
    handlers_spans {at = at} before handlers_none room = spans_none at at (omega arith)
    handlers_spans {at = at} {to = to} before (handlers_more {mid = mid} {rest = rest} (handler_of {mid = inner} {last = last} event {c = c} {rest = cs} k word brace first others close) more) room =
        let later = handlers_spans (event ∷ before) more room in let end = later.ordered in
        let behind_first = cases_spans event others (omega arith) in let second = behind_first.ordered in
        let case = case_spans event first (omega arith) in let start = case.ordered in
        let here = behind_is at 1 (omega arith) in
        let cases = spans_append (at + 3) inner last (case_faults scope event c) (cases_faults scope event cs) case behind_first in
        spans_append at (at + 3) to (where_broken (is_among event before) (Twice (behind at 1))) (cases_faults scope event (c ∷ cs) ++ handlers_faults scope (event ∷ before) rest)
        (spans_where at (at + 3) (is_among event before) (Twice (behind at 1)) (omega arith) (omega arith))
        (spans_append (at + 3) (last + 1) to (cases_faults scope event (c ∷ cs)) (handlers_faults scope (event ∷ before) rest)
        (spans_wider (at + 3) (at + 3) last (last + 1) (cases_faults scope event (c ∷ cs)) (omega arith) (omega arith) cases) later)

    pub running_spans : {at_place at_elect at_handlers to : ℕ} {place : Option PlaceSyntax} {elect : Option ElectSyntaxTree} {handlers : List HandlerSyntaxTree} → IsPlace text ts at_place place at_elect →
        IsElect text ts at_elect elect at_handlers → IsHandlers text ts at_handlers handlers to → to ≤ 2 ^ 32 → Spans at_place to (running_faults scope place elect handlers)
    running_spans {at_place = at_place} {at_elect = at_elect} {at_handlers = at_handlers} {to = to} {place = place} {elect = elect} {handlers = handlers} placed elected handled room =
        let handles = handlers_spans [] handled room in let s2 = handles.ordered in
        let elects = elect_spans elected (omega arith) in let s1 = elects.ordered in
        let places = place_spans placed (omega arith) in
        spans_append at_place at_elect to (place_faults scope place) _ places
        (spans_append at_elect at_handlers to (elect_faults scope elect) (handlers_faults scope [] handlers) elects handles)

    pub choices_spans : {at_choose at_steal at_batch to : ℕ} {choose steal : OrderSyntaxTree} {batch : Option BatchSyntaxTree} → IsOrder text ts (at_choose + 1) choose at_steal →
        IsOrder text ts (at_steal + 1) steal at_batch → IsBatch text ts at_batch batch to → to ≤ 2 ^ 32 → Spans at_choose to (choices_faults scope choose steal batch)
    choices_spans {at_choose = at_choose} {at_steal = at_steal} {at_batch = at_batch} {to = to} {choose = choose} {steal = steal} {batch = batch} chosen stolen further room =
        let goes_on = batch_spans further room in let s2 = goes_on.ordered in
        let steals = order_spans text ts scope Steal stolen (omega arith) in let s1 = steals.ordered in
        let chooses = order_spans text ts scope Choose chosen (omega arith) in let s0 = chooses.ordered in
        spans_append at_choose at_steal to (order_faults scope Choose choose) _
        (spans_wider at_choose (at_choose + 1) at_steal at_steal (order_faults scope Choose choose) (omega arith) (omega arith) chooses)
        (spans_append at_steal at_batch to (order_faults scope Steal steal) (batch_faults scope batch)
        (spans_wider at_steal (at_steal + 1) at_batch at_batch (order_faults scope Steal steal) (omega arith) (omega arith) steals) goes_on)

  policy_spans : {s : SyntaxTree} → IsPolicy text ts s → length ts < 2 ^ 32 → Spans 1 (length ts) (policy_faults s)
  policy_spans (policy_of {at_attrs = at_attrs} {at_place = at_place} {at_filter = at_filter} {at_choose = at_choose}
      {load = load} {attrs = attrs} {place = place} {elect = elect} {handlers = handlers} {filter = filter}
      word name l attributes placed elected handled fw f cw c sw st b) room =
      let choices = choices_spans scope c st b (omega arith) in let s3 = choices.ordered in
      let filters = guard_spans text ts scope Filter f (omega arith) in let s2 = filters.ordered in
      let runs = running_spans scope placed elected handled (omega arith) in let s1 = runs.ordered in
      let declares = attrs_spans nothing_declared attributes (omega arith) in let s0 = declares.ordered in
      let loads = load_spans l in let start = loads.ordered in
      spans_wider 1 2 (length ts) (length ts) _ (omega arith) (omega arith)
      (spans_append 2 at_attrs (length ts) (load_faults load) _ loads
      (spans_append at_attrs at_place (length ts) (attrs_faults nothing_declared attrs) _ declares
      (spans_append at_place at_filter (length ts) (running_faults scope place elect handlers) _ runs
      (spans_append at_filter at_choose (length ts) (condition_faults scope Filter filter) _
      (spans_wider at_filter (at_filter + 1) at_choose at_choose (condition_faults scope Filter filter) (omega arith) (omega arith) filters)
      choices))))
    where
      scope : Scope
      scope = scope_after nothing_declared attrs

-- the first fault has the least token
pub answer_least : {X : Type 0} (r : Result X TypeFault) (s : SyntaxTree) → IfErr r (IsFirst (policy_faults s)) → IfErr r (λ fault. IsOfGrammar s → IsLeast (policy_faults s) fault)
answer_least (Ok x) s first = tt
answer_least (Err fault) s first = λ of. first_least 1 (length of.tokens) (policy_faults s) fault (policy_spans of.text of.tokens of.is.is of.few) first

-- a syntax of the grammar breaks no rule, or it has a first fault
pub policy_answer : (s : SyntaxTree) → IsOfGrammar s
    → (policy_faults s ≡ []) ⊎ ((fault : TypeFault) × IsFirst (policy_faults s) fault × IsLeast (policy_faults s) fault × (fault ≢ Memory))
policy_answer s of = first_answer (length of.tokens) (policy_faults s) (policy_spans of.text of.tokens of.is.is of.few)
