-- The faults of a level text stand in the order of its tokens.
use Rattle.std.proofs.Common.{◌≡◌, ◌≢◌, ◌⊎◌, ℕ, ◌+◌, ◌^◌, ◌<◌, ◌≤◌, List, [], ◌∷◌, length, arith, Result, Ok, Err, IfErr}
use Rattle.policy_syntax.specs.LevelTrees.{OneLevelSyntaxTree, LevelSyntaxTree}
use Rattle.policy_grammar.specs.declared.terminal.Lexeme.{Lexeme}
use Rattle.policy_grammar.specs.Levels.{IsLevel, level_of, IsLevelList, levels_none, levels_more, IsLevels, levels_of}
use Rattle.policy_grammar.proofs.CompleteLevels.{within-unit}
use Rattle.policy_types.specs.declared.fault.TypeFault.{TypeFault}
use Rattle.policy_types.specs.declared.fault.TypeFault.TheVariants.{Memory}
use Rattle.policy_types.specs.declared.scope.Scope.{Scope}
use Rattle.policy_types.specs.declared.sites.Site.TheVariants.{Filter, Within}
use Rattle.policy_types.specs.Conditions.{condition_faults}
use Rattle.policy_types.specs.Correct.{IsLeast, IsOfLevelGrammar}
use Rattle.policy_types.specs.Declarations.{attrs_faults, load_faults, nothing_declared, scope_after}
use Rattle.policy_types.specs.Faults.{IsFirst}
use Rattle.policy_types.specs.Levels.{level_faults, level_list_faults, level_text_faults}
use Rattle.policy_types.specs.Policies.{running_faults}
use Rattle.policy_types.proofs.Spans.{Spans, first_answer, first_least, spans_append, spans_none, spans_wider}
use Rattle.policy_types.proofs.WalkConditions.{guard_spans, test_spans}
use Rattle.policy_types.proofs.WalkPolicies.{attrs_spans, choices_spans, load_spans, running_spans}

module _ (text : List ℕ) (ts : List Lexeme) where
  level_spans : (scope : Scope) {at to : ℕ} {l : OneLevelSyntaxTree} → IsLevel text ts at l to → to ≤ 2 ^ 32 → Spans at to (level_faults scope l)
  level_spans scope {at = at} {to = to} (level_of {mid = mid} {within = w} {filter = f} k kw dw kf df) room =
      let filters = guard_spans text ts scope Filter df room in let end = filters.ordered in
      let near = test_spans text ts scope Within (within-unit dw) (omega arith) in let start = near.ordered in
      spans_append at mid to (condition_faults scope Within w) (condition_faults scope Filter f)
      (spans_wider at (at + 2) mid mid (condition_faults scope Within w) (omega arith) (omega arith) near)
      (spans_wider mid (mid + 1) to to (condition_faults scope Filter f) (omega arith) (omega arith) filters)

  levels_spans : (scope : Scope) {at to : ℕ} {ls : List OneLevelSyntaxTree} → IsLevelList text ts at ls to → to ≤ 2 ^ 32 → Spans at to (level_list_faults scope ls)
  levels_spans scope {at = at} levels_none room = spans_none at at (omega arith)
  levels_spans scope {at = at} {to = to} (levels_more {mid = mid} {l = l} {rest = rest} d more) room =
      let later = levels_spans scope more room in let end = later.ordered in
      spans_append at mid to (level_faults scope l) (level_list_faults scope rest) (level_spans scope d (omega arith)) later

  level_text_spans : {s : LevelSyntaxTree} → IsLevels text ts s → length ts < 2 ^ 32 → Spans 1 (length ts) (level_text_faults s)
  level_text_spans (levels_of {at_attrs = at_attrs} {at_place = at_place} {at_levels = at_levels} {at_choose = at_choose}
      {load = load} {attrs = attrs} {place = place} {elect = elect} {handlers = handlers} {first = first} {further = further}
      word name l attributes placed elected handled d more cw c sw st b) room =
      let choices = choices_spans text ts scope c st b (omega arith) in let s3 = choices.ordered in
      let lists = levels_spans scope (levels_more d more) (omega arith) in let s2 = lists.ordered in
      let runs = running_spans text ts scope placed elected handled (omega arith) in let s1 = runs.ordered in
      let declares = attrs_spans text ts nothing_declared attributes (omega arith) in let s0 = declares.ordered in
      let loads = load_spans text ts l in let start = loads.ordered in
      spans_wider 1 2 (length ts) (length ts) _ (omega arith) (omega arith)
      (spans_append 2 at_attrs (length ts) (load_faults load) _ loads
      (spans_append at_attrs at_place (length ts) (attrs_faults nothing_declared attrs) _ declares
      (spans_append at_place at_levels (length ts) (running_faults scope place elect handlers) _ runs
      (spans_append at_levels at_choose (length ts) (level_list_faults scope (first ∷ further)) _ lists choices))))
    where
      scope : Scope
      scope = scope_after nothing_declared attrs

-- the first fault has the least token
pub levels_answer_least : {X : Type 0} (r : Result X TypeFault) (s : LevelSyntaxTree) → IfErr r (IsFirst (level_text_faults s)) → IfErr r (λ fault. IsOfLevelGrammar s → IsLeast (level_text_faults s) fault)
levels_answer_least (Ok x) s first = tt
levels_answer_least (Err fault) s first = λ of. first_least 1 (length of.tokens) (level_text_faults s) fault (level_text_spans of.text of.tokens of.is.is of.few) first

-- a syntax of the grammar breaks no rule, or it has a first fault
pub levels_answer : (s : LevelSyntaxTree) → IsOfLevelGrammar s
    → (level_text_faults s ≡ []) ⊎ ((fault : TypeFault) × IsFirst (level_text_faults s) fault × IsLeast (level_text_faults s) fault × (fault ≢ Memory))
levels_answer s of = first_answer (length of.tokens) (level_text_faults s) (level_text_spans of.text of.tokens of.is.is of.few)
