-- A level text that breaks no rule and keeps the limits is a resolved policy by levels.
use Rattle.std.proofs.Common.{◌≡◌, ◌∙◌, ℕ, ◌+◌, ◌≤◌, List, [], ◌∷◌, ◌++◌, All, map, length, refl, sym, subst, arith, Option, Some, None, Result, Ok, Err, IfOk}
use Rattle.std.proofs.lemmas.List.{length-map}
use Rattle.std.proofs.lemmas.List.Elements.{All-cons, All-nil}
use Rattle.policy_tree.specs.declared.typed.Load.{Load}
use Rattle.policy_tree.specs.Meaning.{Meaning}
use Rattle.policy_syntax.specs.SyntaxTrees.{ConditionTree}
use Rattle.policy_syntax.specs.LevelTrees.{OneLevelSyntaxTree, LevelSyntaxTree}
use Rattle.policy_grammar.specs.declared.terminal.Lexeme.{Lexeme}
use Rattle.policy_grammar.specs.declared.fault.ParseFault.{ParseFault}
use Rattle.policy_grammar.specs.declared.limits.TheConstants.{POLICY_LIMITS}
use Rattle.policy_grammar.specs.Breaks.{breaks_attrs, breaks_batch, breaks_choices, breaks_condition, breaks_elect, breaks_handlers, breaks_order, breaks_place, first_of, many}
use Rattle.policy_grammar.specs.LevelBreaks.{breaks_level, breaks_level_list}
use Rattle.policy_grammar.specs.Levels.{IsLevels, levels_of}
use Rattle.policy_eval.specs.Forms.{RefersTo}
use Rattle.level_policy.specs.declared.typed.Levels.{Levels}
use Rattle.level_policy.specs.Levels.{levels_meaning}
use Rattle.level_policy.specs.ResolvedLevels.{AreResolved, IsResolvedFilter, IsResolvedLevel, IsResolvedWithin, is_core_attribute}
use Rattle.policy_types.specs.declared.fault.TypeFault.{TypeFault}
use Rattle.policy_types.specs.declared.scope.Scope.{Scope}
use Rattle.policy_types.specs.declared.sites.Site.TheVariants.{Filter, Within}
use Rattle.policy_types.specs.Conditions.{condition_faults, condition_meaning}
use Rattle.policy_types.specs.Correct.{IsOfLevelGrammar}
use Rattle.policy_types.specs.Declarations.{attrs_faults, load_faults, load_meaning, nothing_declared}
use Rattle.policy_types.specs.Levels.{beside_levels, headed, level_faults, level_list_faults, level_meaning, level_scope, level_text_faults, level_text_meaning, level_text_meaning_in}
use Rattle.policy_types.specs.Policies.{choices_faults, running_faults}
use Rattle.policy_types.proofs.Allowed.{declared}
use Rattle.policy_types.proofs.Counted.{keeps_many, keeps_parts}
use Rattle.policy_types.proofs.Firsts.{none_parts}
use Rattle.policy_types.proofs.SoundConditions.{each_side, order_few, resolved_expr, resolved_few}
use Rattle.policy_types.proofs.SoundExpressions.{near_expr}
use Rattle.policy_types.proofs.SoundPolicies.{kept_resolved}

module _ (p : Meaning) (cores : length p.core_attrs ≤ 8) (threads : length p.thread_attrs ≤ 8) where
  within_resolved : (c : ConditionTree) → condition_faults (declared p) Within c ≡ [] → breaks_condition POLICY_LIMITS 1 0 0 c ≡ None → IsResolvedWithin p (condition_meaning (declared p) c)
  within_resolved c none keeps = record {
    few = resolved_few (declared p) 1 c keeps;
    sides = each_side (declared p) Within _ (resolved_expr p cores threads Within) 1 c none keeps;
    attributes = each_side (declared p) Within (RefersTo (is_core_attribute p)) (λ depth e empty kept. (near_expr p cores threads e empty).allowed) 1 c none keeps;
  }

  filter_resolved : (c : ConditionTree) → condition_faults (declared p) Filter c ≡ [] → breaks_condition POLICY_LIMITS 3 0 0 c ≡ None → IsResolvedFilter p (condition_meaning (declared p) c)
  filter_resolved c none keeps = record {
    few = resolved_few (declared p) 3 c keeps;
    sides = each_side (declared p) Filter _ (resolved_expr p cores threads Filter) 3 c none keeps;
  }

  level_resolved : (l : OneLevelSyntaxTree) → level_faults (declared p) l ≡ [] → breaks_level POLICY_LIMITS l ≡ None → IsResolvedLevel p (level_meaning (declared p) l)
  level_resolved l none keeps =
      let empty = none_parts (condition_faults (declared p) Within l.within) (condition_faults (declared p) Filter l.filter) none in
      let kept = keeps_parts (breaks_condition POLICY_LIMITS 1 0 0 l.within) (breaks_condition POLICY_LIMITS 3 0 0 l.filter) keeps in
      record { within = within_resolved l.within empty.0 kept.0; filter = filter_resolved l.filter empty.1 kept.1 }

  levels_resolved : (count : ℕ) (ls : List OneLevelSyntaxTree) → level_list_faults (declared p) ls ≡ [] → breaks_level_list POLICY_LIMITS count ls ≡ None → All (IsResolvedLevel p) (map (level_meaning (declared p)) ls)
  levels_resolved count [] none keeps = All-nil (IsResolvedLevel p)
  levels_resolved count (l ∷ rest) none keeps =
      let empty = none_parts (level_faults (declared p) l) (level_list_faults (declared p) rest) none in
      let first = keeps_parts (many 3 l.at count) (first_of (breaks_level POLICY_LIMITS l) (breaks_level_list POLICY_LIMITS (count + 1) rest)) keeps in
      let later = keeps_parts (breaks_level POLICY_LIMITS l) (breaks_level_list POLICY_LIMITS (count + 1) rest) first.1 in
      All-cons (IsResolvedLevel p) (level_meaning (declared p) l) (map (level_meaning (declared p)) rest)
      (level_resolved l empty.0 later.0) (levels_resolved (count + 1) rest empty.1 later.1)

levels_few : (count : ℕ) (ls : List OneLevelSyntaxTree) → count ≤ 3 → breaks_level_list POLICY_LIMITS count ls ≡ None → count + length ls ≤ 3
levels_few count [] few keeps = omega (arith, few)
levels_few count (l ∷ rest) few keeps =
    let first = keeps_parts (many 3 l.at count) (first_of (breaks_level POLICY_LIMITS l) (breaks_level_list POLICY_LIMITS (count + 1) rest)) keeps in
    let less = keeps_many 3 l.at count first.0 in
    let later = levels_few (count + 1) rest (omega (arith, less)) (keeps_parts (breaks_level POLICY_LIMITS l) (breaks_level_list POLICY_LIMITS (count + 1) rest) first.1).1 in
    omega (arith, later)

-- what is kept with the levels is kept without them
kept_beside : (a b c d levels rest : Option ParseFault) → first_of a (first_of b (first_of c (first_of d (first_of levels rest)))) ≡ None →
    (first_of a (first_of b (first_of c (first_of d rest))) ≡ None) × (levels ≡ None)
kept_beside None None None None None rest e = (e, refl)
kept_beside None None None None (Some f) rest e = absurd (cc)
kept_beside None None None (Some f) levels rest e = absurd (cc)
kept_beside None None (Some f) d levels rest e = absurd (cc)
kept_beside None (Some f) c d levels rest e = absurd (cc)
kept_beside (Some f) b c d levels rest e = absurd (cc)

none_beside : (a b c levels rest : List TypeFault) → a ++ (b ++ (c ++ (levels ++ rest))) ≡ [] → (a ++ (b ++ (c ++ rest)) ≡ []) × (levels ≡ [])
none_beside [] [] [] [] rest none = (none, refl)
none_beside [] [] [] (f ∷ fs) rest none = absurd (cc)
none_beside [] [] (f ∷ fs) levels rest none = absurd (cc)
none_beside [] (f ∷ fs) c levels rest none = absurd (cc)
none_beside (f ∷ fs) b c levels rest none = absurd (cc)

some_levels : {text : List ℕ} {ts : List Lexeme} {s : LevelSyntaxTree} → IsLevels text ts s → 1 ≤ length s.levels
some_levels (levels_of k0 k1 dl da dp de dh d more kc dc ks ds db) = omega arith

choose_kept : (a b c d levels choose rest : Option ParseFault) → first_of a (first_of b (first_of c (first_of d (first_of levels (first_of choose rest))))) ≡ None → choose ≡ None
choose_kept None None None None None None rest e = refl
choose_kept None None None None None (Some f) rest e = absurd (cc)
choose_kept None None None None (Some f) choose rest e = absurd (cc)
choose_kept None None None (Some f) levels choose rest e = absurd (cc)
choose_kept None None (Some f) d levels choose rest e = absurd (cc)
choose_kept None (Some f) c d levels choose rest e = absurd (cc)
choose_kept (Some f) b c d levels choose rest e = absurd (cc)

pub level_text_resolved : (s : LevelSyntaxTree) → IsOfLevelGrammar s → level_text_faults s ≡ [] → AreResolved (level_text_meaning s)
level_text_resolved s of none =
    let scope = level_scope s in let plain = beside_levels s in
    let behind = first_of (breaks_order POLICY_LIMITS 4 s.steal) (breaks_batch POLICY_LIMITS s.batch) in
    let kept = kept_beside (breaks_attrs POLICY_LIMITS 0 0 s.attrs) (breaks_place POLICY_LIMITS s.place) (breaks_elect POLICY_LIMITS s.elect) (breaks_handlers POLICY_LIMITS s.handlers)
    (breaks_level_list POLICY_LIMITS 0 s.levels) (breaks_choices POLICY_LIMITS 2 s.choose s.steal s.batch) of.is.keeps in
    let keys = choose_kept (breaks_attrs POLICY_LIMITS 0 0 s.attrs) (breaks_place POLICY_LIMITS s.place) (breaks_elect POLICY_LIMITS s.elect) (breaks_handlers POLICY_LIMITS s.handlers)
    (breaks_level_list POLICY_LIMITS 0 s.levels) (breaks_order POLICY_LIMITS 2 s.choose) behind of.is.keeps in
    let empty = none_beside (load_faults s.load) (attrs_faults nothing_declared s.attrs) (running_faults scope s.place s.elect s.handlers)
    (level_list_faults scope s.levels) (choices_faults scope s.choose s.steal s.batch) none in
    let resolved = kept_resolved 2 (omega arith) plain kept.0 empty.0 in
    let few = levels_few 0 s.levels (omega arith) kept.1 in
    let some = some_levels of.is.is in
    let same = length-map s.levels (level_meaning scope) in
    record {
      plain = resolved;
      unfiltered = refl;
      few_keys = order_few scope 2 s.choose keys;
      some = omega (arith, some, same);
      few = omega (arith, few, same);
      levels = levels_resolved (level_text_meaning s).plain resolved.core_attrs.few resolved.thread_attrs.few 0 s.levels empty.1 kept.1;
    }

-- the policy by what was read of its declarations
pub levels_as : (r : Result Levels TypeFault) (s : LevelSyntaxTree) (scope : Scope) (name : List ℕ) (load : Load) → scope ≡ level_scope s → name ≡ s.name → load ≡ load_meaning s.load →
    IfOk r (λ l. levels_meaning l ≡ headed name load (level_text_meaning_in scope s)) →
    IfOk r (λ l. levels_meaning l ≡ level_text_meaning s)
levels_as (Ok l) s scope name load declares names loads is = is ∙ (rw (declares, names, loads) refl)
levels_as (Err fault) s scope name load declares names loads is = tt

-- the answer is a resolved policy by levels
pub levels_answer_resolved : (r : Result Levels TypeFault) (s : LevelSyntaxTree) → IfOk r (λ l. levels_meaning l ≡ level_text_meaning s) → IfOk r (λ l. level_text_faults s ≡ []) →
    IfOk r (λ l. IsOfLevelGrammar s → AreResolved (levels_meaning l))
levels_answer_resolved (Ok l) s is none = λ of. subst AreResolved (sym is) (level_text_resolved s of none)
levels_answer_resolved (Err fault) s is none = tt
