-- Handlers that break no rule and keep the limits are resolved ones.
use Rattle.std.proofs.Common.{◌≡◌, ℕ, ◌+◌, ◌<◌, ◌≤◌, Bool, true, false, not, List, [], ◌∷◌, ◌++◌, All, map, length, refl, sym, subst, arith, Option, Some, None, if◌then◌else◌}
use Rattle.std.proofs.lemmas.List.{length-map}
use Rattle.std.proofs.lemmas.List.Elements.{All-cons, All-nil}
use Rattle.policy_syntax.specs.declared.syntax.SetSyntax.{SetSyntax}
use Rattle.policy_tree.specs.declared.typed.Attr.{Attr}
use Rattle.policy_tree.specs.declared.typed.Event.{Event}
use Rattle.policy_tree.specs.declared.typed.Event.TheVariants as event
use Rattle.policy_tree.specs.declared.typed.Put.{Put}
use Rattle.policy_tree.specs.declared.typed.Put.TheVariants as put
use Rattle.policy_tree.specs.Meaning.{CaseTree, Meaning, cases_on}
use Rattle.policy_syntax.specs.SyntaxTrees.{CaseSyntaxTree, HandlerSyntaxTree}
use Rattle.policy_grammar.specs.declared.limits.TheConstants.{POLICY_LIMITS}
use Rattle.policy_grammar.specs.Breaks.{breaks_cases, breaks_condition, breaks_expr, breaks_handlers, breaks_sets, first_of, many}
use Rattle.policy_eval.specs.Resolved.{IsResolvedCase, IsResolvedHandler, IsResolvedSet}
use Rattle.policy_eval.specs.Sites.{AllowsPut}
use Rattle.policy_types.specs.declared.fault.TypeFault.TheVariants.{NotHere, Twice}
use Rattle.policy_types.specs.declared.sites.Feature.{Feature}
use Rattle.policy_types.specs.declared.sites.Feature.TheVariants.{Nr, Load, Weight, Fresh, Attribute}
use Rattle.policy_types.specs.declared.sites.Site.TheVariants.{Handler}
use Rattle.policy_types.specs.Conditions.{condition_faults}
use Rattle.policy_types.specs.Expressions.{expr_faults}
use Rattle.policy_types.specs.Faults.{behind, where_broken}
use Rattle.policy_types.specs.Handlers.{case_faults, case_meaning, cases_faults, cases_for, default_cases, default_put, handlers_faults, is_among, number_or, same_event, set_faults, set_meaning, sets_faults, target_faults, target_of}
use Rattle.policy_types.specs.References.{allows_put, feature_among}
use Rattle.policy_types.proofs.Allowed.{IsFound, declared, feature_inside}
use Rattle.policy_types.proofs.Counted.{keeps_many, keeps_parts}
use Rattle.policy_types.proofs.Firsts.{none_parts, where_not}
use Rattle.policy_types.proofs.SoundConditions.{resolved_condition, resolved_expr}

put_allowed : (e : Event) (to : Put) → allows_put e to ≡ true → AllowsPut e to
put_allowed event.Enqueue put.Queue allowed = tt
put_allowed event.Tick put.Queue allowed = tt
put_allowed event.Tick put.Keep allowed = tt
put_allowed event.Yield put.Queue allowed = tt
put_allowed event.Yield put.Keep allowed = tt
put_allowed event.Block put.Block allowed = tt
put_allowed e to allowed = absurd (cc)

default_allowed : (e : Event) → AllowsPut e (default_put e)
default_allowed event.Enqueue = tt
default_allowed event.Tick = tt
default_allowed event.Yield = tt
default_allowed event.Block = tt

target_inside : (at many : ℕ) (attrs : List Attr) (found : Option Feature) → length attrs ≡ many → IsFound 0 attrs found → target_faults at found ≡ [] → number_or many (target_of found) < many
target_inside at many attrs None same is none = absurd (cc)
target_inside at many attrs (Some Nr) same is none = absurd (cc)
target_inside at many attrs (Some Load) same is none = absurd (cc)
target_inside at many attrs (Some Weight) same is none = absurd (cc)
target_inside at many attrs (Some Fresh) same is none = absurd (cc)
target_inside at many attrs (Some (Attribute number)) same is none = omega arith

-- the cases of a handler
record AreResolved (p : Meaning) (e : Event) (cs : List CaseTree) : Type 0 where
  few : length cs ≤ 8
  each : All (IsResolvedCase p e) cs

same_event-true : (e f : Event) → same_event e f ≡ true → e ≡ f
same_event-true event.Enqueue event.Enqueue same = refl
same_event-true event.Tick event.Tick same = refl
same_event-true event.Yield event.Yield same = refl
same_event-true event.Block event.Block same = refl
same_event-true e f same = absurd (cc)

chosen_resolved : (p : Meaning) (e f : Event) (cs others : List CaseTree) (b : Bool) → same_event e f ≡ b → AreResolved p f cs → AreResolved p e others → AreResolved p e (if b then cs else others)
chosen_resolved p e f cs others true same here rest = subst (λ g. AreResolved p g cs) (sym (same_event-true e f same)) here
chosen_resolved p e f cs others false other here rest = rest

module _ (p : Meaning) (cores : length p.core_attrs ≤ 8) (threads : length p.thread_attrs ≤ 8) where
  module _ (e : Event) where
    resolved_set : (s : SetSyntax) → set_faults (declared p) e s ≡ [] → breaks_expr POLICY_LIMITS 0 s.value ≡ None → IsResolvedSet p e (set_meaning (declared p) s)
    resolved_set s none keeps =
        let empty = none_parts (target_faults (behind s.at 2) (feature_among p.thread_attrs s.word)) (expr_faults (declared p) (Handler e) s.value) none in
        record {
          declared = target_inside (behind s.at 2) (length p.thread_attrs) p.thread_attrs (feature_among p.thread_attrs s.word) refl (feature_inside p.thread_attrs s.word) empty.0;
          value = resolved_expr p cores threads (Handler e) 0 s.value empty.1 keeps;
        }

    sets_few : (count : ℕ) (sets : List SetSyntax) → count ≤ 8 → breaks_sets POLICY_LIMITS count sets ≡ None → count + length sets ≤ 8
    sets_few count [] few keeps = omega arith
    sets_few count (s ∷ rest) few keeps =
        let first = keeps_parts (many 8 s.at count) (first_of (breaks_expr POLICY_LIMITS 0 s.value) (breaks_sets POLICY_LIMITS (count + 1) rest)) keeps in
        let less = keeps_many 8 s.at count first.0 in
        let later = sets_few (count + 1) rest (omega arith) (keeps_parts (breaks_expr POLICY_LIMITS 0 s.value) (breaks_sets POLICY_LIMITS (count + 1) rest) first.1).1 in
        omega arith

    sets_each : (count : ℕ) (sets : List SetSyntax) → sets_faults (declared p) e sets ≡ [] → breaks_sets POLICY_LIMITS count sets ≡ None → All (IsResolvedSet p e) (map (set_meaning (declared p)) sets)
    sets_each count [] none keeps = All-nil (IsResolvedSet p e)
    sets_each count (s ∷ rest) none keeps =
        let empty = none_parts (set_faults (declared p) e s) (sets_faults (declared p) e rest) none in
        let first = keeps_parts (many 8 s.at count) (first_of (breaks_expr POLICY_LIMITS 0 s.value) (breaks_sets POLICY_LIMITS (count + 1) rest)) keeps in
        let later = keeps_parts (breaks_expr POLICY_LIMITS 0 s.value) (breaks_sets POLICY_LIMITS (count + 1) rest) first.1 in
        All-cons (IsResolvedSet p e) (set_meaning (declared p) s) (map (set_meaning (declared p)) rest)
        (resolved_set s empty.0 later.0) (sets_each (count + 1) rest empty.1 later.1)

    resolved_case : (c : CaseSyntaxTree) → case_faults (declared p) e c ≡ [] → breaks_condition POLICY_LIMITS 16 0 0 c.guard ≡ None → breaks_sets POLICY_LIMITS 0 c.sets ≡ None → IsResolvedCase p e (case_meaning (declared p) c)
    resolved_case c none guard sets =
        let first = none_parts (condition_faults (declared p) (Handler e) c.guard) (sets_faults (declared p) e c.sets ++ where_broken (not (allows_put e c.put)) (NotHere c.put_at)) none in
        let later = none_parts (sets_faults (declared p) e c.sets) (where_broken (not (allows_put e c.put)) (NotHere c.put_at)) first.1 in
        let few = sets_few 0 c.sets (omega arith) sets in let same = length-map c.sets (set_meaning (declared p)) in
        record {
          guard = resolved_condition p cores threads (Handler e) c.guard first.0 guard;
          few = omega arith;
          sets = sets_each 0 c.sets later.0 sets;
          put = put_allowed e c.put (where_not (allows_put e c.put) (NotHere c.put_at) later.1);
        }

    cases_few : (count : ℕ) (cases : List CaseSyntaxTree) → count ≤ 8 → breaks_cases POLICY_LIMITS count cases ≡ None → count + length cases ≤ 8
    cases_few count [] few keeps = omega arith
    cases_few count (c ∷ rest) few keeps =
        let first = keeps_parts (many 8 c.at count) (first_of (breaks_condition POLICY_LIMITS 16 0 0 c.guard) (first_of (breaks_sets POLICY_LIMITS 0 c.sets) (breaks_cases POLICY_LIMITS (count + 1) rest))) keeps in
        let less = keeps_many 8 c.at count first.0 in
        let second = keeps_parts (breaks_condition POLICY_LIMITS 16 0 0 c.guard) (first_of (breaks_sets POLICY_LIMITS 0 c.sets) (breaks_cases POLICY_LIMITS (count + 1) rest)) first.1 in
        let later = cases_few (count + 1) rest (omega arith) (keeps_parts (breaks_sets POLICY_LIMITS 0 c.sets) (breaks_cases POLICY_LIMITS (count + 1) rest) second.1).1 in
        omega arith

    cases_each : (count : ℕ) (cases : List CaseSyntaxTree) → cases_faults (declared p) e cases ≡ [] → breaks_cases POLICY_LIMITS count cases ≡ None → All (IsResolvedCase p e) (map (case_meaning (declared p)) cases)
    cases_each count [] none keeps = All-nil (IsResolvedCase p e)
    cases_each count (c ∷ rest) none keeps =
        let empty = none_parts (case_faults (declared p) e c) (cases_faults (declared p) e rest) none in
        let first = keeps_parts (many 8 c.at count) (first_of (breaks_condition POLICY_LIMITS 16 0 0 c.guard) (first_of (breaks_sets POLICY_LIMITS 0 c.sets) (breaks_cases POLICY_LIMITS (count + 1) rest))) keeps in
        let second = keeps_parts (breaks_condition POLICY_LIMITS 16 0 0 c.guard) (first_of (breaks_sets POLICY_LIMITS 0 c.sets) (breaks_cases POLICY_LIMITS (count + 1) rest)) first.1 in
        let later = keeps_parts (breaks_sets POLICY_LIMITS 0 c.sets) (breaks_cases POLICY_LIMITS (count + 1) rest) second.1 in
        All-cons (IsResolvedCase p e) (case_meaning (declared p) c) (map (case_meaning (declared p)) rest)
        (resolved_case c empty.0 second.0 later.0) (cases_each (count + 1) rest empty.1 later.1)

    default_resolved : AreResolved p e (default_cases e)
    default_resolved = record {
      few = omega arith;
      each = All-cons (IsResolvedCase p e) _ [] (record {
        guard = record { few = omega arith; sides = tt };
        few = omega arith;
        sets = All-nil (IsResolvedSet p e);
        put = default_allowed e;
      }) (All-nil (IsResolvedCase p e));
    }

  handlers_each : (e : Event) (before : List Event) (hs : List HandlerSyntaxTree) → handlers_faults (declared p) before hs ≡ [] → breaks_handlers POLICY_LIMITS hs ≡ None → AreResolved p e (cases_for (declared p) e hs)
  handlers_each e before [] none keeps = default_resolved e
  handlers_each e before (h ∷ rest) none keeps =
      let cases = map (case_meaning (declared p)) h.cases in
      let first = none_parts (where_broken (is_among h.event before) (Twice (behind h.at 1))) (cases_faults (declared p) h.event h.cases ++ handlers_faults (declared p) (h.event ∷ before) rest) none in
      let later = none_parts (cases_faults (declared p) h.event h.cases) (handlers_faults (declared p) (h.event ∷ before) rest) first.1 in
      let kept = keeps_parts (breaks_cases POLICY_LIMITS 0 h.cases) (breaks_handlers POLICY_LIMITS rest) keeps in
      let few = cases_few h.event 0 h.cases (omega arith) kept.0 in let same = length-map h.cases (case_meaning (declared p)) in
      let here : AreResolved p h.event cases = record { few = omega arith; each = cases_each h.event 0 h.cases later.0 kept.0 } in
      chosen_resolved p e h.event cases (cases_for (declared p) e rest) (same_event e h.event) refl here (handlers_each e (h.event ∷ before) rest later.1 kept.1)

  pub handler_resolved : (e : Event) (hs : List HandlerSyntaxTree) → cases_on p.handlers e ≡ cases_for (declared p) e hs → handlers_faults (declared p) [] hs ≡ [] → breaks_handlers POLICY_LIMITS hs ≡ None → IsResolvedHandler p e
  handler_resolved e hs same none keeps =
      let are = handlers_each e [] hs none keeps in
      record {
        few = subst (λ cs. length cs ≤ 8) (sym same) are.few;
        cases = subst (All (IsResolvedCase p e)) (sym same) are.each;
      }
