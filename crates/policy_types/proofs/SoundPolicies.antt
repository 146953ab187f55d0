-- A syntax that breaks no rule and keeps the limits is a resolved policy.
use Rattle.std.proofs.Common.{arith, ◌≡◌, ◌∙◌, ℕ, List, ◌≤◌, [], ◌++◌, length, refl, sym, subst, Option, Some, None, Result, Ok, Err, IfOk}
use Rattle.std.proofs.lemmas.Bool.Decides.{nat_tests}
use Rattle.policy_syntax.specs.declared.syntax.PlaceSyntax.{PlaceSyntax}
use Rattle.policy_syntax.specs.declared.syntax.PlaceSyntax.TheVariants.{Here, Least}
use Rattle.policy_tree.specs.declared.typed.Event.{Event}
use Rattle.policy_tree.specs.declared.typed.Event.TheVariants as event
use Rattle.policy_tree.specs.declared.typed.Load.{Load}
use Rattle.policy_tree.specs.declared.typed.Policy.{Policy}
use Rattle.policy_tree.specs.Meaning.{Meaning, cases_on, meaning_of}
use Rattle.policy_tree.specs.Trees.{CondTree}
use Rattle.policy_syntax.specs.SyntaxTrees.{ElectSyntaxTree, BatchSyntaxTree, SyntaxTree}
use Rattle.policy_grammar.specs.declared.limits.TheConstants.{POLICY_LIMITS}
use Rattle.policy_grammar.specs.declared.fault.ParseFault.{ParseFault}
use Rattle.policy_grammar.specs.Breaks.{breaks_around, breaks_attrs, breaks_batch, breaks_choices, breaks_condition, breaks_elect, breaks_handlers, breaks_order, breaks_place, first_of}
use Rattle.policy_eval.specs.Resolved.{HasResolvedBatch, IsResolved, IsResolvedOrder, IsResolvedPlace}
use Rattle.policy_eval.specs.Sites.{electing}
use Rattle.policy_types.specs.declared.fault.TypeFault.{TypeFault}
use Rattle.policy_types.specs.declared.fault.TypeFault.TheVariants.{BadRange}
use Rattle.policy_types.specs.declared.parts.Choices.{Choices}
use Rattle.policy_types.specs.declared.parts.Running.{Running}
use Rattle.policy_types.specs.declared.scope.Scope.{Scope}
use Rattle.policy_types.specs.declared.sites.Site.TheVariants.{Choose, Elect, Filter, GoingOn, Placement, Steal}
use Rattle.policy_types.specs.Conditions.{condition_faults, condition_meaning, elect_faults, elect_meaning, order_faults}
use Rattle.policy_types.specs.Correct.{IsOfGrammar}
use Rattle.policy_types.specs.Declarations.{attrs_faults, load_faults, load_meaning, nothing_declared}
use Rattle.policy_types.specs.Handlers.{cases_for, handlers_faults}
use Rattle.policy_types.specs.Parts.{AreChoices, IsRunning, meaning_with}
use Rattle.policy_types.specs.Policies.{batch_faults, batch_meaning, choices_faults, faults_in, is_batch_limit, limit_faults, meaning_in, place_faults, place_meaning, policy_faults, policy_meaning, running_faults, scope_of}
use Rattle.policy_types.proofs.Allowed.{declared}
use Rattle.policy_types.proofs.Counted.{keeps_parts}
use Rattle.policy_types.proofs.Firsts.{none_parts, where_not}
use Rattle.policy_types.proofs.SoundConditions.{no_keys, resolved_condition, resolved_expr, resolved_order}
use Rattle.policy_types.proofs.SoundDeclarations.{attrs_right, load_right, nothing_right}
use Rattle.policy_types.proofs.SoundHandlers.{handler_resolved}

module _ (p : Meaning) (cores : length p.core_attrs ≤ 8) (threads : length p.thread_attrs ≤ 8) where
  place_resolved : (place : Option PlaceSyntax) → place_faults (declared p) place ≡ [] → breaks_place POLICY_LIMITS place ≡ None → IsResolvedPlace p (place_meaning (declared p) place)
  place_resolved None none keeps = tt
  place_resolved (Some (Here at)) none keeps = tt
  place_resolved (Some (Least at e)) none keeps = resolved_expr p cores threads Placement 0 e none keeps

  elect_resolved : (elect : Option ElectSyntaxTree) → elect_faults (declared p) elect ≡ [] → breaks_elect POLICY_LIMITS elect ≡ None → IsResolvedOrder p electing (elect_meaning (declared p) elect)
  elect_resolved None none keeps = no_keys p electing
  elect_resolved (Some e) none keeps = resolved_order p cores threads Elect 4 (omega arith) e.order none keeps

  batch_resolved : (batch : Option BatchSyntaxTree) → batch_faults (declared p) batch ≡ [] → breaks_batch POLICY_LIMITS batch ≡ None → HasResolvedBatch p (batch_meaning (declared p) batch)
  batch_resolved None none keeps = tt
  batch_resolved (Some b) none keeps =
      let both = none_parts (condition_faults (declared p) GoingOn b.condition) (limit_faults b) none in
      let limit = where_not (is_batch_limit b.limit) (BadRange b.limit_at) both.1 in
      record {
        condition = resolved_condition p cores threads GoingOn b.condition both.0 keeps;
        some = grind (arith, nat_tests);
        few = grind (arith, nat_tests);
      }

-- the limits, where `choose` has at most so many keys
abbrev pub breaks_with : ℕ → SyntaxTree → Option ParseFault
breaks_with most s =
    breaks_around POLICY_LIMITS s.attrs s.place s.elect s.handlers (breaks_condition POLICY_LIMITS 16 0 0 s.filter)
    (breaks_choices POLICY_LIMITS most s.choose s.steal s.batch)

pub kept_resolved : (most : ℕ) → most ≤ 4 → (s : SyntaxTree) → breaks_with most s ≡ None → policy_faults s ≡ [] → IsResolved (policy_meaning s)
kept_resolved most less s kept none =
    let p = policy_meaning s in let scope = scope_of s in
    let later = none_parts (load_faults s.load) (attrs_faults nothing_declared s.attrs ++ faults_in scope s) none in
    let behind = none_parts (attrs_faults nothing_declared s.attrs) (faults_in scope s) later.1 in
    let parts = none_parts (running_faults scope s.place s.elect s.handlers) (condition_faults scope Filter s.filter ++ choices_faults scope s.choose s.steal s.batch) behind.1 in
    let runs = none_parts (place_faults scope s.place) (elect_faults scope s.elect ++ handlers_faults scope [] s.handlers) parts.0 in
    let elects = none_parts (elect_faults scope s.elect) (handlers_faults scope [] s.handlers) runs.1 in
    let filters = none_parts (condition_faults scope Filter s.filter) (choices_faults scope s.choose s.steal s.batch) parts.1 in
    let chooses = none_parts (order_faults scope Choose s.choose) (order_faults scope Steal s.steal ++ batch_faults scope s.batch) filters.1 in
    let steals = none_parts (order_faults scope Steal s.steal) (batch_faults scope s.batch) chooses.1 in
    let filter = breaks_condition POLICY_LIMITS 16 0 0 s.filter in let choices = breaks_choices POLICY_LIMITS most s.choose s.steal s.batch in
    let kept1 = keeps_parts (breaks_attrs POLICY_LIMITS 0 0 s.attrs) (first_of (breaks_place POLICY_LIMITS s.place) (first_of (breaks_elect POLICY_LIMITS s.elect)
    (first_of (breaks_handlers POLICY_LIMITS s.handlers) (first_of filter choices)))) kept in
    let kept2 = keeps_parts (breaks_place POLICY_LIMITS s.place) (first_of (breaks_elect POLICY_LIMITS s.elect) (first_of (breaks_handlers POLICY_LIMITS s.handlers) (first_of filter choices))) kept1.1 in
    let kept3 = keeps_parts (breaks_elect POLICY_LIMITS s.elect) (first_of (breaks_handlers POLICY_LIMITS s.handlers) (first_of filter choices)) kept2.1 in
    let kept4 = keeps_parts (breaks_handlers POLICY_LIMITS s.handlers) (first_of filter choices) kept3.1 in
    let kept5 = keeps_parts filter choices kept4.1 in
    let kept6 = keeps_parts (breaks_order POLICY_LIMITS most s.choose) (first_of (breaks_order POLICY_LIMITS 4 s.steal) (breaks_batch POLICY_LIMITS s.batch)) kept5.1 in
    let kept7 = keeps_parts (breaks_order POLICY_LIMITS 4 s.steal) (breaks_batch POLICY_LIMITS s.batch) kept6.1 in
    let right = attrs_right nothing_declared s.attrs nothing_right behind.0 kept1.0 in
    let cores = right.cores.few in let threads = right.threads.few in
    record {
      load = load_right s.load later.0;
      core_attrs = right.cores;
      thread_attrs = right.threads;
      place = place_resolved p cores threads s.place runs.0 kept2.0;
      elect = elect_resolved p cores threads s.elect elects.0 kept3.0;
      handlers = λ e. handler_resolved p cores threads e s.handlers (same e) elects.1 kept4.0;
      filter = resolved_condition p cores threads Filter s.filter filters.0 kept5.0;
      choose = resolved_order p cores threads Choose most less s.choose chooses.0 kept6.0;
      steal = resolved_order p cores threads Steal 4 (omega arith) s.steal steals.0 kept7.0;
      batch = batch_resolved p cores threads s.batch steals.1 kept7.1;
    }
  where
    same : (e : Event) → cases_on (policy_meaning s).handlers e ≡ cases_for (scope_of s) e s.handlers
    same event.Enqueue = refl
    same event.Tick = refl
    same event.Yield = refl
    same event.Block = refl

pub policy_resolved : (s : SyntaxTree) → IsOfGrammar s → policy_faults s ≡ [] → IsResolved (policy_meaning s)
policy_resolved s of none = kept_resolved 4 (omega arith) s of.is.keeps none

-- the policy of its parts
pub meaning_of_parts : (scope : Scope) (name : List ℕ) (load : Load) (s : SyntaxTree) (r : Running) (filter : CondTree) (c : Choices) → IsRunning scope s.place s.elect s.handlers r →
    filter ≡ condition_meaning scope s.filter → AreChoices scope s.choose s.steal s.batch c → meaning_with scope name load r filter c ≡ record (meaning_in scope s) { name = name; load = load }
meaning_of_parts scope name load s r filter c runs filters chooses = rw (runs.places, runs.elects, runs.handles, filters, chooses.chooses, chooses.steals, chooses.goes_on) refl

-- the policy by what was read of its declarations
pub policy_as : (r : Result Policy TypeFault) (s : SyntaxTree) (scope : Scope) (name : List ℕ) (load : Load) → scope ≡ scope_of s → name ≡ s.name → load ≡ load_meaning s.load →
    IfOk r (λ p. meaning_of p ≡ record (meaning_in scope s) { name = name; load = load }) → IfOk r (λ p. meaning_of p ≡ policy_meaning s)
policy_as (Ok p) s scope name load declares names loads is = is ∙ (rw (declares, names, loads) refl)
policy_as (Err fault) s scope name load declares names loads is = tt

-- the answer is a resolved policy
pub answer_resolved : (r : Result Policy TypeFault) (s : SyntaxTree) → IfOk r (λ p. meaning_of p ≡ policy_meaning s) → IfOk r (λ p. policy_faults s ≡ []) → IfOk r (λ p. IsOfGrammar s → IsResolved (meaning_of p))
answer_resolved (Ok p) s is none = λ of. subst IsResolved (sym is) (policy_resolved s of none)
answer_resolved (Err fault) s is none = tt
