-- Handlers as far as they are read.
use Rattle.std.proofs.Common.{◌≡◌, Bool, true, false, ◌||◌, if◌then◌else◌, List, [], ◌∷◌, map, Option, Some, None, is_some, refl, sym, ap, ◌∙◌}
use Rattle.policy_tree.specs.declared.typed.Event.{Event}
use Rattle.policy_tree.specs.declared.typed.Event.TheVariants as event
use Rattle.policy_tree.specs.Meaning.{CaseTree, HandlerTrees}
use Rattle.policy_syntax.specs.SyntaxTrees.{HandlerSyntaxTree}
use Rattle.policy_types.specs.declared.handlers.Given.{Given}
use Rattle.policy_types.specs.declared.scope.Scope.{Scope}
use Rattle.policy_types.specs.Given.{cases_or, given_cases, given_or_default}
use Rattle.policy_types.specs.Handlers.{case_meaning, cases_faults, cases_for, handlers_faults, handlers_meaning, is_among, same_event}

abbrev trees : List CaseTree → List CaseTree → List CaseTree → List CaseTree → HandlerTrees
trees a b c d = record { on_enqueue = a; on_tick = b; on_yield = c; on_block = d }

-- what was given, with the handlers that are left, is what all of them give, and those that are left break the same rules
pub record IsGivenTo (scope : Scope) (all rest : List HandlerSyntaxTree) (g : Given) : Type 0 where
  pub before : List Event
  pub known : (e : Event) → is_some (given_cases g e) ≡ is_among e before
  pub faults : handlers_faults scope before rest ≡ handlers_faults scope [] all
  pub meaning : (e : Event) → cases_or (cases_for scope e rest) (given_cases g e) ≡ cases_for scope e all

pub given_none : (scope : Scope) (all : List HandlerSyntaxTree) (g : Given) → ((e : Event) → given_cases g e ≡ None) → IsGivenTo scope all all g
given_none scope all g none = record {
  before = [];
  known = λ e. ap is_some (none e);
  faults = refl;
  meaning = λ e. ap (cases_or (cases_for scope e all)) (none e);
}

same_event-true : (e f : Event) → same_event e f ≡ true → e ≡ f
same_event-true event.Enqueue event.Enqueue same = refl
same_event-true event.Tick event.Tick same = refl
same_event-true event.Yield event.Yield same = refl
same_event-true event.Block event.Block same = refl
same_event-true e f same = absurd (cc)

none_of : {X : Type 0} (o : Option X) → is_some o ≡ false → o ≡ None
none_of None none = refl
none_of (Some x) none = absurd (cc)

-- a handler of an event that had none
module _ (scope : Scope) (all rest : List HandlerSyntaxTree) (h : HandlerSyntaxTree) (g : Given) (is : IsGivenTo scope all (h ∷ rest) g) (new : is_some (given_cases g h.event) ≡ false) where
  faults_on : cases_faults scope h.event h.cases ≡ [] → handlers_faults scope (h.event ∷ is.before) rest ≡ handlers_faults scope [] all
  faults_on sound =
      let step : handlers_faults scope is.before (h ∷ rest) ≡ handlers_faults scope (h.event ∷ is.before) rest = rw (← is.known h.event, new, sound) refl in
      sym step ∙ is.faults

  meaning_on : (e : Event) (b : Bool) → same_event e h.event ≡ b → cases_or (cases_for scope e rest) (if b then Some (map (case_meaning scope) h.cases) else given_cases g e) ≡ cases_for scope e all
  meaning_on e true same =
      let none : given_cases g e ≡ None = none_of (given_cases g e) (ap (λ f. is_some (given_cases g f)) (same_event-true e h.event same) ∙ new) in
      rw (same, none) at (is.meaning e)
  meaning_on e false same = rw same at (is.meaning e)

  either_known : (b : Bool) (o : Option (List CaseTree)) (cs : List CaseTree) → is_some (if b then Some cs else o) ≡ (b || is_some o)
  either_known true o cs = refl
  either_known false o cs = refl

  pub given_more : (more : Given) → cases_faults scope h.event h.cases ≡ [] → ((e : Event) → given_cases more e ≡ (if same_event e h.event then Some (map (case_meaning scope) h.cases) else given_cases g e)) → IsGivenTo scope all rest more
  given_more more sound with_h = record {
    before = h.event ∷ is.before;
    known = λ e. ap is_some (with_h e) ∙ (either_known (same_event e h.event) (given_cases g e) (map (case_meaning scope) h.cases) ∙ ap (λ b. same_event e h.event || b) (is.known e));
    faults = faults_on sound;
    meaning = λ e. ap (cases_or (cases_for scope e rest)) (with_h e) ∙ meaning_on e (same_event e h.event) refl;
  }

-- nothing is left
pub given_all : (scope : Scope) (all : List HandlerSyntaxTree) (g : Given) → IsGivenTo scope all [] g → given_or_default g ≡ handlers_meaning scope all
given_all scope all g is =
    four (is.meaning event.Enqueue) (is.meaning event.Tick) (is.meaning event.Yield) (is.meaning event.Block)
  where
    four : {a b c d a' b' c' d' : List CaseTree} → a ≡ a' → b ≡ b' → c ≡ c' → d ≡ d' →
        trees a b c d ≡ trees a' b' c' d'
    four p q r s = rw (p, q, r, s) refl
