-- The handlers that a syntax is, and the rules that they break, in the order of the text.
use Rattle.std.specs.Prelude.{ℕ, Bool, true, false, not, ◌||◌, if◌then◌else◌, List, [], ◌∷◌, ◌++◌, map, Option, Some}
use Rattle.std.specs.Prelude.{None, length}
use Rattle.policy_syntax.specs.declared.syntax.SetSyntax.{SetSyntax}
use Rattle.policy_tree.specs.declared.typed.Event.{Event}
use Rattle.policy_tree.specs.declared.typed.Event.TheVariants as event
use Rattle.policy_tree.specs.declared.typed.Put.{Put}
use Rattle.policy_tree.specs.declared.typed.Put.TheVariants as put
use Rattle.policy_tree.specs.Meaning.{CaseTree, HandlerTrees, SetTree}
use Rattle.policy_syntax.specs.SyntaxTrees.{CaseSyntaxTree, HandlerSyntaxTree}
use Rattle.policy_tree.specs.Trees.{always}
use Rattle.policy_types.specs.declared.fault.TypeFault.{TypeFault}
use Rattle.policy_types.specs.declared.fault.TypeFault.TheVariants.{NotHere, Twice, Unknown}
use Rattle.policy_types.specs.declared.scope.Scope.{Scope}
use Rattle.policy_types.specs.declared.sites.Feature.{Feature}
use Rattle.policy_types.specs.declared.sites.Feature.TheVariants.{Nr, Load, Weight, Fresh, Attribute}
use Rattle.policy_types.specs.declared.sites.Site.TheVariants.{Handler}
use Rattle.policy_types.specs.Conditions.{condition_faults, condition_meaning}
use Rattle.policy_types.specs.Expressions.{expr_faults, expr_meaning}
use Rattle.policy_types.specs.Faults.{behind, where_broken}
use Rattle.policy_types.specs.References.{allows_put, feature_among}

-- the number of the attribute that is set, where it is one: only attributes are set
abbrev pub target_of : Option Feature → Option ℕ
target_of None = None
target_of (Some Nr) = None
target_of (Some Load) = None
target_of (Some Weight) = None
target_of (Some Fresh) = None
target_of (Some (Attribute at)) = Some at

abbrev pub number_or : ℕ → Option ℕ → ℕ
number_or other None = other
number_or other (Some at) = at

-- an assignment. What is no attribute has the number behind the last
abbrev pub set_meaning : Scope → SetSyntax → SetTree
set_meaning scope s = record {
  attr = number_or (length scope.threads) (target_of (feature_among scope.threads s.word));
  expr = expr_meaning scope s.value;
}

-- the word that is set: it is unknown, or no attribute
abbrev pub target_faults : ℕ → Option Feature → List TypeFault
target_faults at None = Unknown at ∷ []
target_faults at (Some Nr) = NotHere at ∷ []
target_faults at (Some Load) = NotHere at ∷ []
target_faults at (Some Weight) = NotHere at ∷ []
target_faults at (Some Fresh) = NotHere at ∷ []
target_faults at (Some (Attribute number)) = []

abbrev pub set_faults : Scope → Event → SetSyntax → List TypeFault
set_faults scope e s =
    target_faults (behind s.at 2) (feature_among scope.threads s.word) ++ expr_faults scope (Handler e) s.value

abbrev pub sets_faults : Scope → Event → List SetSyntax → List TypeFault
sets_faults scope e [] = []
sets_faults scope e (s ∷ rest) = set_faults scope e s ++ sets_faults scope e rest

abbrev pub case_meaning : Scope → CaseSyntaxTree → CaseTree
case_meaning scope c = record {
  guard = condition_meaning scope c.guard;
  sets = map (set_meaning scope) c.sets;
  put = c.put;
}

abbrev pub case_faults : Scope → Event → CaseSyntaxTree → List TypeFault
case_faults scope e c =
    condition_faults scope (Handler e) c.guard
    ++ (sets_faults scope e c.sets ++ where_broken (not (allows_put e c.put)) (NotHere c.put_at))

abbrev pub cases_faults : Scope → Event → List CaseSyntaxTree → List TypeFault
cases_faults scope e [] = []
cases_faults scope e (c ∷ rest) = case_faults scope e c ++ cases_faults scope e rest

abbrev pub same_event : Event → Event → Bool
same_event event.Enqueue event.Enqueue = true
same_event event.Tick event.Tick = true
same_event event.Yield event.Yield = true
same_event event.Block event.Block = true
same_event e f = false

-- whether one of the events is that one
abbrev pub is_among : Event → List Event → Bool
is_among e [] = false
is_among e (f ∷ rest) = same_event e f || is_among e rest

-- handlers behind those of these events: an event has a handler already, or a case breaks a rule
abbrev pub handlers_faults : Scope → List Event → List HandlerSyntaxTree → List TypeFault
handlers_faults scope before [] = []
handlers_faults scope before (h ∷ rest) =
    where_broken (is_among h.event before) (Twice (behind h.at 1))
    ++ (cases_faults scope h.event h.cases ++ handlers_faults scope (h.event ∷ before) rest)

-- what comes of the event where nothing is said: the thread waits for its turn, goes on, or blocks
abbrev pub default_put : Event → Put
default_put event.Enqueue = put.Queue
default_put event.Tick = put.Keep
default_put event.Yield = put.Queue
default_put event.Block = put.Block

abbrev pub default_cases : Event → List CaseTree
default_cases e = record { guard = always; sets = []; put = default_put e } ∷ []

-- the cases of the first handler of the event, or those where nothing is said
abbrev pub cases_for : Scope → Event → List HandlerSyntaxTree → List CaseTree
cases_for scope e [] = default_cases e
cases_for scope e (h ∷ rest) =
    if same_event e h.event then map (case_meaning scope) h.cases else cases_for scope e rest

abbrev pub handlers_meaning : Scope → List HandlerSyntaxTree → HandlerTrees
handlers_meaning scope handlers = record {
  on_enqueue = cases_for scope event.Enqueue handlers;
  on_tick = cases_for scope event.Tick handlers;
  on_yield = cases_for scope event.Yield handlers;
  on_block = cases_for scope event.Block handlers;
}
