-- What the words behind a dot refer to, where they may stand, and the numbers of the variables.
use Rattle.std.specs.Prelude.{ℕ, ◌+◌, nat_lt, Bool, true, false, if◌then◌else◌, List, [], ◌∷◌, Option, Some, None}
use Rattle.std.specs.Prelude.{codes}
use Rattle.std.specs.Str.{bytes_eq}
use Rattle.sched_base.specs.declared.limits.TheConstants.{MAX_ATTRIBUTES, MAX_VARIABLES}
use Rattle.policy_syntax.specs.declared.syntax.Owner.{Owner}
use Rattle.policy_syntax.specs.declared.syntax.Owner.TheVariants.{Itself, Victim, Core, Thread}
use Rattle.policy_tree.specs.declared.typed.Attr.{Attr}
use Rattle.policy_tree.specs.declared.typed.Event.{Event}
use Rattle.policy_tree.specs.declared.typed.Event.TheVariants as event
use Rattle.policy_tree.specs.declared.typed.Put.{Put}
use Rattle.policy_tree.specs.declared.typed.Put.TheVariants as put
use Rattle.policy_tree.specs.declared.variables.TheConstants.{FRESH, OTHER_ATTRIBUTES, OTHER_LOAD, OTHER_NR}
use Rattle.policy_tree.specs.declared.variables.TheConstants.{SELF_ATTRIBUTES, SELF_LOAD, SELF_NR, THREAD_ATTRIBUTES}
use Rattle.policy_tree.specs.declared.variables.TheConstants.{WEIGHT}
use Rattle.policy_types.specs.declared.scope.Scope.{Scope}
use Rattle.policy_types.specs.declared.sites.Feature.{Feature}
use Rattle.policy_types.specs.declared.sites.Feature.TheVariants.{Nr, Load, Weight, Fresh, Attribute}
use Rattle.policy_types.specs.declared.sites.Site.{Site}
use Rattle.policy_types.specs.declared.sites.Site.TheVariants.{Filter, Within, Choose, Placement, Elect, Steal}
use Rattle.policy_types.specs.declared.sites.Site.TheVariants.{GoingOn, Handler}

-- the first attribute of that name, where the first of the list has that number
abbrev pub attribute_named : ℕ → List Attr → List ℕ → Option Feature
attribute_named at [] word = None
attribute_named at (a ∷ rest) word =
    if bytes_eq a.name word then Some (Attribute at) else attribute_named (at + 1) rest word

-- what a word says of an owner whose kind has these attributes; nothing where it is unknown
abbrev pub feature_among : List Attr → List ℕ → Option Feature
feature_among attrs word =
    if bytes_eq word (codes "nr") then Some Nr else
    (if bytes_eq word (codes "load") then Some Load else
    (if bytes_eq word (codes "weight") then Some Weight else
    (if bytes_eq word (codes "fresh") then Some Fresh else attribute_named 0 attrs word)))

-- the attributes that an owner of that kind has
abbrev pub attributes_of : Scope → Owner → List Attr
attributes_of scope Itself = scope.cores
attributes_of scope Victim = scope.cores
attributes_of scope Core = scope.cores
attributes_of scope Thread = scope.threads

abbrev pub feature_of : Scope → Owner → List ℕ → Option Feature
feature_of scope owner word = feature_among (attributes_of scope owner) word

-- what may be asked of a core by the phases of balancing and by placement
abbrev pub is_of_core : Feature → Bool
is_of_core Nr = true
is_of_core Load = true
is_of_core Weight = false
is_of_core Fresh = false
is_of_core (Attribute at) = true

-- what may be asked of a thread
abbrev pub is_of_thread : Feature → Bool
is_of_thread Nr = false
is_of_thread Load = false
is_of_thread Weight = true
is_of_thread Fresh = false
is_of_thread (Attribute at) = true

-- what may be asked of a thread that comes to a core
abbrev pub is_of_arriving_thread : Feature → Bool
is_of_arriving_thread Nr = false
is_of_arriving_thread Load = false
is_of_arriving_thread Weight = true
is_of_arriving_thread Fresh = true
is_of_arriving_thread (Attribute at) = true

-- what a handler may ask of the core that holds the thread, and a `within` of either core
abbrev pub is_attribute : Feature → Bool
is_attribute Nr = false
is_attribute Load = false
is_attribute Weight = false
is_attribute Fresh = false
is_attribute (Attribute at) = true

-- whether that may be referred to there: a row for each site and each owner that it knows
abbrev pub allows : Site → Owner → Feature → Bool
allows Filter Itself feature = is_of_core feature
allows Filter Victim feature = is_of_core feature
allows Within Itself feature = is_attribute feature
allows Within Victim feature = is_attribute feature
allows Choose Itself feature = is_of_core feature
allows Choose Victim feature = is_of_core feature
allows Placement Core feature = is_of_core feature
allows Elect Thread feature = is_of_thread feature
allows Steal Thread feature = is_of_thread feature
allows GoingOn Itself feature = is_of_core feature
allows GoingOn Victim feature = is_of_core feature
allows GoingOn Thread feature = is_of_thread feature
allows (Handler event.Enqueue) Thread feature = is_of_arriving_thread feature
allows (Handler event.Tick) Thread feature = is_of_thread feature
allows (Handler event.Yield) Thread feature = is_of_thread feature
allows (Handler event.Block) Thread feature = is_of_thread feature
allows (Handler e) Itself feature = is_attribute feature
allows site owner feature = false

-- whether a case of that event may put the thread there
abbrev pub allows_put : Event → Put → Bool
allows_put event.Enqueue put.Queue = true
allows_put event.Tick put.Queue = true
allows_put event.Tick put.Keep = true
allows_put event.Yield put.Queue = true
allows_put event.Yield put.Keep = true
allows_put event.Block put.Block = true
allows_put e place = false

-- the number of that attribute, where those of its kind have the numbers from the first on: there are so many of them
abbrev pub attribute_from : ℕ → ℕ → ℕ
attribute_from first at = if nat_lt at MAX_ATTRIBUTES then first + at else MAX_VARIABLES

-- the number of the variable. What is no variable has the number behind the last
abbrev pub variable_of : Owner → Feature → ℕ
variable_of Itself Nr = SELF_NR
variable_of Itself Load = SELF_LOAD
variable_of Victim Nr = OTHER_NR
variable_of Core Nr = OTHER_NR
variable_of Victim Load = OTHER_LOAD
variable_of Core Load = OTHER_LOAD
variable_of Thread Weight = WEIGHT
variable_of Thread Fresh = FRESH
variable_of Itself (Attribute at) = attribute_from SELF_ATTRIBUTES at
variable_of Victim (Attribute at) = attribute_from OTHER_ATTRIBUTES at
variable_of Core (Attribute at) = attribute_from OTHER_ATTRIBUTES at
variable_of Thread (Attribute at) = attribute_from THREAD_ATTRIBUTES at
variable_of owner feature = MAX_VARIABLES

-- the number of what may be unknown: something unknown is a variable of its own
abbrev pub variable_or_none : Owner → Option Feature → ℕ
variable_or_none owner None = MAX_VARIABLES
variable_or_none owner (Some feature) = variable_of owner feature

abbrev pub reference_of : Scope → Owner → List ℕ → ℕ
reference_of scope owner word = variable_or_none owner (feature_of scope owner word)
