-- What may stand somewhere by the table of references is a variable that may stand there.
use Rattle.std.proofs.Common.{◌≡◌, ℕ, ◌+◌, ◌<◌, ◌≤◌, Bool, true, false, if◌then◌else◌, List, [], ◌∷◌, length, Option, Some, None, refl, arith, codes}
use Rattle.std.specs.Str.{bytes_eq}
use Rattle.std.proofs.lemmas.Bool.Decides.{nat_tests}
use Rattle.sched_base.specs.declared.limits.TheConstants.{MAX_VARIABLES}
use Rattle.policy_syntax.specs.declared.syntax.Owner.{Owner}
use Rattle.policy_syntax.specs.declared.syntax.Owner.TheVariants.{Itself, Victim, Core, Thread}
use Rattle.policy_tree.specs.declared.typed.Attr.{Attr}
use Rattle.policy_tree.specs.declared.typed.Event.TheVariants as event
use Rattle.policy_tree.specs.Meaning.{Meaning}
use Rattle.level_policy.specs.ResolvedLevels.{is_core_attribute}
use Rattle.policy_eval.specs.Sites as eval
use Rattle.policy_types.specs.declared.fault.TypeFault.TheVariants.{NotHere}
use Rattle.policy_types.specs.declared.scope.Scope.{Scope}
use Rattle.policy_types.proofs.Firsts.{where_not}
use Rattle.policy_types.specs.declared.sites.Feature.{Feature}
use Rattle.policy_types.specs.declared.sites.Feature.TheVariants.{Nr, Load, Weight, Fresh, Attribute}
use Rattle.policy_types.specs.declared.sites.Site.{Site}
use Rattle.policy_types.specs.declared.sites.Site.TheVariants.{Filter, Within, Choose, Placement, Elect, Steal, GoingOn, Handler}
use Rattle.policy_types.specs.Expressions.{feature_faults}
use Rattle.policy_types.specs.References.{allows, attribute_from, attribute_named, attributes_of, feature_among, feature_of, reference_of, variable_of, variable_or_none}

-- the same site in words of the evaluator
abbrev pub site_of : Site → eval.Site
site_of Filter = eval.filtering
site_of Within = eval.filtering
site_of Choose = eval.choosing
site_of Placement = eval.placing
site_of Elect = eval.electing
site_of Steal = eval.stealing
site_of GoingOn = eval.going_on
site_of (Handler e) = eval.handling e

-- an attribute is one of those that there are
abbrev pub IsInside : List Attr → Feature → Type 0
IsInside attrs Nr = Unit {0}
IsInside attrs Load = Unit {0}
IsInside attrs Weight = Unit {0}
IsInside attrs Fresh = Unit {0}
IsInside attrs (Attribute at) = at < length attrs

-- what was found is inside, where the first of the list has that number
abbrev pub IsFound : ℕ → List Attr → Option Feature → Type 0
IsFound at attrs None = Unit {0}
IsFound at attrs (Some Nr) = Unit {0}
IsFound at attrs (Some Load) = Unit {0}
IsFound at attrs (Some Weight) = Unit {0}
IsFound at attrs (Some Fresh) = Unit {0}
IsFound at attrs (Some (Attribute number)) = number < at + length attrs

attribute_inside : (at : ℕ) (attrs : List Attr) (word : List ℕ) → IsFound at attrs (attribute_named at attrs word)
attribute_inside at [] word = tt
attribute_inside at (a ∷ rest) word = either (bytes_eq a.name word) (attribute_inside (at + 1) rest word)
  where
    further : (found : Option Feature) → IsFound (at + 1) rest found → IsFound at (a ∷ rest) found
    further None is = tt
    further (Some Nr) is = tt
    further (Some Load) is = tt
    further (Some Weight) is = tt
    further (Some Fresh) is = tt
    further (Some (Attribute number)) is = omega arith

    either : (b : Bool) → IsFound (at + 1) rest (attribute_named (at + 1) rest word) → IsFound at (a ∷ rest) (if b then Some (Attribute at) else attribute_named (at + 1) rest word)
    either true is = omega arith
    either false is = further (attribute_named (at + 1) rest word) is

pub feature_inside : (attrs : List Attr) (word : List ℕ) → IsFound 0 attrs (feature_among attrs word)
feature_inside attrs word =
    one (bytes_eq word (codes "nr")) (bytes_eq word (codes "load")) (bytes_eq word (codes "weight")) (bytes_eq word (codes "fresh"))
  where
    one : (a b c d : Bool) → IsFound 0 attrs (if a then Some Nr else (if b then Some Load else (if c then Some Weight else (if d then Some Fresh else attribute_named 0 attrs word))))
    one true b c d = tt
    one false true c d = tt
    one false false true d = tt
    one false false false true = tt
    one false false false false = attribute_inside 0 attrs word

-- what a policy declares
abbrev pub declared : Meaning → Scope
declared p = record { cores = p.core_attrs; threads = p.thread_attrs }

module _ (p : Meaning) (cores : length p.core_attrs ≤ 8) (threads : length p.thread_attrs ≤ 8) where
  pub allowed : (site : Site) (owner : Owner) (feature : Feature) → IsInside (attributes_of (declared p) owner) feature → allows site owner feature ≡ true → eval.allows p (site_of site) (variable_of owner feature) ≡ true
  allowed Filter Itself Nr inside e = refl
  allowed Filter Itself Load inside e = refl
  allowed Filter Itself (Attribute at) inside e = grind (arith, nat_tests)
  allowed Filter Victim Nr inside e = refl
  allowed Filter Victim Load inside e = refl
  allowed Filter Victim (Attribute at) inside e = grind (arith, nat_tests)
  allowed Within Itself (Attribute at) inside e = grind (arith, nat_tests)
  allowed Within Victim (Attribute at) inside e = grind (arith, nat_tests)
  allowed Choose Itself Nr inside e = refl
  allowed Choose Itself Load inside e = refl
  allowed Choose Itself (Attribute at) inside e = grind (arith, nat_tests)
  allowed Choose Victim Nr inside e = refl
  allowed Choose Victim Load inside e = refl
  allowed Choose Victim (Attribute at) inside e = grind (arith, nat_tests)
  allowed Placement Core Nr inside e = refl
  allowed Placement Core Load inside e = refl
  allowed Placement Core (Attribute at) inside e = grind (arith, nat_tests)
  allowed Elect Thread Weight inside e = refl
  allowed Elect Thread (Attribute at) inside e = grind (arith, nat_tests)
  allowed Steal Thread Weight inside e = refl
  allowed Steal Thread (Attribute at) inside e = grind (arith, nat_tests)
  allowed GoingOn Itself Nr inside e = refl
  allowed GoingOn Itself Load inside e = refl
  allowed GoingOn Itself (Attribute at) inside e = grind (arith, nat_tests)
  allowed GoingOn Victim Nr inside e = refl
  allowed GoingOn Victim Load inside e = refl
  allowed GoingOn Victim (Attribute at) inside e = grind (arith, nat_tests)
  allowed GoingOn Thread Weight inside e = refl
  allowed GoingOn Thread (Attribute at) inside e = grind (arith, nat_tests)
  allowed (Handler event.Enqueue) Thread Weight inside e = refl
  allowed (Handler event.Enqueue) Thread Fresh inside e = refl
  allowed (Handler event.Enqueue) Thread (Attribute at) inside e = grind (arith, nat_tests)
  allowed (Handler event.Enqueue) Itself (Attribute at) inside e = grind (arith, nat_tests)
  allowed (Handler event.Tick) Thread Weight inside e = refl
  allowed (Handler event.Tick) Thread (Attribute at) inside e = grind (arith, nat_tests)
  allowed (Handler event.Tick) Itself (Attribute at) inside e = grind (arith, nat_tests)
  allowed (Handler event.Yield) Thread Weight inside e = refl
  allowed (Handler event.Yield) Thread (Attribute at) inside e = grind (arith, nat_tests)
  allowed (Handler event.Yield) Itself (Attribute at) inside e = grind (arith, nat_tests)
  allowed (Handler event.Block) Thread Weight inside e = refl
  allowed (Handler event.Block) Thread (Attribute at) inside e = grind (arith, nat_tests)
  allowed (Handler event.Block) Itself (Attribute at) inside e = grind (arith, nat_tests)
  allowed site owner feature inside e = absurd (cc)

  found_allowed : (site : Site) (at : ℕ) (owner : Owner) (found : Option Feature) → IsFound 0 (attributes_of (declared p) owner) found → feature_faults site at owner found ≡ [] → eval.allows p (site_of site) (variable_or_none owner found) ≡ true
  found_allowed site at owner None is none = absurd (cc)
  found_allowed site at owner (Some Nr) is none = allowed site owner Nr tt (where_not (allows site owner Nr) (NotHere at) none)
  found_allowed site at owner (Some Load) is none = allowed site owner Load tt (where_not (allows site owner Load) (NotHere at) none)
  found_allowed site at owner (Some Weight) is none = allowed site owner Weight tt (where_not (allows site owner Weight) (NotHere at) none)
  found_allowed site at owner (Some Fresh) is none = allowed site owner Fresh tt (where_not (allows site owner Fresh) (NotHere at) none)
  found_allowed site at owner (Some (Attribute number)) is none =
      allowed site owner (Attribute number) (omega arith) (where_not (allows site owner (Attribute number)) (NotHere at) none)

  -- a reference that breaks no rule
  pub reference_allowed : (site : Site) (at : ℕ) (owner : Owner) (word : List ℕ) → feature_faults site at owner (feature_of (declared p) owner word) ≡ [] → eval.allows p (site_of site) (reference_of (declared p) owner word) ≡ true
  reference_allowed site at owner word none =
      let attrs = attributes_of (declared p) owner in
      found_allowed site at owner (feature_among attrs word) (feature_inside attrs word) none

  -- a reference of a `within` is to an attribute of one of the two cores
  attribute_near : (owner : Owner) (feature : Feature) → IsInside (attributes_of (declared p) owner) feature → allows Within owner feature ≡ true → is_core_attribute p (variable_of owner feature) ≡ true
  attribute_near Itself (Attribute at) inside e = grind (arith, nat_tests)
  attribute_near Victim (Attribute at) inside e = grind (arith, nat_tests)
  attribute_near owner feature inside e = absurd (cc)

  found_near : (at : ℕ) (owner : Owner) (found : Option Feature) → IsFound 0 (attributes_of (declared p) owner) found → feature_faults Within at owner found ≡ [] → is_core_attribute p (variable_or_none owner found) ≡ true
  found_near at owner None is none = absurd (cc)
  found_near at owner (Some Nr) is none = attribute_near owner Nr tt (where_not (allows Within owner Nr) (NotHere at) none)
  found_near at owner (Some Load) is none = attribute_near owner Load tt (where_not (allows Within owner Load) (NotHere at) none)
  found_near at owner (Some Weight) is none = attribute_near owner Weight tt (where_not (allows Within owner Weight) (NotHere at) none)
  found_near at owner (Some Fresh) is none = attribute_near owner Fresh tt (where_not (allows Within owner Fresh) (NotHere at) none)
  found_near at owner (Some (Attribute number)) is none =
      attribute_near owner (Attribute number) (omega arith) (where_not (allows Within owner (Attribute number)) (NotHere at) none)

  pub reference_near : (at : ℕ) (owner : Owner) (word : List ℕ) → feature_faults Within at owner (feature_of (declared p) owner word) ≡ [] → is_core_attribute p (reference_of (declared p) owner word) ≡ true
  reference_near at owner word none =
      let attrs = attributes_of (declared p) owner in
      found_near at owner (feature_among attrs word) (feature_inside attrs word) none

attribute_known : (first at : ℕ) → first ≤ 22 → attribute_from first at ≤ MAX_VARIABLES
attribute_known first at low = grind (arith, nat_tests)

variable_known : (owner : Owner) (feature : Feature) → variable_of owner feature ≤ MAX_VARIABLES
variable_known Itself (Attribute at) = attribute_known 6 at (omega arith)
variable_known Victim (Attribute at) = attribute_known 14 at (omega arith)
variable_known Core (Attribute at) = attribute_known 14 at (omega arith)
variable_known Thread (Attribute at) = attribute_known 22 at (omega arith)
variable_known Itself Nr = omega arith
variable_known Victim Nr = omega arith
variable_known Core Nr = omega arith
variable_known Thread Nr = omega arith
variable_known Itself Load = omega arith
variable_known Victim Load = omega arith
variable_known Core Load = omega arith
variable_known Thread Load = omega arith
variable_known Itself Weight = omega arith
variable_known Victim Weight = omega arith
variable_known Core Weight = omega arith
variable_known Thread Weight = omega arith
variable_known Itself Fresh = omega arith
variable_known Victim Fresh = omega arith
variable_known Core Fresh = omega arith
variable_known Thread Fresh = omega arith

-- a reference is one of the variables, or what is unknown
pub reference_known : (scope : Scope) (owner : Owner) (word : List ℕ) → reference_of scope owner word ≤ MAX_VARIABLES
reference_known scope owner word = found_known (feature_of scope owner word)
  where
    found_known : (found : Option Feature) → variable_or_none owner found ≤ MAX_VARIABLES
    found_known None = omega arith
    found_known (Some feature) = variable_known owner feature
