-- The class of a policy: which law of waiting its text is found to meet.
use Rattle.std.specs.Prelude.{ℕ, suc, ℤ, ◌-ℤ◌, unsigned_abs, cond, List, [], ◌∷◌, Option, Some, None, slice_get}
use Rattle.policy_tree.specs.declared.typed.Attr.{Attr}
use Rattle.policy_tree.specs.Meaning.{KeyTree, Meaning}
use Rattle.waiting_laws.specs.Least.{ElectsLeast}
use Rattle.waiting_laws.specs.Slices.{KeepsInSlices}
use Rattle.waiting_laws.specs.Waiting.{QueuesAlways}
use Rattle.wait_classes.specs.declared.classes.WaitClass.{WaitClass}
use Rattle.wait_classes.specs.declared.classes.WaitClass.TheVariants as wait
use Rattle.wait_classes.specs.declared.rules.Rule.TheVariants as rule
use Rattle.wait_classes.specs.Electing.{elected_by}
use Rattle.wait_classes.specs.Rules.{obeys_after_units}

-- how often in a row a thread is kept at most where its unit lowers that attribute
abbrev pub keeps_of : Attr → ℕ
keeps_of d = unsigned_abs (d.hi -ℤ d.lo)

-- the slices by the first of these attributes that falls wherever a thread is kept. The number of the first of them is
-- given
abbrev pub slices_from : Meaning → ℕ → List Attr → WaitClass
slices_from p a [] = wait.Unknown
slices_from p a (d ∷ attrs) =
    cond (obeys_after_units (rule.Falls a d.lo) p) (wait.Slices a (keeps_of d)) (slices_from p (suc a) attrs)

-- where the first that waits is elected
abbrev pub class_in_order : Meaning → WaitClass
class_in_order p = cond (obeys_after_units rule.Queues p) wait.Queue (slices_from p 0 p.thread_attrs)

abbrev pub least_of : Meaning → ℕ → Option Attr → WaitClass
least_of p a None = wait.Unknown
least_of p a (Some d) = cond (obeys_after_units (rule.Rises a d.hi) p) (wait.Least a) wait.Unknown

-- where the least value of that attribute is elected, if of one
abbrev pub class_by_least : Meaning → Option ℕ → WaitClass
class_by_least p None = wait.Unknown
class_by_least p (Some a) = least_of p a (slice_get p.thread_attrs a)

-- the class by the keys by which the policy elects
abbrev pub class_by : Meaning → List KeyTree → WaitClass
class_by p [] = class_in_order p
class_by p (key ∷ keys) = class_by_least p (elected_by (key ∷ keys))

-- the class of a policy
abbrev pub class_of : Meaning → WaitClass
class_of p = class_by p p.elect

-- the law of the class applies to the policy
abbrev pub HasClass : Meaning → WaitClass → Type 0
HasClass p wait.Queue = QueuesAlways p
HasClass p (wait.Slices a keeps) = (low : ℤ) × KeepsInSlices p a low keeps
HasClass p (wait.Least a) = (low : ℤ) × (high : ℤ) × ElectsLeast p a low high
HasClass p wait.Unknown = Unit {0}
