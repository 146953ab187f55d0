-- Faults in the order of a text.
use Rattle.std.specs.Prelude.{ℕ, ◌+◌, ◌-◌, ◌^◌, ◌≡◌, min, Bool, if◌then◌else◌, List, [], ◌∷◌, Option, Some, None}
use Rattle.policy_types.specs.declared.fault.TypeFault.{TypeFault}
use Rattle.policy_types.specs.declared.fault.TypeFault.TheVariants.{Unknown, Twice, NotLinear, NotHere, BadRange, Big}
use Rattle.policy_types.specs.declared.fault.TypeFault.TheVariants.{Memory}

-- the token that stands so many behind another. No text has a token past the last number of 32 bits
abbrev pub behind : ℕ → ℕ → ℕ
behind at more = min (at + more) (2 ^ 32 - 1)

-- the fault alone, where the rule is broken
abbrev pub where_broken : Bool → TypeFault → List TypeFault
where_broken broken fault = if broken then fault ∷ [] else []

abbrev pub first_of : List TypeFault → Option TypeFault
first_of [] = None
first_of (fault ∷ faults) = Some fault

-- the fault is the first of these, unless memory ran out
abbrev pub IsFirst : List TypeFault → TypeFault → Type 0
IsFirst faults (Unknown at) = first_of faults ≡ Some (Unknown at)
IsFirst faults (Twice at) = first_of faults ≡ Some (Twice at)
IsFirst faults (NotLinear at) = first_of faults ≡ Some (NotLinear at)
IsFirst faults (NotHere at) = first_of faults ≡ Some (NotHere at)
IsFirst faults (BadRange at) = first_of faults ≡ Some (BadRange at)
IsFirst faults (Big at) = first_of faults ≡ Some (Big at)
IsFirst faults Memory = Unit {0}
