-- The first of faults in order.
use Rattle.std.proofs.Common.{◌≡◌, Bool, true, false, not, ◌+◌, ◌^◌, ◌<◌, ℕ, List, [], ◌∷◌, ◌++◌, Some, length, drop, get_or, drop-cons, add-one, refl, subst, arith}
use Rattle.policy_types.specs.declared.fault.TypeFault.{TypeFault}
use Rattle.policy_types.specs.declared.fault.TypeFault.TheVariants.{Unknown, Twice, NotLinear, NotHere, BadRange, Big, Memory}
use Rattle.policy_types.specs.Faults.{IsFirst, behind, first_of, where_broken}

front : (xs ys : List TypeFault) (fault : TypeFault) → first_of xs ≡ Some fault → first_of (xs ++ ys) ≡ Some fault
front [] ys fault is = absurd (cc)
front (x ∷ xs) ys fault is = is

-- what is first of the front is first
pub first_front : (xs ys : List TypeFault) (fault : TypeFault) → IsFirst xs fault → IsFirst (xs ++ ys) fault
first_front xs ys (Unknown at) is = front xs ys (Unknown at) is
first_front xs ys (Twice at) is = front xs ys (Twice at) is
first_front xs ys (NotLinear at) is = front xs ys (NotLinear at) is
first_front xs ys (NotHere at) is = front xs ys (NotHere at) is
first_front xs ys (BadRange at) is = front xs ys (BadRange at) is
first_front xs ys (Big at) is = front xs ys (Big at) is
first_front xs ys Memory is = tt

-- behind an empty front
pub first_behind : (xs ys : List TypeFault) (fault : TypeFault) → xs ≡ [] → IsFirst ys fault → IsFirst (xs ++ ys) fault
first_behind xs ys fault none is = rw none is

pub none_both : (xs ys : List TypeFault) → xs ≡ [] → ys ≡ [] → xs ++ ys ≡ []
none_both xs ys none also = rw none also

pub none_front : (xs ys : List TypeFault) → xs ≡ [] → xs ++ ys ≡ ys
none_front xs ys none = rw none refl

-- a token is itself, where no other stands between
pub behind_none : (at : ℕ) → at < 2 ^ 32 → behind at 0 ≡ at
behind_none at fits = omega arith

-- the item in that place, and those behind it
pub drop_item : {X : Type 0} (items : List X) (at : ℕ) (x : X) → at < length items → x ≡ get_or items at x → drop at items ≡ x ∷ drop (at + 1) items
drop_item items at x inside here = rw (add-one at, drop-cons items at x inside, ← here) refl

-- what is first of a part is first of the whole, where the parts before it break no rule
pub part_first : (part rest whole : List TypeFault) (fault : TypeFault) → part ++ rest ≡ whole → IsFirst part fault → IsFirst whole fault
part_first part rest whole fault same is = subst (λ xs. IsFirst xs fault) same (first_front part rest fault is)

-- what is broken nowhere
pub where_not : (b : Bool) (fault : TypeFault) → where_broken (not b) fault ≡ [] → b ≡ true
where_not true fault none = refl
where_not false fault none = absurd (cc)

pub none_parts : (xs ys : List TypeFault) → xs ++ ys ≡ [] → (xs ≡ []) × (ys ≡ [])
none_parts [] ys none = (refl, none)
none_parts (x ∷ xs) ys none = absurd (cc)
