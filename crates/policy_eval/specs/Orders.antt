-- Which of two comes first by the keys of an order, and which of many is the best.
use Rattle.std.specs.Prelude.{Bool, true, false, cond, List, [], ◌∷◌, Option, Some, None}
use Rattle.std.specs.declared.cmp.Ordering.{Ordering}
use Rattle.std.specs.declared.cmp.Ordering.TheVariants.{Less, Equal, Greater}
use Rattle.std.specs.Ordering.{int_cmp, ordering_then, is_lt}
use Rattle.policy_tree.specs.Meaning.{KeyTree, greatest_first, least_first, preferring}
use Rattle.policy_eval.specs.Values.{Assignment, holds, value_of}

-- what is true comes before what is false
abbrev pub truth_order : Bool → Bool → Ordering
truth_order true true = Equal
truth_order true false = Less
truth_order false true = Greater
truth_order false false = Equal

-- how a and b stand by one key: `Less` where a comes first
abbrev pub key_order : KeyTree → Assignment → Assignment → Ordering
key_order (least_first e) a b = int_cmp (value_of a e) (value_of b e)
key_order (greatest_first e) a b = int_cmp (value_of b e) (value_of a e)
key_order (preferring c) a b = truth_order (holds a c) (holds b c)

-- how a and b stand by all keys: the first key that tells them apart decides
abbrev pub keys_order : List KeyTree → Assignment → Assignment → Ordering
keys_order [] a b = Equal
keys_order (key ∷ keys) a b = ordering_then (key_order key a b) (keys_order keys a b)

-- whether a comes strictly before b
abbrev pub precedes : List KeyTree → Assignment → Assignment → Bool
precedes keys a b = is_lt (keys_order keys a b)

-- the better of an item and the best of those after it: the later one only where it comes strictly before
abbrev pub better_of : {X : Type 0} → (X → X → Bool) → X → Option X → X
better_of before x None = x
better_of before x (Some later) = cond (before later x) later x

-- the best of a list, of equals the earliest. None exactly where the list is empty
abbrev pub best_of : {X : Type 0} → (X → X → Bool) → List X → Option X
best_of before [] = None
best_of before (x ∷ xs) = Some (better_of before x (best_of before xs))

-- the same with the others in their order
abbrev pub better_and_rest : {X : Type 0} → (X → X → Bool) → X → List X → Option (X × List X) → X × List X
better_and_rest before x xs None = (x, xs)
better_and_rest before x xs (Some later) = cond (before later.0 x) (later.0, x ∷ later.1) (x, xs)

-- the best of a list, and the others in their order
abbrev pub best_and_rest : {X : Type 0} → (X → X → Bool) → List X → Option (X × List X)
best_and_rest before [] = None
best_and_rest before (x ∷ xs) = Some (better_and_rest before x xs (best_and_rest before xs))
