-- The declared starts of the attributes: place by place, and in the declared ranges.
use Rattle.std.proofs.Common.{◌≡◌, ◌∙◌, ℕ, zero, suc, ◌-◌, ◌<◌, ◌≤◌, List, [], ◌∷◌, ◌++◌, length, get_or, map, sym, subst, arith}
use Rattle.std.specs.Prelude.{ℤ, pos, replicate}
use Rattle.std.specs.List.{AllByRecursion, AllZip}
use Rattle.std.proofs.lemmas.List.{get_or-take, get_or_append_left, get_or-append_right, get_or-map, get_or-replicate, length-map, length-append, length-replicate, length-take-le, take_all}
use Rattle.std.proofs.lemmas.List.Elements.{recursion_from_All}
use Rattle.sched_base.specs.declared.limits.TheConstants.{MAX_ATTRIBUTES}
use Rattle.policy_tree.specs.declared.typed.Attr.{Attr}
use Rattle.policy_eval.specs.Ranges.{AreIn, IsIn, attribute_ranges, declared_range, range}
use Rattle.policy_eval.specs.Resolved.{AreAttributes, IsAttribute}
use Rattle.round_model.specs.Programs.{start_of}
use Rattle.job_trace.specs.Plans.{starts}

-- as many places as are declared, and at least as many as there is room for
full : List Attr → List ℤ
full attrs = map start_of attrs ++ replicate (MAX_ATTRIBUTES - length attrs) (pos 0)

full-room : (attrs : List Attr) → MAX_ATTRIBUTES ≤ length (full attrs)
unfolding full
full-room attrs =
    let whole = length-append (map start_of attrs) (replicate (MAX_ATTRIBUTES - length attrs) (pos 0)) in
    omega (arith, whole, length-map attrs start_of, length-replicate (MAX_ATTRIBUTES - length attrs) (pos 0))

pub length-starts : (attrs : List Attr) → length (starts attrs) ≡ MAX_ATTRIBUTES
unfolding starts full
length-starts attrs = length-take-le MAX_ATTRIBUTES (full attrs) (full-room attrs)

pub starts-declared : (attrs : List Attr) (at : ℕ) (a : Attr) → at < MAX_ATTRIBUTES → at < length attrs →
    get_or (starts attrs) at (pos 0) ≡ (get_or attrs at a).start
unfolding starts full
starts-declared attrs at a room inside =
    get_or-take MAX_ATTRIBUTES (full attrs) at (pos 0) room
    ∙ get_or_append_left (map start_of attrs) (replicate (MAX_ATTRIBUTES - length attrs) (pos 0)) (pos 0) at (omega (arith, length-map attrs start_of))
    ∙ get_or-map start_of attrs at a (pos 0) inside

pub starts-past : (attrs : List Attr) (at : ℕ) → at < MAX_ATTRIBUTES → length attrs ≤ at → get_or (starts attrs) at (pos 0) ≡ pos 0
unfolding starts full
starts-past attrs at room past =
    get_or-take MAX_ATTRIBUTES (full attrs) at (pos 0) room
    ∙ get_or-append_right (map start_of attrs) (replicate (MAX_ATTRIBUTES - length attrs) (pos 0)) (length attrs) at (pos 0) (length-map attrs start_of) past
    ∙ get_or-replicate (MAX_ATTRIBUTES - length attrs) (at - length attrs) (pos 0) (pos 0) (omega arith)

start-in : (a : Attr) → IsAttribute a → IsIn (declared_range a) (start_of a)
start-in a is = record { above = is.from_low; below = is.to_high }

zeros-in : (n : ℕ) → AllZip IsIn (replicate n (range (pos 0) (pos 0))) (replicate n (pos 0))
zeros-in zero = tt
zeros-in (suc n) = (record { above = omega arith; below = omega arith }, zeros-in n)

starts-in_all : (attrs : List Attr) (n : ℕ) → AllByRecursion IsAttribute attrs →
    AllZip IsIn (map declared_range attrs ++ replicate n (range (pos 0) (pos 0))) (map start_of attrs ++ replicate n (pos 0))
starts-in_all [] n each = zeros-in n
starts-in_all (a ∷ attrs) n (first, each) = (start-in a first, starts-in_all attrs n each)

pub starts-fit : (attrs : List Attr) → AreAttributes attrs → AreIn (attribute_ranges attrs) (starts attrs)
unfolding starts
starts-fit attrs are =
    let few = are.few in
    let whole = length-append (map start_of attrs) (replicate (MAX_ATTRIBUTES - length attrs) (pos 0)) in
    subst (λ xs. AreIn (attribute_ranges attrs) xs)
    (sym (take_all MAX_ATTRIBUTES (map start_of attrs ++ replicate (MAX_ATTRIBUTES - length attrs) (pos 0))
    (omega (arith, whole, length-map attrs start_of, length-replicate (MAX_ATTRIBUTES - length attrs) (pos 0)))))
    (starts-in_all attrs (MAX_ATTRIBUTES - length attrs) (recursion_from_All IsAttribute attrs are.each))
