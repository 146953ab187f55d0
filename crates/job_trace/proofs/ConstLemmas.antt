-- The constants of the cores lie in their declared ranges.
use Rattle.std.proofs.Common.{◌≡◌, ◌∙◌, ℕ, zero, suc, ◌+◌, ◌-◌, ◌<◌, Bool, true, false, cond, ◌||◌, List, [], ◌∷◌, ◌++◌, length, get_or, map, Option, Some, None, refl, ap, sym, subst, arith, ltb, if◌then◌else◌}
use Rattle.std.specs.Prelude.{ℤ, pos, int_lt, find, replicate, slice_set, ◌==◌}
use Rattle.std.specs.List.{AllByRecursion, AllZip, position_or_len}
use Rattle.std.proofs.lemmas.Int.{ints}
use Rattle.std.proofs.lemmas.List.{get_or_append_left, get_or-map, length-map}
use Rattle.sched_base.specs.declared.limits.TheConstants.{MAX_ATTRIBUTES}
use Rattle.policy_tree.specs.declared.typed.Attr.{Attr}
use Rattle.policy_tree.specs.declared.typed.Load.{Load}
use Rattle.policy_eval.specs.Ranges.{AreIn, IsIn, Range, attribute_ranges, declared_range, range}
use Rattle.policy_eval.specs.Resolved.{AreAttributes}
use Rattle.job_trace.specs.declared.plan_fault.PlanFault.TheVariants.{ConstRange}
use Rattle.job_trace.specs.declared.trace.NamedConst.{NamedConst}
use Rattle.job_trace.specs.declared.trace.TraceLine.{TraceLine}
use Rattle.job_trace.specs.declared.trace.TraceLine.TheVariants.{Cores, Rounds, Entries, Core, Thread, Order}
use Rattle.job_trace.specs.declared.trace.Numbered.{Numbered}
use Rattle.job_trace.specs.Plans.{const_fault, const_put, consts_fault, consts_of, consts_put, core_consts, first_fault, is_named, is_outside, line_fault, line_put, lines_put, starts, value_fault, value_put}
use Rattle.job_trace.proofs.OptionLemmas.{some-same}
use Rattle.job_trace.proofs.StartLemmas.{starts-fit}
use Rattle.job_trace.proofs.ThreadLemmas.{or-none}

-- the attribute that is found stands in its place
find-place : (p : Attr → Bool) (attrs : List Attr) (a d : Attr) → find p attrs ≡ Some a →
    (position_or_len p attrs < length attrs) × (get_or attrs (position_or_len p attrs) d ≡ a)
find-place p [] a d e = cc
find-place p (x ∷ xs) a d e = by (p x) refl e (find-place p xs a d)
  where
    by : (b : Bool) → p x ≡ b → cond b (Some x) (find p xs) ≡ Some a →
        (find p xs ≡ Some a → (position_or_len p xs < length xs) × (get_or xs (position_or_len p xs) d ≡ a)) →
        (position_or_len p (x ∷ xs) < length (x ∷ xs)) × (get_or (x ∷ xs) (position_or_len p (x ∷ xs)) d ≡ a)
    by true e f later = rw e (omega arith, some-same f)
    by false e f later =
        let more : 1 + position_or_len p xs ≡ suc (position_or_len p xs) = omega arith in
        let (inside, is) = later f in
        rw e (rw more (omega (arith, inside), is))

-- a value in its range, put in the place of another
zip-set : (rs : List Range) (xs : List ℤ) (at : ℕ) (v : ℤ) → AllZip IsIn rs xs → ((d : Range) → at < length rs → IsIn (get_or rs at d) v) →
    AllZip IsIn rs (slice_set xs at v)
zip-set [] [] at v all here = tt
zip-set [] (x ∷ xs) at v all here = absurd all
zip-set (r ∷ rs) [] at v all here = absurd all
zip-set (r ∷ rs) (x ∷ xs) zero v (first, all) here = (here r (omega arith), all)
zip-set (r ∷ rs) (x ∷ xs) (suc at) v (first, all) here = (first, zip-set rs xs at v all (λ d inside. here d (omega (arith, inside))))

inside-declared : (a : Attr) (v : ℤ) → is_outside a v ≡ false → IsIn (declared_range a) v
inside-declared a v e = by (int_lt v a.lo) refl (int_lt a.hi v) refl e
  where
    by : (l : Bool) → int_lt v a.lo ≡ l → (h : Bool) → int_lt a.hi v ≡ h → (l || h) ≡ false → IsIn (declared_range a) v
    by true l h f e = cc
    by false l true h e = cc
    by false l false h e = record { above = grind (arith, ints); below = grind (arith, ints) }

found-inside : (attrs : List Attr) (number : ℕ) (value : ℤ) (name : List ℕ) → value_fault number value (find (is_named name) attrs) ≡ None →
    (a : Attr) × (find (is_named name) attrs ≡ Some a) × (is_outside a value ≡ false)
found-inside attrs number value name e = by (find (is_named name) attrs) refl e
  where
    outside : (a : Attr) (b : Bool) → cond b (Some (ConstRange number)) None ≡ None → b ≡ false
    outside a true e = cc
    outside a false e = refl

    by : (o : Option Attr) → find (is_named name) attrs ≡ o → value_fault number value o ≡ None →
        (a : Attr) × (find (is_named name) attrs ≡ Some a) × (is_outside a value ≡ false)
    by None is e = cc
    by (Some a) is e = (a, is, outside a (is_outside a value) e)

-- a constant in its place keeps the ranges
put-fits : (attrs : List Attr) (number : ℕ) (given : NamedConst) (values : List ℤ) → const_fault attrs number given ≡ None →
    AreIn (attribute_ranges attrs) values → AreIn (attribute_ranges attrs) (const_put attrs values given)
put-fits attrs number given values none fit =
    let (a, found, inside) = found-inside attrs number given.value given.name none in
    let (within, is) = find-place (is_named given.name) attrs a a found in
    let at : ℕ = position_or_len (is_named given.name) attrs in
    by (ltb at (length attrs)) (zip-set (attribute_ranges attrs) values at given.value fit (λ d room.
    subst (λ (r : Range). IsIn r given.value) (sym (range-at a at within is d)) (inside-declared a given.value inside)))
  where
    range-at : (a : Attr) (at : ℕ) → at < length attrs → get_or attrs at a ≡ a → (d : Range) → get_or (attribute_ranges attrs) at d ≡ declared_range a
    range-at a at within is d =
        get_or_append_left (map declared_range attrs) (replicate (MAX_ATTRIBUTES - length attrs) (range (pos 0) (pos 0))) d at (omega (arith, within, length-map attrs declared_range))
        ∙ get_or-map declared_range attrs at a d within ∙ ap declared_range is

    by : (b : Bool) → AreIn (attribute_ranges attrs) (slice_set values (position_or_len (is_named given.name) attrs) given.value) →
        AreIn (attribute_ranges attrs) (value_put values given.value (cond b (Some (position_or_len (is_named given.name) attrs)) None))
    by true put = put
    by false put = fit

puts-fit : (attrs : List Attr) (number : ℕ) (given : List NamedConst) (values : List ℤ) → consts_fault attrs number given ≡ None →
    AreIn (attribute_ranges attrs) values → AreIn (attribute_ranges attrs) (consts_put attrs values given)
puts-fit attrs number [] values none fit = fit
puts-fit attrs number (first ∷ rest) values none fit =
    let parts = or-none (const_fault attrs number first) (consts_fault attrs number rest) none in
    puts-fit attrs number rest (const_put attrs values first) parts.1 (put-fits attrs number first values parts.0 fit)

line-fits : (l : Load) (attrs : List Attr) (core number : ℕ) (line : TraceLine) (values : List ℤ) → line_fault l attrs number line ≡ None →
    AreIn (attribute_ranges attrs) values → AreIn (attribute_ranges attrs) (line_put attrs core values line)
line-fits l attrs core number (Cores n) values none fit = fit
line-fits l attrs core number (Rounds n) values none fit = fit
line-fits l attrs core number (Entries n) values none fit = fit
line-fits l attrs core number (Thread t) values none fit = fit
line-fits l attrs core number (Order o) values none fit = fit
line-fits l attrs core number (Core given) values none fit = by (given.core == core)
  where
    by : (b : Bool) → AreIn (attribute_ranges attrs) (if b then consts_put attrs values given.consts else values)
    by true = puts-fit attrs number given.consts values none fit
    by false = fit

lines-fit : (l : Load) (attrs : List Attr) (core : ℕ) (trace : List Numbered) (values : List ℤ) → first_fault l attrs trace ≡ None →
    AreIn (attribute_ranges attrs) values → AreIn (attribute_ranges attrs) (lines_put attrs core values trace)
lines-fit l attrs core [] values none fit = fit
lines-fit l attrs core (n ∷ rest) values none fit =
    let parts = or-none (line_fault l attrs n.number n.line) (first_fault l attrs rest) none in
    lines-fit l attrs core rest (line_put attrs core values n.line) parts.1 (line-fits l attrs core n.number n.line values parts.0 fit)

all-push : {X : Type 0} (P : X → Type 0) (xs : List X) (x : X) → AllByRecursion P xs → P x → AllByRecursion P (xs ++ x ∷ [])
all-push P [] x all last = (last, tt)
all-push P (y ∷ ys) x (first, all) last = (first, all-push P ys x all last)

-- the constants of so many cores
pub consts-fit : (l : Load) (attrs : List Attr) (trace : List Numbered) (cores : ℕ) → AreAttributes attrs → first_fault l attrs trace ≡ None →
    AllByRecursion (AreIn (attribute_ranges attrs)) (consts_of attrs trace cores)
consts-fit l attrs trace zero are none = tt
consts-fit l attrs trace (suc core) are none =
    all-push (AreIn (attribute_ranges attrs)) (consts_of attrs trace core) (core_consts attrs trace core)
    (consts-fit l attrs trace core are none) (lines-fit l attrs core trace (starts attrs) none (starts-fit attrs are))
