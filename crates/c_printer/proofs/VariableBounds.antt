-- A variable in its range is no farther from 0 than its bound.
use Rattle.std.proofs.Common.{◌≡◌, ◌∙◌, ◌<◌, ◌≤◌, ◌-◌, ℕ, zero, suc, ℤ, pos, List, [], ◌∷◌, ◌++◌, length, map, get_or, replicate, slice_get, ◌⊎◌, inl, inr, unsigned_abs, refl, ap, subst, sym, arith}
use Rattle.std.proofs.lemmas.Bool.{cases_lt}
use Rattle.std.proofs.lemmas.Bool.Decides.{nat_tests}
use Rattle.std.proofs.lemmas.Int.{ints}
use Rattle.std.proofs.lemmas.List.{get_or_append_left, get_or-append_right, length-append, length-map, length-replicate}
use Rattle.policy_tree.specs.declared.typed.Attr.{Attr}
use Rattle.policy_tree.specs.Meaning.{Meaning}
use Rattle.policy_eval.specs.Ranges.{IsIn, Range, attribute_ranges, declared_range, range}
use Rattle.policy_eval.specs.Resolved.{IsResolved}
use Rattle.c_printer.specs.Widths.{attribute_bound, variable_bound}
use Rattle.c_printer.specs.WidthLaws.{range_at, variable_ranges}

-- 0 alone
abbrev none : Range
none = range (pos 0) (pos 0)

replicated : (n i : ℕ) → get_or (replicate n none) i none ≡ none
replicated zero i = refl
replicated (suc n) zero = refl
replicated (suc n) (suc i) = replicated n i

padded : (attrs : List Attr) (n i : ℕ) → get_or (map declared_range attrs ++ replicate n none) i none ≡ get_or (map declared_range attrs) i none
padded [] n i = replicated n i
padded (a ∷ attrs) n zero = refl
padded (a ∷ attrs) n (suc i) = padded attrs n i

-- the same of an attribute
attribute_near : (attrs : List Attr) (i : ℕ) (x : ℤ) → IsIn (get_or (map declared_range attrs) i none) x → unsigned_abs x ≤ attribute_bound (slice_get attrs i)
attribute_near [] i x is = let low = is.above in let high = is.below in omega (arith, ints)
attribute_near (a ∷ attrs) zero x is = let low = is.above in let high = is.below in omega (arith, ints)
attribute_near (a ∷ attrs) (suc i) x is = attribute_near attrs i x is

length-attribute_ranges : (attrs : List Attr) → length attrs ≤ 8 → length (attribute_ranges attrs) ≡ 8
length-attribute_ranges attrs few =
    let long = length-append (map declared_range attrs) (replicate (8 - length attrs) (range (pos 0) (pos 0))) in
    let each = length-map attrs declared_range in
    let rest = length-replicate (8 - length attrs) (range (pos 0) (pos 0)) in
    omega arith

behind_six : (v : ℕ) → 6 ≤ v → v ≡ suc (suc (suc (suc (suc (suc (v - 6))))))
behind_six v le = omega arith

module _ (p : Meaning) (is : IsResolved p) where
  core : List Range
  core = attribute_ranges p.core_attrs

  core_long : length core ≡ 8
  unfolding core
  core_long = length-attribute_ranges p.core_attrs is.core_attrs.few

  past_six : (v : ℕ) → 6 ≤ v → range_at (variable_ranges p) v ≡ get_or (core ++ core ++ attribute_ranges p.thread_attrs) (v - 6) none
  unfolding core
  past_six v le = ap (λ k. get_or (variable_ranges p) k none) (behind_six v le)

  self_range : (v : ℕ) → 6 ≤ v → v < 14 → range_at (variable_ranges p) v ≡ get_or (map declared_range p.core_attrs) (v - 6) none
  unfolding core
  self_range v le lt =
      let long = core_long in let both = length-append core core in
      past_six v le
      ∙ (get_or_append_left (core ++ core) (attribute_ranges p.thread_attrs) none (v - 6) (omega arith)
      ∙ (get_or_append_left core core none (v - 6) (omega arith) ∙ padded p.core_attrs (8 - length p.core_attrs) (v - 6)))

  other_range : (v : ℕ) → 14 ≤ v → v < 22 → range_at (variable_ranges p) v ≡ get_or (map declared_range p.core_attrs) (v - 14) none
  unfolding core
  other_range v le lt =
      let long = core_long in let both = length-append core core in
      past_six v (omega arith)
      ∙ (get_or_append_left (core ++ core) (attribute_ranges p.thread_attrs) none (v - 6) (omega arith)
      ∙ (get_or-append_right core core 8 (v - 6) none core_long (omega arith)
      ∙ (ap (λ k. get_or core k none) (omega arith) ∙ padded p.core_attrs (8 - length p.core_attrs) (v - 14))))

  thread_range : (v : ℕ) → 22 ≤ v → range_at (variable_ranges p) v ≡ get_or (map declared_range p.thread_attrs) (v - 22) none
  unfolding core
  thread_range v le =
      let long = core_long in let both = length-append core core in
      past_six v (omega arith)
      ∙ (get_or-append_right (core ++ core) (attribute_ranges p.thread_attrs) 16 (v - 6) none (omega arith) (omega arith)
      ∙ (ap (λ k. get_or (attribute_ranges p.thread_attrs) k none) (omega arith) ∙ padded p.thread_attrs (8 - length p.thread_attrs) (v - 22)))

  self_bound : (v : ℕ) → 6 ≤ v → v < 14 → variable_bound p v ≡ attribute_bound (slice_get p.core_attrs (v - 6))
  self_bound v le lt = grind (arith, nat_tests)

  other_bound : (v : ℕ) → 14 ≤ v → v < 22 → variable_bound p v ≡ attribute_bound (slice_get p.core_attrs (v - 14))
  other_bound v le lt = grind (arith, nat_tests)

  thread_bound : (v : ℕ) → 22 ≤ v → variable_bound p v ≡ attribute_bound (slice_get p.thread_attrs (v - 22))
  thread_bound v le = grind (arith, nat_tests)

  -- the range of a variable past the weight and whether it is fresh is that of an attribute
  attribute : (attrs : List Attr) (v i : ℕ) (x : ℤ) → range_at (variable_ranges p) v ≡ get_or (map declared_range attrs) i none
      → variable_bound p v ≡ attribute_bound (slice_get attrs i) → IsIn (range_at (variable_ranges p) v) x → unsigned_abs x ≤ variable_bound p v
  attribute attrs v i x ranges bounds fits =
      subst (λ k. unsigned_abs x ≤ k) (sym bounds) (attribute_near attrs i x (subst (λ r. IsIn r x) ranges fits))

  past : (v : ℕ) (x : ℤ) → 6 ≤ v → IsIn (range_at (variable_ranges p) v) x → unsigned_abs x ≤ variable_bound p v
  past v x le fits = first (cases_lt v 14) (cases_lt v 22)
    where
      first : ((v < 14) ⊎ (14 ≤ v)) → ((v < 22) ⊎ (22 ≤ v)) → unsigned_abs x ≤ variable_bound p v
      first (inl lt) other = attribute p.core_attrs v (v - 6) x (self_range v le lt) (self_bound v le lt) fits
      first (inr ge) (inl lt) = attribute p.core_attrs v (v - 14) x (other_range v ge lt) (other_bound v ge lt) fits
      first (inr ge) (inr more) = attribute p.thread_attrs v (v - 22) x (thread_range v more) (thread_bound v more) fits

  pub near : (v : ℕ) (x : ℤ) → IsIn (range_at (variable_ranges p) v) x → unsigned_abs x ≤ variable_bound p v
  near zero x fits = let low = fits.above in let high = fits.below in omega (arith, ints)
  near (suc zero) x fits = let low = fits.above in let high = fits.below in omega (arith, ints)
  near (suc (suc zero)) x fits = let low = fits.above in let high = fits.below in omega (arith, ints)
  near (suc (suc (suc zero))) x fits = let low = fits.above in let high = fits.below in omega (arith, ints)
  near (suc (suc (suc (suc zero)))) x fits = let low = fits.above in let high = fits.below in omega (arith, ints)
  near (suc (suc (suc (suc (suc zero))))) x fits = let low = fits.above in let high = fits.below in omega (arith, ints)
  near (suc (suc (suc (suc (suc (suc k)))))) x fits = past (suc (suc (suc (suc (suc (suc k)))))) x (omega arith) fits
