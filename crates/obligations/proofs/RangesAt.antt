-- The range of an attribute's variable is the declared one.
use Rattle.std.proofs.Common.{◌≡◌, ℕ, zero, suc, ◌-◌, ◌<◌, ◌≤◌, List, [], ◌∷◌, ◌++◌, length, map, get_or, replicate, refl, sym, ap, ◌∙◌, arith}
use Rattle.std.proofs.lemmas.List.{get_or_append_left, get_or-append_right, length-append}
use Rattle.policy_tree.specs.declared.typed.Attr.{Attr}
use Rattle.policy_tree.specs.Meaning.{Meaning}
use Rattle.policy_eval.specs.Ranges.{Range, attribute_ranges, declared_range}
use Rattle.policy_eval.specs.Resolved.{IsResolved}
use Rattle.linear_form.specs.declared.form.Bound.{Bound}
use Rattle.obligations.specs.Marks.{declared_bound}
use Rattle.obligations.specs.Systems.{bound_of, variable_ranges}
use Rattle.obligations.proofs.Ranges.{length-attribute_ranges, none}

bound_from : Range → Bound
bound_from r = record { lo = r.low; hi = r.high }

replicated : (n i : ℕ) → get_or (replicate n none) i none ≡ none
replicated zero i = refl
replicated (suc n) zero = refl
replicated (suc n) (suc i) = replicated n i

padded : (attrs : List Attr) (n i : ℕ) → get_or (map declared_range attrs ++ replicate n none) i none ≡ get_or (map declared_range attrs) i none
padded [] n i = replicated n i
padded (a ∷ attrs) n zero = refl
padded (a ∷ attrs) n (suc i) = padded attrs n i

behind_six : (v : ℕ) → 6 ≤ v → v ≡ suc (suc (suc (suc (suc (suc (v - 6))))))
behind_six v le = omega arith

module _ (p : Meaning) (is : IsResolved p) where
  core : List Range
  core = attribute_ranges p.core_attrs

  core_long : length core ≡ 8
  unfolding core
  core_long = length-attribute_ranges p.core_attrs is.core_attrs.few

  past_six : (v : ℕ) → 6 ≤ v → get_or (variable_ranges p) v none ≡ get_or (core ++ core ++ attribute_ranges p.thread_attrs) (v - 6) none
  unfolding core
  past_six v le = ap (λ k. get_or (variable_ranges p) k none) (behind_six v le)

  pub self_bound : (v : ℕ) → 6 ≤ v → v < 14 → declared_bound p.core_attrs (v - 6) ≡ bound_of p v
  unfolding core bound_from
  self_bound v le lt =
      let long = core_long in let both = length-append core core in
      ap bound_from (sym (past_six v le
      ∙ (get_or_append_left (core ++ core) (attribute_ranges p.thread_attrs) none (v - 6) (omega arith)
      ∙ (get_or_append_left core core none (v - 6) (omega arith) ∙ padded p.core_attrs (8 - length p.core_attrs) (v - 6)))))

  pub victim_bound : (v : ℕ) → 14 ≤ v → v < 22 → declared_bound p.core_attrs (v - 14) ≡ bound_of p v
  unfolding core bound_from
  victim_bound v le lt =
      let long = core_long in let both = length-append core core in
      ap bound_from (sym (past_six v (omega arith)
      ∙ (get_or_append_left (core ++ core) (attribute_ranges p.thread_attrs) none (v - 6) (omega arith)
      ∙ (get_or-append_right core core 8 (v - 6) none core_long (omega arith)
      ∙ (ap (λ k. get_or core k none) (omega arith) ∙ padded p.core_attrs (8 - length p.core_attrs) (v - 14))))))

  pub thread_bound : (v : ℕ) → 22 ≤ v → declared_bound p.thread_attrs (v - 22) ≡ bound_of p v
  unfolding core bound_from
  thread_bound v le =
      let long = core_long in let both = length-append core core in
      ap bound_from (sym (past_six v (omega arith)
      ∙ (get_or-append_right (core ++ core) (attribute_ranges p.thread_attrs) 16 (v - 6) none (omega arith) (omega arith)
      ∙ (ap (λ k. get_or (attribute_ranges p.thread_attrs) k none) (omega arith) ∙ padded p.thread_attrs (8 - length p.thread_attrs) (v - 22)))))
