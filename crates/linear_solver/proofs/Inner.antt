-- A box in a box of a system: it is that of a system, and its solutions are solutions.
use Rattle.std.proofs.Common.{◌≡◌, ℕ, ◌+◌, ◌<◌, List, [], ◌∷◌, ◌++◌, length, get_or, All, ℤ, pos, inl, inr, subst, sym, ◌∙◌, arith}
use Rattle.std.proofs.lemmas.Bool.{cases_lt}
use Rattle.std.proofs.lemmas.List.{get_or_append_left, get_or_push, get_or_default}
use Rattle.std.proofs.lemmas.Int.{ints}
use Rattle.linear_form.specs.declared.form.Row.{Row}
use Rattle.linear_form.specs.declared.form.Bound.{Bound}
use Rattle.linear_form.specs.Solution.{Solves}
use Rattle.linear_form.specs.System.{IsRow, IsSystem}
use Rattle.linear_solver.specs.Insides.{IsInside, IsPartOf}

module _ (whole part : List Bound) (rows : List Row) (inside : IsInside whole part) where
  pub inner_system : IsSystem (record { bounds = whole; rows = rows }) → IsSystem (record { bounds = part; rows = rows })
  inner_system system = record {
    few_variables = omega (arith, system.few_variables, inside.as_many);
    few_rows = system.few_rows;
    bounds_fit = λ k d lt.
        let is = inside.inside k d d (omega (arith, inside.as_many)) in
        let fits = system.bounds_fit k d (omega (arith, inside.as_many)) in
        record { ordered = is.ordered; low = omega (arith, ints, is.low, is.ordered, is.high, fits.low, fits.high); high = omega (arith, ints, is.low, is.ordered, is.high, fits.low, fits.high) };
    rows_fit = subst (λ (n : ℕ). All (IsRow n) rows) (sym inside.as_many) system.rows_fit;
  }

  pub inner_solves : (point : List ℤ) → Solves part rows point → Solves whole rows point
  inner_solves point solves = record {
    one_each = solves.one_each ∙ inside.as_many;
    within = λ k d lt.
        let is = inside.inside k d d lt in
        let own = solves.within k d (omega (arith, inside.as_many)) in
        (omega (arith, ints, is.low, own.0), omega (arith, ints, is.high, own.1));
    rows_hold = solves.rows_hold;
  }

-- one more range
pub inside_more : (whole part : List Bound) (range : Bound) (i : ℕ) → i < length whole → length part ≡ i → ((k : ℕ) (c d : Bound) → k < i → IsPartOf (get_or whole k c) (get_or part k d)) → IsPartOf (get_or whole i (record { lo = pos 0; hi = pos 0 })) range → (k : ℕ) (c d : Bound) → k < i + 1 → IsPartOf (get_or whole k c) (get_or (part ++ range ∷ []) k d)
inside_more whole part range i lt len before here k c d le = elim (cases_lt k i) [
  | inl below ↦ subst (IsPartOf (get_or whole k c)) (sym (get_or_append_left part (range ∷ []) d k (omega arith))) (before k c d below)
  | inr above ↦
      let same : k ≡ i = omega arith in
      let at = get_or_push part range d k (omega (arith, len, same)) in
      let own = subst (λ (r : Bound). IsPartOf r range) (get_or_default whole i _ c lt) here in
      subst (λ (j : ℕ). IsPartOf (get_or whole j c) (get_or (part ++ range ∷ []) k d)) (sym same) (subst (IsPartOf (get_or whole i c)) (sym at) own)
]
