-- A sum with a number out of range isn't left out.
use Rattle.std.proofs.Common.{◌≡◌, ℕ, ◌==◌, true, false, List, [], ◌∷◌, All, ℤ, pos, unsigned_abs, inl, inr, int_le, subst, arith}
use Rattle.std.proofs.lemmas.Bool.{cases_Bool, and_parts, and_right, eqb-true, cond-false}
use Rattle.std.proofs.lemmas.List.Elements.{All-nil, All-cons, All-head}
use Rattle.linear_solver.specs.declared.factors.TheConstants.{MAX_NUMBER}
use Rattle.linear_solver.specs.declared.derived.Derived.{Derived}
use Rattle.linear_solver.specs.Sums.{IsAtMost}
use Rattle.linear_solver.specs.Elimination.{IsSmall, has_no_term, kept}

-- zeros are in range
zeros_small : (most : ℕ) (coefs : List ℤ) → has_no_term coefs ≡ true → All (IsAtMost most) coefs
zeros_small most [] none = All-nil (IsAtMost most)
zeros_small most (c ∷ coefs) none =
    let parts = and_parts (unsigned_abs c == 0) (has_no_term coefs) none in
    let zero_is = eqb-true (unsigned_abs c) 0 parts.0 in
    All-cons (IsAtMost most) c coefs (omega arith) (zeros_small most coefs parts.1)

-- a sum that has a term is kept
pub kept_with_term : (row : Derived) → has_no_term row.coefs ≡ false → kept row ≡ row ∷ []
kept_with_term row term = cond-false _ [] (row ∷ []) (and_right (int_le (pos 0) row.bound) (has_no_term row.coefs) term)

pub large_is_kept : (row : Derived) → (All (IsAtMost MAX_NUMBER) row.coefs → ⊥) → All IsSmall (kept row) → ⊥
large_is_kept row large all = elim (cases_Bool (has_no_term row.coefs)) [
  | inl none ↦ large (zeros_small MAX_NUMBER row.coefs none)
  | inr term ↦ large (All-head IsSmall row [] (subst (All IsSmall) (kept_with_term row term) all)).coefs
]
