-- States as lists of cores.
use Rattle.std.proofs.Common.{◌≡◌, ◌≢◌, ℕ, zero, suc, ◌<◌, cond, eqb, true, false, List, [], ◌∷◌, length, get_or, set, slice_get, Some, Result, Ok, Err, OnOk, OnErr, get_or-set_same, get_or-set_other, refl, sym, ap, ◌∙◌, arith}
use Rattle.std.proofs.Math.ListN.{length-set}
use Rattle.std.proofs.lemmas.List.{set-get_or}
use Rattle.std.proofs.lemmas.Bool.Decides.{nat_tests}
use Rattle.std.proofs.lemmas.Option.{get_or_from_slice_get}
use Rattle.std.proofs.lemmas.List.FromFn.{fill_by_all, get_or-map-range_with_len, length-map-range_with_len}
use Rattle.round_model.specs.declared.state.ModelCore.{ModelCore}
use Rattle.round_model.specs.Cores.{Cores, listed}
use Rattle.round_model.specs.Updates.{updated}

-- the core in a place of the list is the core of that number
pub listed_at : (n : ℕ) (m : Cores) (state : List ModelCore) (c : ℕ) (core : ModelCore) → state ≡ listed n m → slice_get state c ≡ Some core → c < n → core ≡ m c
listed_at n m state c core is at inside =
    sym (get_or_from_slice_get state c core core at) ∙ (ap (λ (list : List ModelCore). get_or list c core) is ∙ get_or-map-range_with_len m 0 n c c core inside (omega arith))

-- the last of two changes of one place stays
pub set_twice : {X : Type 0} (xs : List X) (at : ℕ) (a b : X) → set (set xs at a) at b ≡ set xs at b
set_twice [] at a b = refl
set_twice (x ∷ xs) zero a b = refl
set_twice (x ∷ xs) (suc at) a b = ap (λ (rest : List _). x ∷ rest) (set_twice xs at a b)

-- what stands in a place may be put there
pub set_back : {X : Type 0} (xs : List X) (at : ℕ) (x : X) → slice_get xs at ≡ Some x → set xs at x ≡ xs
set_back xs at x is = ap (set xs at) (sym (get_or_from_slice_get xs at x x is)) ∙ set-get_or xs at x

-- a state with one core changed
pub listed_updated : (n : ℕ) (m : Cores) (state : List ModelCore) (at : ℕ) (x : ModelCore) → state ≡ listed n m → at < n → set state at x ≡ listed n (updated m at x)
listed_updated n m state at x is there =
    let count : length state ≡ n = ap length is ∙ length-map-range_with_len m 0 n in
    fill_by_all (updated m at x) (set state at x) n x (omega (arith, length-set state at x)) (λ k inside.
    elim (eqb at k) as (λ b. eqb at k ≡ b → get_or (set state at x) k x ≡ cond b x (m k)) [
      | true ↦ λ e. let same : k ≡ at = grind (arith, nat_tests) in ap (λ j. get_or (set state at x) j x) same ∙ get_or-set_same state at x x (omega arith)
      | false ↦ λ e. let other : k ≢ at = grind (arith, nat_tests) in
          get_or-set_other state at k x x other ∙ (ap (λ (list : List ModelCore). get_or list k x) is ∙ get_or-map-range_with_len m 0 n k k x inside (omega arith))
    ] refl)

-- states whose cores are the same
pub listed_same : (n : ℕ) (m k : Cores) → ((c : ℕ) → c < n → m c ≡ k c) → listed n m ≡ listed n k
listed_same n m k same =
    fill_by_all k (listed n m) n (m 0) (length-map-range_with_len m 0 n) (λ c inside. get_or-map-range_with_len m 0 n c c (m 0) inside (omega arith) ∙ same c inside)

-- a fact of an outcome that follows from another
pub OnOk-then : {T E : Type 0} {P Q : Type 0} (r : Result T E) → OnOk r P → (P → Q) → OnOk r Q
OnOk-then (Ok x) is then = then is
OnOk-then (Err e) is then = tt

pub OnErr-then : {T E : Type 0} {P Q : Type 0} (r : Result T E) → OnErr r P → (P → Q) → OnErr r Q
OnErr-then (Ok x) is then = tt
OnErr-then (Err e) is then = then is

pub listed_length : (n : ℕ) (m : Cores) → length (listed n m) ≡ n
listed_length n m = length-map-range_with_len m 0 n
