-- Searches and folds over the numbers of the cores, as far as a loop has come.
use Rattle.std.proofs.Common.{◌≡◌, ℕ, ◌+◌, ◌<◌, ◌≤◌, ◌||◌, Bool, true, false, List, [], ◌∷◌, length, get_or, map, take, refl, sym, ap, ap₂, ◌∙◌, arith}
use Rattle.std.specs.Prelude.{fold, max}
use Rattle.std.specs.List.{list_any, range_with_len}
use Rattle.std.proofs.lemmas.List.{get_or-map, length-map, take_all}
use Rattle.std.proofs.lemmas.List.Folds.{list_any_at, list_any_more}
use Rattle.std.proofs.lemmas.List.FromFn.{fill_by_all, get_or-range_with_len, length-range_with_len}
use Rattle.round_model.specs.declared.plan.Plan.{Plan}
use Rattle.round_model.specs.declared.state.ModelCore.{ModelCore}
use Rattle.round_model.specs.Cores.{core_numbers, load_of}
use Rattle.sched_report.specs.Code.Openings.{core_at, no_core}

module _ (f : ℕ → Bool) (n : ℕ) where
  number_here : (i : ℕ) → i < n → get_or (range_with_len 0 n) i 0 ≡ i
  number_here i inside = omega (arith, get_or-range_with_len 0 n i 0 inside)

  -- one that passes is found
  pub scan_found : (i : ℕ) → i < n → f i ≡ true → list_any f (range_with_len 0 n) ≡ true
  scan_found i inside passes = list_any_at f (range_with_len 0 n) i 0 (omega (arith, length-range_with_len 0 n)) (ap f (number_here i inside) ∙ passes)

  -- one more that doesn't
  pub scan_more : (i : ℕ) → i < n → list_any f (take i (range_with_len 0 n)) ≡ false → f i ≡ false → list_any f (take (i + 1) (range_with_len 0 n)) ≡ false
  scan_more i inside none fails =
      list_any_more f (range_with_len 0 n) i 0 (omega (arith, length-range_with_len 0 n))
      ∙ ap₂ (λ (a b : Bool). a || b) none (ap f (number_here i inside) ∙ fails)

  -- none of them all
  pub scan_done : (i : ℕ) → n ≤ i → list_any f (take i (range_with_len 0 n)) ≡ false → list_any f (range_with_len 0 n) ≡ false
  scan_done i ended none = ap (list_any f) (sym (take_all i (range_with_len 0 n) (omega (arith, length-range_with_len 0 n)))) ∙ none

-- the greatest of what is made of each number
pub fold_mapped : (g : ℕ → ℕ) (a : ℕ) (xs : List ℕ) → fold (λ w x. max w (g x)) a xs ≡ fold max a (map g xs)
fold_mapped g a [] = refl
fold_mapped g a (x ∷ xs) = fold_mapped g (max a (g x)) xs

-- the loads of a list of cores are those of its numbers
pub loads_listed : (plan : Plan) (state : List ModelCore) → length state ≡ plan.cores → map load_of state ≡ map (λ c. load_of (core_at state c)) (core_numbers plan)
loads_listed plan state size =
    fill_by_all (λ c. load_of (core_at state c)) (map load_of state) plan.cores 0 (length-map state load_of ∙ size)
    (λ k inside. get_or-map load_of state k no_core 0 (omega arith))
