-- A list of entries is a legal history exactly where each of them is legal next.
use Rattle.std.proofs.Common.{◌≡◌, ℕ, zero, suc, ◌<◌, nat_lt, Bool, true, false, List, [], ◌∷◌, length, slice_get, Some, refl, subst, arith}
use mathlib.Core.Option.{some}
use lib.ListN.{get_elem?}
use Rattle.std.proofs.lemmas.Bool.Decides.{nat_tests}
use Rattle.std.proofs.lemmas.List.{take_all}
use Rattle.policy_tree.specs.Meaning.{Meaning}
use Rattle.round_model.specs.declared.entry.Entry.{Entry}
use Rattle.round_model.specs.declared.plan.Plan.{Plan}
use Rattle.round_model.specs.Legal.{Legal}
use Rattle.model_tests.specs.Steps.{IsLegalLength}

-- an item stands at each place within
entry_there : {X : Type 0} (xs : List X) (k : ℕ) → k < length xs → (x : X) × (slice_get xs k ≡ Some x) × (get_elem? xs k ≡ some x)
entry_there [] k low = absurd (omega arith)
entry_there (x ∷ xs) zero low = (x, refl, refl)
entry_there (x ∷ xs) (suc k) low = entry_there xs k (omega arith)

module _ (p : Meaning) (plan : Plan) (entries : List Entry) (n : ℕ) (legal : IsLegalLength p plan entries n) where
  pub all_legal : n ≡ length entries → Legal p plan entries
  all_legal all = subst (Legal p plan) (take_all n entries (omega arith)) legal.legal

  pub legal_all : Legal p plan entries → n ≡ length entries
  legal_all is = by (nat_lt n (length entries)) refl
    where
      by : (b : Bool) → nat_lt n (length entries) ≡ b → n ≡ length entries
      by true less = let at = entry_there entries n (grind (arith, nat_tests)) in absurd (legal.stops at.0 at.1 (is n at.0 at.2))
      by false most = let within = legal.within in grind (arith, nat_tests)
