-- The first return of a history, entry by entry.
use Rattle.std.proofs.Common.{◌≡◌, ℕ, zero, suc, ◌+◌, ◌<◌, ◌≤◌, ◌⊎◌, inl, inr, List, [], ◌∷◌, ◌++◌, Option, Some, None, length, get_or, take, refl, sym, ap, subst, ◌∙◌, arith, add-one}
use Rattle.std.specs.Prelude.{slice_get}
use Rattle.std.proofs.lemmas.Bool.{cases_lt}
use mathlib.Core.Option.{some, some-injective}
use lib.ListN.{get_elem?}
use Rattle.policy_tree.specs.Meaning.{Meaning}
use Rattle.round_model.specs.declared.entry.Entry.{Entry}
use Rattle.round_model.specs.declared.entry.Entry.TheVariants as entry
use Rattle.round_model.specs.declared.plan.Plan.{Plan}
use Rattle.round_model.specs.declared.state.ModelCore.{ModelCore}
use Rattle.round_model.specs.After.{after}
use Rattle.round_model.specs.Cores.{Cores, listed}
use Rattle.round_judge.specs.declared.past.Past.{Past}
use Rattle.round_judge.specs.Past.{StandsFor}
use Rattle.round_laws.proofs.Positions.{entry_more}
use Rattle.round_laws.proofs.RoundNumbers.{entry_inside}
use Rattle.starving_plays.specs.declared.coming_back.Return.{Return}
use Rattle.starving_plays.specs.Code.{IsBackBy, IsFirstReturn, IsReturn, IsRoundBack}
use Rattle.starving_plays.specs.Starving.{IsThatCore}

-- the item in a place
pub elem_at : {X : Type 0} (xs : List X) (k : ℕ) (d : X) → k < length xs → get_elem? xs k ≡ some (get_or xs k d)
elem_at [] k d inside = absurd (omega arith)
elem_at (x ∷ xs) zero d inside = refl
elem_at (x ∷ xs) (suc k) d inside = elem_at xs k d (omega arith)

-- a past with an entry more
pub stands_more : (p : Meaning) (plan : Plan) (history : List Entry) (at : ℕ) (e : Entry) (past : Past) → get_elem? history at ≡ some e
    → StandsFor p plan past (take at history ++ e ∷ []) → StandsFor p plan past (take (at + 1) history)
stands_more p plan history at e past is stands =
    subst (λ n. StandsFor p plan past (take n history)) (sym (add-one at)) (subst (StandsFor p plan past) (sym (entry_more history at e is)) stands)

-- the one core of the list is the first of the state
first_of : (m : Cores) (n : ℕ) (state : List ModelCore) → n ≡ 1 → state ≡ listed n m → slice_get state 0 ≡ Some (m 0)
first_of m n state one is = ap (λ (cores : List ModelCore). slice_get cores 0) (is ∙ ap (λ k. listed k m) one)

-- the core that the state has behind a front
pub watched_core : (p : Meaning) (plan : Plan) (h : List Entry) (low : ℕ) (front : List Entry) (state : List ModelCore) (core : ModelCore) → plan.cores ≡ 1
    → state ≡ listed plan.cores (after p plan front) → slice_get state 0 ≡ Some core → front ≡ take low h → core ≡ after p plan (take low h) 0
watched_core p plan h low front state core one is found same =
    let first = first_of (after p plan front) plan.cores state one is in
    let here : core ≡ after p plan front 0 = cc in here ∙ ap (λ (f : List Entry). after p plan f 0) same

-- what is told of the first return, of the same core
pub returned_first : (p : Meaning) (plan : Plan) (h : List Entry) {core that : ModelCore} {found told : Option Return} → core ≡ that → found ≡ told → IsFirstReturn p plan h core found
    → IsFirstReturn p plan h that told
returned_first p plan h {core} {that} {found} {told} same is first =
    subst (λ (o : Option Return). IsFirstReturn p plan h that o) is (subst (λ (m : ModelCore). IsFirstReturn p plan h m found) same first)

module _ (p : Meaning) (plan : Plan) (history : List Entry) (that : ModelCore) (at : ℕ) (e : Entry) (state : List ModelCore) (alone : plan.cores ≡ 1)
    (is : get_elem? history at ≡ some e) (cores : state ≡ listed plan.cores (after p plan (take at history))) where
  here : slice_get state 0 ≡ Some (after p plan (take at history) 0)
  here = first_of (after p plan (take at history)) plan.cores state alone cores

  -- by the entry the core came back
  pub returned : (number : ℕ) → IsRoundBack state e that (Some number) → IsReturn p plan history that number at
  returned number (core, found, back) =
      let same : core ≡ after p plan (take at history) 0 = cc in
      record {
        begins = subst (λ (x : Entry). get_elem? history at ≡ some x) back.begins is;
        later = back.later;
        back = subst (λ (m : ModelCore). IsThatCore m that) same back.back;
      }

  -- or it didn't
  pub not_returned : IsRoundBack state e that None → (number : ℕ) → ¬ IsReturn p plan history that number at
  not_returned none number return =
      none (after p plan (take at history) 0) number here
      (record { begins = some-injective e (entry.Round number) (sym is ∙ return.begins); later = return.later; back = return.back })

-- none so far, and none here
pub none_more : (p : Meaning) (plan : Plan) (history : List Entry) (that : ModelCore) (at : ℕ) → ((number k : ℕ) → k < at → ¬ IsReturn p plan history that number k)
    → ((number : ℕ) → ¬ IsReturn p plan history that number at) → (number k : ℕ) → k < at + 1 → ¬ IsReturn p plan history that number k
none_more p plan history that at before here number k within return = by_order (cases_lt k at)
  where
    by_order : (k < at) ⊎ (at ≤ k) → ⊥
    by_order (inl less) = before number k less return
    by_order (inr last) = let same : k ≡ at = omega arith in here number (subst (IsReturn p plan history that number) same return)

-- none before is earlier
pub first_return : (p : Meaning) (plan : Plan) (history : List Entry) (that : ModelCore) (at : ℕ) → ((number k : ℕ) → k < at → ¬ IsReturn p plan history that number k)
    → (number k : ℕ) → IsReturn p plan history that number k → at ≤ k
first_return p plan history that at before number k return = by_order (cases_lt k at)
  where
    by_order : (k < at) ⊎ (at ≤ k) → at ≤ k
    by_order (inl less) = absurd (before number k less return)
    by_order (inr is) = is

-- a return stands within the history
pub return_inside : (p : Meaning) (plan : Plan) (history : List Entry) (that : ModelCore) (number k : ℕ) → IsReturn p plan history that number k → k < length history
return_inside p plan history that number k return = entry_inside history k (entry.Round number) return.begins
