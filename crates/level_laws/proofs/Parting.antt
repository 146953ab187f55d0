-- A key that prefers, in front of an order: those that its condition holds of come first, and by the further keys.
use Rattle.std.proofs.Common.{◌≡◌, ℕ, Bool, true, false, cond, List, [], ◌∷◌, filter, IfSome, Option, Some, None, refl, ap, ap₂, ◌∙◌}
use Rattle.std.specs.List.{AllByRecursion}
use Rattle.std.specs.Option.{option_or}
use Rattle.std.specs.Ordering.{is_lt, ordering_then}
use Rattle.policy_tree.specs.Meaning.{KeyTree, preferring}
use Rattle.policy_tree.specs.Trees.{CondTree}
use Rattle.policy_eval.specs.declared.env.CoreValues.{CoreValues}
use Rattle.policy_eval.specs.Orders.{best_of, better_of, keys_order, truth_order}
use Rattle.policy_eval.specs.Sights.{pair_values}
use Rattle.policy_eval.specs.Values.{holds}
use Rattle.level_policy.specs.LevelChoices.{prefers_by}
use Rattle.level_laws.proofs.Lists.{best_among, best_same, none_best, none_pass, those_pass}

module _ (values : ℕ → CoreValues) (a : ℕ) where
  -- whether the condition holds of the core a and that core
  abbrev pub meets : CondTree → ℕ → Bool
  meets c v = holds (pair_values (values a) (values v)) c

  -- the best of these cores for the core a
  abbrev pub best_by : List KeyTree → List ℕ → Option ℕ
  best_by keys cores = best_of (prefers_by keys values a) cores

  module _ (c : CondTree) (keys : List KeyTree) where
    -- what the key makes of two cores
    by_key : (first second : Bool) (v w : ℕ) → meets c v ≡ first → meets c w ≡ second → prefers_by (preferring c ∷ keys) values a v w
        ≡ is_lt (ordering_then (truth_order first second) (keys_order keys (pair_values (values a) (values v)) (pair_values (values a) (values w))))
    by_key first second v w own other =
        ap₂ (λ x y. is_lt (ordering_then (truth_order x y) (keys_order keys (pair_values (values a) (values v)) (pair_values (values a) (values w))))) own other

    -- where its condition holds of both or of neither, the further keys decide
    in_vain : (both : Bool) (v w : ℕ) → meets c v ≡ both → meets c w ≡ both → prefers_by (preferring c ∷ keys) values a v w ≡ prefers_by keys values a v w
    in_vain true v w own other = by_key true true v w own other
    in_vain false v w own other = by_key false false v w own other

    pub key_in_vain : (both : Bool) (cores : List ℕ) → AllByRecursion (λ v. meets c v ≡ both) cores → best_by (preferring c ∷ keys) cores ≡ best_by keys cores
    key_in_vain both cores are =
        (best_same (prefers_by (preferring c ∷ keys) values a) (prefers_by keys values a) (λ v. meets c v ≡ both) (in_vain both) cores are).0

    -- one core more in front, of which the condition holds
    front_met : (v : ℕ) → meets c v ≡ true → (met all : Option ℕ) → IfSome met (λ y. meets c y ≡ true) → (met ≡ None → IfSome all (λ y. meets c y ≡ false))
        → better_of (prefers_by (preferring c ∷ keys) values a) v (option_or met all) ≡ better_of (prefers_by keys values a) v met
    front_met v own None None are none = refl
    front_met v own None (Some y) are none = ap (λ b. cond b y v) (by_key false true y v (none refl) own)
    front_met v own (Some y) all are none = ap (λ b. cond b y v) (in_vain true y v are own)

    -- one core more in front, of which it doesn't
    front_missed : (v : ℕ) → meets c v ≡ false → (met all : Option ℕ) → IfSome met (λ y. meets c y ≡ true) → (met ≡ None → IfSome all (λ y. meets c y ≡ false))
        → Some (better_of (prefers_by (preferring c ∷ keys) values a) v (option_or met all)) ≡ option_or met (Some (better_of (prefers_by keys values a) v all))
    front_missed v own None None are none = refl
    front_missed v own None (Some y) are none = ap (λ b. Some (cond b y v)) (in_vain false y v (none refl) own)
    front_missed v own (Some y) all are none = ap (λ b. Some (cond b y v)) (by_key true false y v are own)

    -- where none is left by the condition, it holds of none
    none_met : (cores : List ℕ) → best_by keys (filter (meets c) cores) ≡ None → IfSome (best_by keys cores) (λ y. meets c y ≡ false)
    none_met cores is =
        best_among (prefers_by keys values a) (λ y. meets c y ≡ false) cores (none_pass (meets c) cores (none_best (prefers_by keys values a) (filter (meets c) cores) is))

    -- the best of those that the condition holds of, or, where there is none, of all
    pub parted_best : (cores : List ℕ) → best_by (preferring c ∷ keys) cores ≡ option_or (best_by keys (filter (meets c) cores)) (best_by keys cores)
    parted_best [] = refl
    parted_best (v ∷ cores) =
        let met = best_by keys (filter (meets c) cores) in
        let are = best_among (prefers_by keys values a) (λ y. meets c y ≡ true) (filter (meets c) cores) (those_pass (meets c) cores) in
        ap (λ (o : Option ℕ). Some (better_of (prefers_by (preferring c ∷ keys) values a) v o)) (parted_best cores)
        ∙ (elim (meets c v) as (λ b. meets c v ≡ b → Some (better_of (prefers_by (preferring c ∷ keys) values a) v (option_or met (best_by keys cores)))
        ≡ option_or (best_by keys (cond b (v ∷ filter (meets c) cores) (filter (meets c) cores))) (Some (better_of (prefers_by keys values a) v (best_by keys cores)))) [
          | true ↦ λ own. ap Some (front_met v own met (best_by keys cores) are (none_met cores))
          | false ↦ λ own. front_missed v own met (best_by keys cores) are (none_met cores)
        ] refl)
