-- What the definitions are meant to give.
use Rattle.std.specs.Prelude.{◌≡◌, ℕ, ◌<◌, Bool, IsFalse, IsTrue, List, length, remove}
use Rattle.std.specs.Prelude.{Some, option_map, slice_index_or}
use Rattle.policy_tree.specs.Meaning.{KeyTree, Meaning}
use Rattle.policy_eval.specs.Obligations.{MeetsBalanceObligations, MeetsHandlerObligations, MeetsObligations}
use Rattle.policy_eval.specs.Orders.{best_and_rest, best_of, precedes}
use Rattle.policy_eval.specs.Values.{Assignment}

-- what comes before what is as by a rank: nothing before itself, of two at most one before the other, and not coming
-- before goes on from one to the next
pub record IsRanked {X : Type 0} (before : X → X → Bool) : Type 0 where
  pub irreflexive : (a : X) → IsFalse (before a a)
  pub asymmetric : (a b : X) → IsTrue (before a b) → IsFalse (before b a)
  pub not_before : (a b c : X) → IsFalse (before a b) → IsFalse (before b c) → IsFalse (before a c)

-- so it is by the keys of every order
abbrev pub RankedLaw : Type 0
RankedLaw = (keys : List KeyTree) → IsRanked (precedes keys)

-- the first of the pair is the best of the list, and there is no pair where there is no best
abbrev pub BestAndRestLaw : Type 0
BestAndRestLaw = (keys : List KeyTree) (xs : List Assignment) →
    option_map (λ best. best.0) (best_and_rest (precedes keys) xs) ≡ best_of (precedes keys) xs

-- the item stands in the list, none comes strictly before it, and it comes strictly before each earlier one
pub record IsBest (keys : List KeyTree) (xs : List Assignment) (best : Assignment) : Type 0 where
  pub at : ℕ
  pub inside : at < length xs
  pub is : slice_index_or xs at best ≡ best
  pub none_before : (k : ℕ) (d : Assignment) → k < length xs →
      IsFalse (precedes keys (slice_index_or xs k d) best)
  pub earliest : (k : ℕ) (d : Assignment) → k < at → IsTrue (precedes keys best (slice_index_or xs k d))

-- the best by the keys is what the name says
abbrev pub BestLaw : Type 0
BestLaw = (keys : List KeyTree) (xs : List Assignment) (best : Assignment) →
    best_of (precedes keys) xs ≡ Some best → IsBest keys xs best

-- the first is the best, and the others are the list without the place where it stands
pub record IsBestAndRest (keys : List KeyTree) (xs : List Assignment) (best : Assignment)
    (others : List Assignment) : Type 0 where
  pub first : IsBest keys xs best
  pub rest : others ≡ remove xs first.at

-- so it is of the pair that a list has
abbrev pub RestLaw : Type 0
RestLaw = (keys : List KeyTree) (xs : List Assignment) (best : Assignment) (others : List Assignment) →
    best_and_rest (precedes keys) xs ≡ Some (best, others) → IsBestAndRest keys xs best others

-- a policy meets its statements exactly where it meets what it owes for balance and for its handlers
pub record ObligationParts : Type 0 where
  pub balance : (p : Meaning) → MeetsObligations p → MeetsBalanceObligations p
  pub handlers : (p : Meaning) → MeetsObligations p → MeetsHandlerObligations p
  pub both : (p : Meaning) → MeetsBalanceObligations p → MeetsHandlerObligations p → MeetsObligations p
