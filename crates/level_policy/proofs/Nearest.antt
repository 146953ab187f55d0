-- The choice by levels is the best candidate of the nearest level that has one.
use Rattle.std.proofs.Common.{◌≡◌, ◌≢◌, ℕ, zero, suc, ◌+◌, ◌==◌, ◌<◌, ◌≤◌, ⊎_elim, eqb, Bool, true, false, cond, not, ◌&&◌, List, [], ◌∷◌, filter, length, map, Option, Some, None, refl, subst, arith}
use Rattle.std.specs.List.{position_from, range_with_len}
use Rattle.std.specs.Option.{option_or}
use Rattle.std.specs.Prelude.{MatchOption}
use Rattle.std.proofs.lemmas.Bool.{cases_lt}
use Rattle.std.proofs.lemmas.Bool.Decides.{nat_tests}
use Rattle.policy_eval.specs.declared.env.CoreValues.{CoreValues}
use Rattle.policy_eval.specs.Orders.{best_of, better_of}
use Rattle.policy_eval.specs.Sights.{pair_values}
use Rattle.policy_eval.proofs.Best.{precedes-asymmetric, precedes-irreflexive, precedes-negative}
use Rattle.level_policy.specs.LevelChoices.{first_some, is_level_candidate, is_number, level_best, level_choice, level_of, passes_its_level, prefers_by, takes_in}
use Rattle.level_policy.specs.Levels.{LevelsMeaning}
use Rattle.level_policy.specs.NearestBest.{ChoosesNearest, IsCandidate, NearestBestLaw}

-- a number from one on is this one, or lies behind it
at_or_past : (P : ℕ → Type 0) (from w : ℕ) → from ≤ w → P from → (from + 1 ≤ w → P w) → P w
at_or_past P from w low here past =
    elim (eqb from w) as (λ b. eqb from w ≡ b → P w) [
      | true ↦ λ is. let same : from ≡ w = grind (arith, nat_tests) in subst P same here
      | false ↦ λ is. let apart : from ≢ w = grind (arith, nat_tests) in past (omega arith)
    ] refl

-- the best of those numbers of a range that pass, by what comes before what
module _ (before : ℕ → ℕ → Bool) (test : ℕ → Bool) where
  -- none passes
  abbrev NonePasses : ℕ → ℕ → Type 0
  NonePasses from n = (w : ℕ) → from ≤ w → w < from + n → test w ≡ false

  pub record IsBestFrom (from n v : ℕ) : Type 0 where
    low : from ≤ v
    high : v < from + n
    passes : test v ≡ true
    none_before : (w : ℕ) → from ≤ w → w < from + n → test w ≡ true → before w v ≡ false
    lowest : (w : ℕ) → from ≤ w → w < v → test w ≡ true → before v w ≡ true

  module _ (irreflexive : (v : ℕ) → before v v ≡ false) (asymmetric : (v w : ℕ) → before v w ≡ true → before w v ≡ false)
      (negative : (u v w : ℕ) → before u v ≡ false → before v w ≡ false → before u w ≡ false) where
    -- one number more in front, which passes
    front_passes : (from n : ℕ) → test from ≡ true → (found : Option ℕ) → MatchOption found (NonePasses (from + 1) n) (IsBestFrom (from + 1) n) → IsBestFrom from (suc n) (better_of before from found)
    front_passes from n own None none = record {
      low = omega arith;
      high = omega arith;
      passes = own;
      none_before = λ w low high passes. at_or_past (λ x. x < from + suc n → test x ≡ true → before x from ≡ false) from w low
          (λ _ _. irreflexive from) (λ past inside is. let bad = none w past (omega arith) in absurd (cc)) high passes;
      lowest = λ w low less passes. absurd (omega arith);
    }
    front_passes from n own (Some y) is =
        let low_y = is.low in let high_y = is.high in
        elim (before y from) as (λ b. before y from ≡ b → IsBestFrom from (suc n) (cond b y from)) [
          | true ↦ λ first. record {
            low = omega arith;
            high = omega arith;
            passes = is.passes;
            none_before = λ w low high passes. at_or_past (λ x. x < from + suc n → test x ≡ true → before x y ≡ false) from w low
                (λ _ _. asymmetric y from first) (λ past inside also. is.none_before w past (omega arith) also) high passes;
            lowest = λ w low less passes. at_or_past (λ x. x < y → test x ≡ true → before y x ≡ true) from w low
                (λ _ _. first) (λ past inside also. is.lowest w past inside also) less passes;
          }
          | false ↦ λ later. record {
            low = omega arith;
            high = omega arith;
            passes = own;
            none_before = λ w low high passes. at_or_past (λ x. x < from + suc n → test x ≡ true → before x from ≡ false) from w low
                (λ _ _. irreflexive from) (λ past inside also. negative w y from (is.none_before w past (omega arith) also) later) high passes;
            lowest = λ w low less passes. absurd (omega arith);
          }
        ] refl

    -- one number more in front, which doesn't pass
    front_fails : (from n : ℕ) → test from ≡ false → (found : Option ℕ) → MatchOption found (NonePasses (from + 1) n) (IsBestFrom (from + 1) n) → MatchOption found (NonePasses from (suc n)) (IsBestFrom from (suc n))
    front_fails from n own None none = λ w low high. at_or_past (λ x. x < from + suc n → test x ≡ false) from w low
        (λ _. own) (λ past inside. none w past (omega arith)) high
    front_fails from n own (Some y) is =
        let low_y = is.low in let high_y = is.high in
        record {
          low = omega arith;
          high = omega arith;
          passes = is.passes;
          none_before = λ w low high passes. at_or_past (λ x. x < from + suc n → test x ≡ true → before x y ≡ false) from w low
              (λ _ bad. absurd (cc)) (λ past inside also. is.none_before w past (omega arith) also) high passes;
          lowest = λ w low less passes. at_or_past (λ x. x < y → test x ≡ true → before y x ≡ true) from w low
              (λ _ bad. absurd (cc)) (λ past inside also. is.lowest w past inside also) less passes;
        }

    pub best_from : (from n : ℕ) → MatchOption (best_of before (filter test (range_with_len from n))) (NonePasses from n) (IsBestFrom from n)
    best_from from zero = λ w low high. absurd (omega arith)
    best_from from (suc n) =
        let rest = filter test (range_with_len (from + 1) n) in
        elim (test from) as (λ b. test from ≡ b → MatchOption (best_of before (cond b (from ∷ rest) rest)) (NonePasses from (suc n)) (IsBestFrom from (suc n))) [
          | true ↦ λ own. front_passes from n own (best_of before rest) (best_from (from + 1) n)
          | false ↦ λ own. front_fails from n own (best_of before rest) (best_from (from + 1) n)
        ] refl

-- a place lies before the end
place_within : {X : Type 0} (test : X → Bool) (number from : ℕ) (xs : List X) → is_number number (position_from test from xs) ≡ true → number < from + length xs
place_within test number from [] is = absurd (cc)
place_within test number from (x ∷ xs) is =
    elim (test x) as (λ b. is_number number (cond b (Some from) (position_from test (from + 1) xs)) ≡ true → number < from + length (x ∷ xs)) [
      | true ↦ λ here. grind (arith, nat_tests)
      | false ↦ λ later. let within = place_within test number (from + 1) xs later in omega arith
    ] is

middle : (x y z : Bool) → (x && (y && z)) ≡ true → y ≡ true
middle true true z is = refl
middle true false z is = absurd (cc)
middle false y z is = absurd (cc)

module _ (l : LevelsMeaning) (cores : ℕ) (values : ℕ → CoreValues) (a : ℕ) where
  -- the best of one level
  abbrev IsBestOf : ℕ → ℕ → Type 0
  IsBestOf level v = IsBestFrom (prefers_by l.plain.choose values a) (is_level_candidate l.levels values a level) 0 cores v

  -- no core is a candidate of the level
  abbrev NoCandidate : ℕ → Type 0
  NoCandidate level = (v : ℕ) → 0 ≤ v → v < 0 + cores → is_level_candidate l.levels values a level v ≡ false

  of_level : (level : ℕ) → MatchOption (level_best l cores values a level) (NoCandidate level) (IsBestOf level)
  unfolding level_best
  of_level level =
      best_from (prefers_by l.plain.choose values a) (is_level_candidate l.levels values a level)
      (λ v. precedes-irreflexive l.plain.choose (pair_values (values a) (values v)))
      (λ v w first. precedes-asymmetric l.plain.choose (pair_values (values a) (values v)) (pair_values (values a) (values w)) first)
      (λ u v w first second. precedes-negative l.plain.choose (pair_values (values a) (values u)) (pair_values (values a) (values v)) (pair_values (values a) (values w)) first second)
      0 cores

  -- the best of the first level with one, of so many levels from that one on
  record IsFirstFrom (from n v : ℕ) : Type 0 where
    level : ℕ
    low : from ≤ level
    best : IsBestOf level v
    none_before : (other : ℕ) → from ≤ other → other < level → NoCandidate other

  abbrev NoneFrom : ℕ → ℕ → Type 0
  NoneFrom from n = (level : ℕ) → from ≤ level → level < from + n → NoCandidate level

  one_more : (from n : ℕ) (found rest : Option ℕ) → MatchOption found (NoCandidate from) (IsBestOf from) → MatchOption rest (NoneFrom (from + 1) n) (IsFirstFrom (from + 1) n)
      → MatchOption (option_or found rest) (NoneFrom from (suc n)) (IsFirstFrom from (suc n))
  one_more from n None None none others = λ level low high. at_or_past (λ x. x < from + suc n → NoCandidate x) from level low (λ _. none) (λ past inside. others level past (omega arith)) high
  one_more from n None (Some v) none is =
      let low_level = is.low in
      record {
        level = is.level;
        low = omega arith;
        best = is.best;
        none_before = λ other low less. at_or_past (λ x. x < is.level → NoCandidate x) from other low (λ _. none) (λ past inside. is.none_before other past inside) less;
      }
  one_more from n (Some v) rest is others = record { level = from; low = omega arith; best = is; none_before = λ other low less. absurd (omega arith) }

  first_from : (from n : ℕ) → MatchOption (first_some (map (level_best l cores values a) (range_with_len from n))) (NoneFrom from n) (IsFirstFrom from n)
  first_from from zero = λ level low high. absurd (omega arith)
  first_from from (suc n) =
      one_more from n (level_best l cores values a from) (first_some (map (level_best l cores values a) (range_with_len (from + 1) n))) (of_level from) (first_from (from + 1) n)

  -- a candidate belongs to one of the levels
  level_there : (level v : ℕ) → IsCandidate l cores values a level v → level < length l.levels
  unfolding level_of
  level_there level v is =
      let own = values a in let other = values v in
      let within = place_within (takes_in own other) level 0 l.levels
      (middle (not (a == v)) (is_number level (position_from (takes_in own other) 0 l.levels)) (passes_its_level l.levels own other) is.passes) in
      omega arith

  -- where none is said to pass there is no candidate
  no_candidate : (level v : ℕ) → NoCandidate level → ¬ IsCandidate l cores values a level v
  no_candidate level v none is = let fails = none v (omega arith) (omega (arith, is.there)) in let passes = is.passes in absurd (cc)

  chosen_is : (chosen : Option ℕ) → MatchOption chosen (NoneFrom 0 (length l.levels)) (IsFirstFrom 0 (length l.levels)) → ChoosesNearest l cores values a chosen
  chosen_is None none = λ level v is. no_candidate level v (none level (omega arith) (let there = level_there level v is in omega arith)) is
  chosen_is (Some v) is = record {
    level = is.level;
    candidate = record { there = let high = is.best.high in omega arith; passes = is.best.passes };
    nearest = λ other w also. ⊎_elim
        (λ (less : other < is.level). absurd (no_candidate other w (is.none_before other (omega arith) less) also))
        (λ (more : is.level ≤ other). more)
        (cases_lt other is.level);
    none_before = λ w also. is.best.none_before w (omega arith) (let there = also.there in omega arith) also.passes;
    lowest = λ w less also. is.best.lowest w (omega arith) less also.passes;
  }

pub nearest_best_law : NearestBestLaw
unfolding level_choice
nearest_best_law l cores values a = chosen_is l cores values a (first_some (map (level_best l cores values a) (range_with_len 0 (length l.levels)))) (first_from l cores values a 0 (length l.levels))
