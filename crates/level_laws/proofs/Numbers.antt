-- A core belongs to a level exactly where no earlier one takes it in, and the level does.
use Rattle.std.proofs.Common.{◌≡◌, ℕ, ◌+◌, ◌<◌, Bool, true, false, cond, not, ◌&&◌, ◌||◌, List, [], ◌∷◌, ◌++◌, length, Some, refl, ap, ap₂, ◌∙◌, arith}
use Rattle.std.specs.List.{list_any, position_from}
use Rattle.std.proofs.lemmas.Bool.Decides.{nat_tests}
use Rattle.policy_eval.specs.declared.env.CoreValues.{CoreValues}
use Rattle.policy_eval.specs.Sights.{pair_values}
use Rattle.policy_eval.specs.Values.{holds}
use Rattle.level_policy.specs.LevelChoices.{is_number, level_of, passes_its_level, takes_in}
use Rattle.level_policy.specs.Levels.{LevelTree}
use Rattle.level_policy.proofs.Passing.{passes-first, passes_first, taken_in}

-- a place is no earlier than where the count began
is_number-past : {X : Type 0} (test : X → Bool) (number from : ℕ) (xs : List X) → number < from → is_number number (position_from test from xs) ≡ false
is_number-past test number from [] past = refl
is_number-past test number from (x ∷ xs) past =
    elim (test x) as (λ b. is_number number (cond b (Some from) (position_from test (from + 1) xs)) ≡ false) [
      | true ↦ grind (arith, nat_tests)
      | false ↦ is_number-past test number (from + 1) xs (omega arith)
    ]

-- the first that passes is this one: none before it passes, and it does
is_number-here : {X : Type 0} (test : X → Bool) (from number : ℕ) (before : List X) (x : X) (after : List X) → from + length before ≡ number
    → is_number number (position_from test from (before ++ x ∷ after)) ≡ (not (list_any test before) && test x)
is_number-here test from number [] x after is =
    elim (test x) as (λ b. is_number number (cond b (Some from) (position_from test (from + 1) after)) ≡ b) [
      | true ↦ grind (arith, nat_tests)
      | false ↦ is_number-past test number (from + 1) after (omega arith)
    ]
is_number-here test from number (y ∷ before) x after is =
    elim (test y) as (λ b. is_number number (cond b (Some from) (position_from test (from + 1) (before ++ x ∷ after))) ≡ (not (b || list_any test before) && test x)) [
      | true ↦ grind (arith, nat_tests)
      | false ↦ is_number-here test (from + 1) number before x after (omega arith)
    ]

module _ (own other : CoreValues) where
  -- levels that don't take the core in play no part
  passes_first-append : (earlier levels : List LevelTree) → taken_in own other earlier ≡ false → passes_first own other (earlier ++ levels) ≡ passes_first own other levels
  passes_first-append [] levels none = refl
  passes_first-append (level ∷ earlier) levels none =
      elim (takes_in own other level) as (λ b. (b || taken_in own other earlier) ≡ false
      → cond b (holds (pair_values own other) level.filter) (passes_first own other (earlier ++ levels)) ≡ passes_first own other levels) [
        | true ↦ λ taken. absurd (cc)
        | false ↦ λ left. passes_first-append earlier levels left
      ] none

  -- the core belongs to this level and passes its filter
  pub in_level : (earlier : List LevelTree) (level : LevelTree) (later : List LevelTree)
      → (is_number (length earlier) (level_of (earlier ++ level ∷ later) own other) && passes_its_level (earlier ++ level ∷ later) own other)
      ≡ ((not (taken_in own other earlier) && takes_in own other level) && holds (pair_values own other) level.filter)
  unfolding level_of
  in_level earlier level later =
      let levels : List LevelTree = earlier ++ level ∷ later in
      ap₂ (λ x y. x && y) (is_number-here (takes_in own other) 0 (length earlier) earlier level later (omega arith)) (passes-first own other levels)
      ∙ (elim (taken_in own other earlier) as (λ b. taken_in own other earlier ≡ b
      → ((not b && takes_in own other level) && passes_first own other levels) ≡ ((not b && takes_in own other level) && holds (pair_values own other) level.filter)) [
        | true ↦ λ taken. refl
        | false ↦ λ left. ap (λ x. takes_in own other level && x) (passes_first-append earlier (level ∷ later) left) ∙ taken_first (takes_in own other level) (holds (pair_values own other) level.filter) (passes_first own other later)
      ] refl)
    where
      taken_first : (this passes further : Bool) → (this && cond this passes further) ≡ (this && passes)
      taken_first true passes further = refl
      taken_first false passes further = refl
