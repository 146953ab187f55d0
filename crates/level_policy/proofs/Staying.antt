-- A condition over attributes of the two cores holds as long as these stay, so a core stays in its level.
use Rattle.std.proofs.Common.{◌≡◌, ℕ, zero, suc, ◌+◌, ◌≤◌, ℤ, pos, neg_ℤ, ◌+ℤ◌, ◌-ℤ◌, ◌*ℤ◌, Bool, true, cond, not, ◌&&◌, ◌||◌, List, [], ◌∷◌, ◌++◌, get_or, Option, Some, refl, ap, ap₂, arith}
use Rattle.std.specs.List.{AllByRecursion, position_from}
use Rattle.std.proofs.lemmas.Bool.Decides.{nat_tests}
use Rattle.policy_tree.specs.Meaning.{Meaning}
use Rattle.policy_tree.specs.Trees.{ExprTree, number, variable, negation, plus, minus, times, CondTree, always, negated, both, either, test}
use Rattle.policy_eval.specs.declared.env.CoreValues.{CoreValues}
use Rattle.policy_eval.specs.Forms.{EachSide, RefersTo}
use Rattle.policy_eval.specs.Sights.{no_attributes, pair_values}
use Rattle.policy_eval.specs.Values.{compared, holds, value_of, variable_of}
use Rattle.policy_eval.proofs.Evaluable.{AllByRecursion-each}
use Rattle.level_policy.specs.Laws.{LevelStaysLaw}
use Rattle.level_policy.specs.LevelChoices.{level_of, takes_in}
use Rattle.level_policy.specs.Levels.{LevelTree}
use Rattle.level_policy.specs.ResolvedLevels.{IsResolvedLevel, is_core_attribute}

-- two tests that agree on the items find the same place
same_place : {X : Type 0} (first second : X → Bool) (from : ℕ) (xs : List X) → AllByRecursion (λ x. first x ≡ second x) xs → position_from first from xs ≡ position_from second from xs
same_place first second from [] are = refl
same_place first second from (x ∷ xs) are =
    ap₂ (λ b (rest : Option ℕ). cond b (Some from) rest) are.0 (same_place first second (from + 1) xs are.1)

module _ (own other own_later other_later : CoreValues) (same_own : own.consts ≡ own_later.consts) (same_other : other.consts ≡ other_later.consts) where
  variable_stays : (at : ℕ) → 6 ≤ at → variable_of (pair_values own other) at ≡ variable_of (pair_values own_later other_later) at
  unfolding pair_values
  variable_stays zero low = absurd (omega arith)
  variable_stays (suc zero) low = absurd (omega arith)
  variable_stays (suc (suc zero)) low = absurd (omega arith)
  variable_stays (suc (suc (suc zero))) low = absurd (omega arith)
  variable_stays (suc (suc (suc (suc zero)))) low = absurd (omega arith)
  variable_stays (suc (suc (suc (suc (suc zero))))) low = absurd (omega arith)
  variable_stays (suc (suc (suc (suc (suc (suc at)))))) low =
      ap₂ (λ (mine others : List ℤ). get_or (mine ++ others ++ no_attributes) at (pos 0)) same_own same_other

  module _ (p : Meaning) where
    attribute_low : (at : ℕ) → is_core_attribute p at ≡ true → 6 ≤ at
    attribute_low at is = grind (arith, nat_tests)

    value_stays : (e : ExprTree) → RefersTo (is_core_attribute p) e → value_of (pair_values own other) e ≡ value_of (pair_values own_later other_later) e
    value_stays (number n) refers = refl
    value_stays (variable at) refers = variable_stays at (attribute_low at refers)
    value_stays (negation e) refers = ap neg_ℤ (value_stays e refers)
    value_stays (plus l r) refers = ap₂ (λ x y. x +ℤ y) (value_stays l refers.0) (value_stays r refers.1)
    value_stays (minus l r) refers = ap₂ (λ x y. x -ℤ y) (value_stays l refers.0) (value_stays r refers.1)
    value_stays (times l r) refers = ap₂ (λ x y. x *ℤ y) (value_stays l refers.0) (value_stays r refers.1)

    condition_stays : (c : CondTree) → EachSide (RefersTo (is_core_attribute p)) c → holds (pair_values own other) c ≡ holds (pair_values own_later other_later) c
    condition_stays always sides = refl
    condition_stays (negated c) sides = ap not (condition_stays c sides)
    condition_stays (both l r) sides = ap₂ (λ x y. x && y) (condition_stays l sides.0) (condition_stays r sides.1)
    condition_stays (either l r) sides = ap₂ (λ x y. x || y) (condition_stays l sides.0) (condition_stays r sides.1)
    condition_stays (test how l r) sides = ap₂ (λ x y. compared how x y) (value_stays l sides.0) (value_stays r sides.1)

    taken_in_still : (level : LevelTree) → IsResolvedLevel p level → takes_in own other level ≡ takes_in own_later other_later level
    taken_in_still level is = condition_stays level.within is.within.attributes

pub level_stays_law : LevelStaysLaw
unfolding level_of
level_stays_law l are own other own_later other_later same_own same_other =
    same_place (takes_in own other) (takes_in own_later other_later) 0 l.levels
    (AllByRecursion-each (IsResolvedLevel l.plain) (λ level. takes_in own other level ≡ takes_in own_later other_later level)
    (taken_in_still own other own_later other_later same_own same_other l.plain) l.levels are.levels)
