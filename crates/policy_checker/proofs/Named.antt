-- The answers to the obligations of a policy, by their names.
use Rattle.std.proofs.Common.{◌≡◌, ℕ, List, [], ◌∷◌, map, refl, subst, sym, ap₂}
use Rattle.std.specs.List.{AllByRecursion, AllZip}
use Rattle.policy_tree.specs.Meaning.{Meaning}
use Rattle.obligations.specs.declared.names.ObName.{ObName}
use Rattle.obligations.specs.Names.{ob_names, statement_of}
use Rattle.obligations.specs.Systems.{obligation_of, systems_of}
use Rattle.policy_checker.specs.Answers.{HasFewLooks, IsAnswer}
use Rattle.policy_checker.specs.Verdicts.{Answers, AreAnswers, IsAnswerTo, TookFewLooks}
use Rattle.policy_checker.specs.declared.answer.Answered.{Answered}

module _ (p : Meaning) (budget : ℕ) where
  named : (names : List ObName) (answers : List Answered) → AllZip (IsAnswerTo budget) (map (obligation_of p) names) answers
      → map (λ (answered : Answered). answered.name) answers ≡ names
  named [] [] all = refl
  named [] (answered ∷ answers) all = absurd all
  named (name ∷ names) [] all = absurd all
  named (name ∷ names) (answered ∷ answers) all = ap₂ (λ (x : ObName) xs. x ∷ xs) all.0.name (named names answers all.1)

  each : (names : List ObName) (answers : List Answered) → AllZip (IsAnswerTo budget) (map (obligation_of p) names) answers
      → AllByRecursion (Answers p budget) answers
  each [] [] all = tt
  each [] (answered ∷ answers) all = absurd all
  each (name ∷ names) [] all = absurd all
  each (name ∷ names) (answered ∷ answers) all =
      (subst (λ (n : ObName). IsAnswer budget (systems_of p (statement_of n)) answered.answer) (sym all.0.name) all.0.answer, each names answers all.1)

  looks : (names : List ObName) (answers : List Answered) → AllZip (IsAnswerTo budget) (map (obligation_of p) names) answers
      → AllByRecursion (TookFewLooks p budget) answers
  looks [] [] all = tt
  looks [] (answered ∷ answers) all = absurd all
  looks (name ∷ names) [] all = absurd all
  looks (name ∷ names) (answered ∷ answers) all =
      (subst (λ (n : ObName). HasFewLooks budget (systems_of p (statement_of n)) answered.looks) (sym all.0.name) all.0.looks, looks names answers all.1)

  pub are_answers : (answers : List Answered) → AllZip (IsAnswerTo budget) (map (obligation_of p) ob_names) answers → AreAnswers p budget answers
  are_answers answers all = record { names = named ob_names answers all; each = each ob_names answers all; looks = looks ob_names answers all }
