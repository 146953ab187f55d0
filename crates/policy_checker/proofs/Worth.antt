-- What verdicts say of a policy.
use Rattle.std.proofs.Common.{◌≡◌, Bool, true, false, ◌||◌, ◌⊎◌, inl, inr, List, [], ◌∷◌, map, refl, subst, sym}
use Rattle.std.specs.List.{All, AllByRecursion}
use Rattle.std.proofs.lemmas.List.Elements.{All-from_recursion, recursion_from_All}
use Rattle.sched_base.specs.declared.limits.TheConstants.{CHECK_BUDGET}
use Rattle.policy_tree.specs.Meaning.{Meaning}
use Rattle.policy_eval.specs.Obligations.{IsMet, MeetsObligations}
use Rattle.policy_eval.specs.Resolved.{IsResolved}
use Rattle.obligations.specs.declared.names.ObName.{ObName}
use Rattle.obligations.specs.Names.{ob_names, statement_of}
use Rattle.obligations.specs.Systems.{systems_of}
use Rattle.obligations.proofs.Law.{names_are_statements}
use Rattle.policy_checker.specs.Outcomes.{HasOpen, IsTold, outcome_of}
use Rattle.policy_checker.specs.Verdicts.{Answers, AreAnswers, IsRefused, IsUndecided, is_failure, is_left, some_fails, some_is_left}
use Rattle.policy_checker.specs.declared.answer.Answered.{Answered}
use Rattle.policy_checker.specs.declared.answer.ObAnswer.{ObAnswer}
use Rattle.policy_checker.specs.declared.answer.ObAnswer.TheVariants as answer
use Rattle.policy_checker.proofs.True.{answers_are_true}

-- the name of an answer
abbrev name_in : Answered → ObName
name_in answered = answered.name

-- what is told of each obligation is true
abbrev pub IsToldOf : Meaning → Answered → Type 0
IsToldOf p answered = IsTold p answered.name (outcome_of answered.answer)

either_first : (a b : Bool) → (a || b) ≡ true → (a ≡ true) ⊎ (b ≡ true)
either_first true b e = inl refl
either_first false b e = inr e

module _ (p : Meaning) (is : IsResolved p) where
  pub all_told : (answers : List Answered) → AllByRecursion (Answers p CHECK_BUDGET) answers → AllByRecursion (IsToldOf p) answers
  all_told [] all = tt
  all_told (answered ∷ answers) all = (answers_are_true p is answered.name answered.answer all.0, all_told answers all.1)

  fails_told : (name : ObName) (a : ObAnswer) → is_failure a ≡ true → IsTold p name (outcome_of a) → IsMet p (statement_of name) → ⊥
  fails_told name (answer.Holds certs) e told met = let clash : ⊥ = cc in clash
  fails_told name (answer.Fails point) e told met = told met
  fails_told name (answer.Undecided points) e told met = let clash : ⊥ = cc in clash

  left_told : (name : ObName) (a : ObAnswer) → is_left a ≡ true → IsTold p name (outcome_of a) → HasOpen (systems_of p (statement_of name))
  left_told name (answer.Holds certs) e told = absurd (let clash : ⊥ = cc in clash)
  left_told name (answer.Fails point) e told = absurd (let clash : ⊥ = cc in clash)
  left_told name (answer.Undecided points) e told = told

  some_unmet : (answers : List Answered) → AllByRecursion (IsToldOf p) answers → some_fails answers ≡ true
      → AllByRecursion (IsMet p) (map statement_of (map name_in answers)) → ⊥
  some_unmet [] told e met = let clash : ⊥ = cc in clash
  some_unmet (answered ∷ answers) told e met = elim (either_first (is_failure answered.answer) (some_fails answers) e) [
    | inl here ↦ fails_told answered.name answered.answer here told.0 met.0
    | inr later ↦ some_unmet answers told.1 later met.1
  ]

  some_open : (answers : List Answered) → AllByRecursion (IsToldOf p) answers → some_is_left answers ≡ true
      → (name : ObName) × HasOpen (systems_of p (statement_of name))
  some_open [] told e = absurd (let clash : ⊥ = cc in clash)
  some_open (answered ∷ answers) told e = elim (either_first (is_left answered.answer) (some_is_left answers) e) [
    | inl here ↦ (answered.name, left_told answered.name answered.answer here told.0)
    | inr later ↦ some_open answers told.1 later
  ]

  -- a refused policy doesn't meet its obligations
  pub unmet : (answers : List Answered) → IsRefused p CHECK_BUDGET answers → MeetsObligations p → ⊥
  unmet answers refused meets =
      let all = recursion_from_All (IsMet p) (map statement_of ob_names) (subst (All (IsMet p)) (names_are_statements p) meets) in
      let named = subst (λ (names : List ObName). AllByRecursion (IsMet p) (map statement_of names)) (sym refused.answers_are.names) all in
      some_unmet answers (all_told answers refused.answers_are.each) refused.fails named

  -- of an undecided policy some system is open
  pub open_one : (answers : List Answered) → IsUndecided p CHECK_BUDGET answers → (name : ObName) × HasOpen (systems_of p (statement_of name))
  open_one answers undecided = some_open answers (all_told answers undecided.answers_are.each) undecided.left

  -- what its answers tell is true
  pub told_all : (answers : List Answered) → AreAnswers p CHECK_BUDGET answers → All (IsToldOf p) answers
  told_all answers are = All-from_recursion (IsToldOf p) answers (all_told answers are.each)
