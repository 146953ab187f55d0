-- A policy whose comparisons are differences is decided: a system that is left has a row that is no difference.
use Rattle.std.proofs.Common.{◌≡◌, ℕ, Bool, true, false, true≢false, ◌||◌, inl, inr, List, [], ◌∷◌, Option, refl, sym, ◌∙◌}
use Rattle.std.specs.List.{AllByRecursion}
use Rattle.std.proofs.lemmas.List.Elements.{All-contains, recursion_from_All}
use Rattle.linear_form.specs.Difference.{IsDifference}
use Rattle.linear_form.specs.System.{LinearSystem}
use Rattle.policy_tree.specs.Meaning.{Meaning}
use Rattle.policy_eval.specs.Obligations.{Statement}
use Rattle.obligations.specs.declared.names.ObName.{ObName}
use Rattle.obligations.specs.DifferencePolicies.{ComparesDifferences}
use Rattle.obligations.specs.Names.{statement_of}
use Rattle.obligations.specs.Systems.{systems_of}
use Rattle.obligations.proofs.Differing.{comparisons_give_differences}
use Rattle.policy_checker.specs.Answers.{IsAnswer, IsFirstLeft}
use Rattle.policy_checker.specs.Laws.{DifferencesAreDecided}
use Rattle.policy_checker.specs.Outcomes.{HasOpen}
use Rattle.policy_checker.specs.Verdicts.{Answers, IsDecided, IsVerdict, is_left, some_is_left}
use Rattle.policy_checker.specs.declared.answer.Answered.{Answered}
use Rattle.policy_checker.specs.declared.answer.ObAnswer.{ObAnswer}
use Rattle.policy_checker.specs.declared.answer.ObAnswer.TheVariants as answer
use Rattle.policy_checker.specs.declared.verdict.Verdict.{Verdict}
use Rattle.policy_checker.specs.declared.verdict.Verdict.TheVariants as verdict

abbrev OfDifferences : LinearSystem → Type 0
OfDifferences system = IsDifference system.rows

none_left : (budget : ℕ) (systems : List LinearSystem) (points : Option ℕ) → AllByRecursion OfDifferences systems → IsFirstLeft budget systems points → ⊥
none_left budget [] points all left = left
none_left budget (system ∷ systems) points all (inl here) = here.0.0.no_differences all.0
none_left budget (system ∷ systems) points all (inr later) = none_left budget systems points all.1 later.1

neither : (a b : Bool) → a ≡ false → b ≡ false → (a || b) ≡ false
neither true b e f = absurd (true≢false e)
neither false b e f = f

module _ (p : Meaning) (form : ComparesDifferences p) where
  pub statement_decided : (s : Statement) (budget : ℕ) (a : ObAnswer) → IsAnswer budget (systems_of p s) a → is_left a ≡ false
  statement_decided s budget (answer.Holds certs) is = refl
  statement_decided s budget (answer.Fails point) is = refl
  statement_decided s budget (answer.Undecided points) is =
      absurd (none_left budget (systems_of p s) points (recursion_from_All OfDifferences (systems_of p s) (comparisons_give_differences p form s)) is)

  answer_decided : (name : ObName) (budget : ℕ) (a : ObAnswer) → IsAnswer budget (systems_of p (statement_of name)) a → is_left a ≡ false
  answer_decided name = statement_decided (statement_of name)

  all_decided : (budget : ℕ) (answers : List Answered) → AllByRecursion (Answers p budget) answers → some_is_left answers ≡ false
  all_decided budget [] all = refl
  all_decided budget (answered ∷ answers) all =
      neither (is_left answered.answer) (some_is_left answers) (answer_decided answered.name budget answered.answer all.0) (all_decided budget answers all.1)

  verdict_decided : (budget : ℕ) (v : Verdict) → IsVerdict p budget v → IsDecided v
  verdict_decided budget (verdict.Accepted policy) is = tt
  verdict_decided budget (verdict.Refused answers policy) is = tt
  verdict_decided budget (verdict.Undecided answers policy) is = true≢false (sym is.left ∙ all_decided budget answers is.answers_are.each)

  -- no system of it is open
  pub closed : (name : ObName) → HasOpen (systems_of p (statement_of name)) → ⊥
  closed name (system, inside, open_one) =
      open_one.no_differences (All-contains OfDifferences (systems_of p (statement_of name)) system (comparisons_give_differences p form (statement_of name)) inside)

pub differences_are_decided : DifferencesAreDecided
differences_are_decided = record { answers = answer_decided; verdicts = verdict_decided; none_open = closed }
