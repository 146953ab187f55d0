-- Answers of which none fails and none is left open keep a certificate for each system.
use Rattle.std.proofs.Common.{◌≡◌, ℕ, Bool, true, false, ◌||◌, List, [], ◌∷◌, Option, Some, None, map, refl, subst}
use Rattle.std.specs.List.{AllByRecursion, AllZip}
use Rattle.linear_form.specs.System.{LinearSystem}
use Rattle.linear_cert.specs.declared.cert.Cert.{Cert}
use Rattle.linear_cert.specs.Right.{CertTree, cert_tree}
use Rattle.policy_tree.specs.Meaning.{Meaning}
use Rattle.obligations.specs.declared.names.ObName.{ObName}
use Rattle.obligations.specs.Names.{statement_of}
use Rattle.obligations.specs.Systems.{systems_of}
use Rattle.policy_checker.specs.Answers.{AllRefuted, IsAnswer, MayBeDecided}
use Rattle.policy_checker.specs.Certified.{Certifies, IsCertified, KeepAll, Keeps, KeepsCertificates}
use Rattle.policy_checker.specs.Refuted.{Refutes}
use Rattle.policy_checker.specs.Verdicts.{Answers, AreAnswers, IsCertifiedUnder, MayAllBeDecided, is_failure, is_left, some_fails, some_is_left}
use Rattle.policy_checker.specs.declared.answer.Answered.{Answered}
use Rattle.policy_checker.specs.declared.answer.ObAnswer.{ObAnswer}
use Rattle.policy_checker.specs.declared.answer.ObAnswer.TheVariants as answer

-- what isn't some is none
pub no_crowd : {X : Type 0} (found : Option X) → ((x : X) → found ≡ Some x → ⊥) → found ≡ None
no_crowd None never = refl
no_crowd (Some x) never = absurd (never x refl)

pub certificates : (budget : ℕ) (systems : List LinearSystem) (certs : List Cert) → AllRefuted budget systems certs
    → AllZip (λ (system : LinearSystem) (cert : Cert). Refutes system (cert_tree cert)) systems certs
certificates budget [] [] all = tt
certificates budget [] (cert ∷ certs) all = absurd all
certificates budget (system ∷ systems) [] all = absurd all
certificates budget (system ∷ systems) (cert ∷ certs) all = (all.0.1, certificates budget systems certs all.1)

-- an answer that is neither a failure nor left open
kept : (budget : ℕ) (systems : List LinearSystem) (answer : ObAnswer) → IsAnswer budget systems answer → is_failure answer ≡ false → is_left answer ≡ false → Keeps systems answer
kept budget systems (answer.Holds certs) is no_failure not_left = certificates budget systems certs is
kept budget systems (answer.Fails point) is no_failure not_left = absurd (let clash : ⊥ = cc in clash)
kept budget systems (answer.Undecided points) is no_failure not_left = absurd (let clash : ⊥ = cc in clash)

decided : (budget : ℕ) (systems : List LinearSystem) (certs : List Cert) → AllRefuted budget systems certs → AllByRecursion (MayBeDecided budget) systems
decided budget [] [] all = tt
decided budget [] (cert ∷ certs) all = absurd all
decided budget (system ∷ systems) [] all = absurd all
decided budget (system ∷ systems) (cert ∷ certs) all = (all.0.0, decided budget systems certs all.1)

-- and its systems could be decided
decided_by : (budget : ℕ) (systems : List LinearSystem) (answer : ObAnswer) → IsAnswer budget systems answer → Keeps systems answer → AllByRecursion (MayBeDecided budget) systems
decided_by budget systems (answer.Holds certs) is keeps = decided budget systems certs is
decided_by budget systems (answer.Fails point) is keeps = absurd keeps
decided_by budget systems (answer.Undecided points) is keeps = absurd keeps

neither : (a b : Bool) → (a || b) ≡ false → (a ≡ false) × (b ≡ false)
neither true b e = absurd (let clash : ⊥ = cc in clash)
neither false b e = (refl, e)

-- the trees of the certificates that an answer keeps
abbrev pub trees_of : ObAnswer → List CertTree
trees_of (answer.Holds certs) = map cert_tree certs
trees_of (answer.Fails point) = []
trees_of (answer.Undecided points) = []

pub refuted_trees : (systems : List LinearSystem) (certs : List Cert) → AllZip (λ (system : LinearSystem) (cert : Cert). Refutes system (cert_tree cert)) systems certs
    → AllZip Refutes systems (map cert_tree certs)
refuted_trees [] [] all = tt
refuted_trees [] (cert ∷ certs) all = absurd all
refuted_trees (system ∷ systems) [] all = absurd all
refuted_trees (system ∷ systems) (cert ∷ certs) all = (all.0, refuted_trees systems certs all.1)

pub kept_trees : (systems : List LinearSystem) (answer : ObAnswer) → Keeps systems answer → AllZip Refutes systems (trees_of answer)
kept_trees systems (answer.Holds certs) keeps = refuted_trees systems certs keeps
kept_trees systems (answer.Fails point) keeps = absurd keeps
kept_trees systems (answer.Undecided points) keeps = absurd keeps

module _ (p : Meaning) where
  all_kept : (budget : ℕ) (answers : List Answered) → AllByRecursion (Answers p budget) answers → some_fails answers ≡ false → some_is_left answers ≡ false
      → AllByRecursion (KeepsCertificates p) answers
  all_kept budget [] all none_fails none_left = tt
  all_kept budget (answered ∷ answers) all none_fails none_left =
      let fails = neither (is_failure answered.answer) (some_fails answers) none_fails in
      let left = neither (is_left answered.answer) (some_is_left answers) none_left in
      (kept budget (systems_of p (statement_of answered.name)) answered.answer all.0 fails.0 left.0, all_kept budget answers all.1 fails.1 left.1)

  pub keep_all : (budget : ℕ) (answers : List Answered) → AreAnswers p budget answers → some_fails answers ≡ false → some_is_left answers ≡ false → KeepAll p answers
  keep_all budget answers all none_fails none_left = record { names = all.names; each = all_kept budget answers all.each none_fails none_left }

  certified_all : (answers : List Answered) → AllByRecursion (KeepsCertificates p) answers
      → AllZip (Certifies p) (map (λ (answered : Answered). answered.name) answers) (map (λ (answered : Answered). trees_of answered.answer) answers)
  certified_all [] all = tt
  certified_all (answered ∷ answers) all = (kept_trees (systems_of p (statement_of answered.name)) answered.answer all.0, certified_all answers all.1)

  -- a policy whose certificates are kept is certified
  pub certified_by : (answers : List Answered) → KeepAll p answers → IsCertified p
  certified_by answers all = (
    map (λ (answered : Answered). trees_of answered.answer) answers,
    subst (λ (names : List ObName). AllZip (Certifies p) names (map (λ (answered : Answered). trees_of answered.answer) answers)) all.names (certified_all answers all.each),
  )

  decided_all : (budget : ℕ) (answers : List Answered) → AllByRecursion (Answers p budget) answers → AllByRecursion (KeepsCertificates p) answers
      → MayAllBeDecided p budget (map (λ (answered : Answered). answered.name) answers)
  decided_all budget [] all keep = tt
  decided_all budget (answered ∷ answers) all keep =
      (decided_by budget (systems_of p (statement_of answered.name)) answered.answer all.0 keep.0, decided_all budget answers all.1 keep.1)

  -- and accepted under the budget of the answers
  pub accepted_by : (budget : ℕ) (answers : List Answered) → AreAnswers p budget answers → KeepAll p answers → IsCertifiedUnder p budget
  accepted_by budget answers are all = record {
    certified = certified_by answers all;
    decided = subst (MayAllBeDecided p budget) all.names (decided_all budget answers are.each all.each);
  }
