-- The answer at the place of an obligation is that obligation's own, and keeps its certificates.
use Rattle.std.proofs.Common.{◌≡◌, ℕ, zero, suc, List, [], ◌∷◌, Some, map, slice_get, subst, sym}
use Rattle.std.specs.List.{AllByRecursion}
use Rattle.linear_cert.specs.declared.cert.Cert.{Cert}
use Rattle.linear_cert.specs.Right.{cert_tree}
use Rattle.policy_tree.specs.Meaning.{Meaning}
use Rattle.obligations.specs.declared.names.ObName.{ObName}
use Rattle.obligations.specs.Names.{ob_names, statement_of}
use Rattle.obligations.specs.Systems.{systems_of}
use Rattle.policy_checker.specs.Certified.{Certifies, KeepAll, Keeps, KeepsCertificates}
use Rattle.policy_checker.specs.declared.answer.Answered.{Answered}
use Rattle.policy_checker.specs.declared.answer.ObAnswer.TheVariants as answer
use Rattle.policy_checker.proofs.Kept.{refuted_trees}

abbrev names_of : List Answered → List ObName
names_of answers = map (λ (answered : Answered). answered.name) answers

at_place : (p : Meaning) (answers : List Answered) (place : ℕ) (a : Answered) (ob : ObName) → slice_get answers place ≡ Some a
    → slice_get (names_of answers) place ≡ Some ob → AllByRecursion (KeepsCertificates p) answers → (a.name ≡ ob) × KeepsCertificates p a
at_place p [] place a ob there named all = absurd (let clash : ⊥ = cc there in clash)
at_place p (x ∷ xs) zero a ob there named all =
    let same : x ≡ a = cc there in
    let name : x.name ≡ ob = cc named in
    (subst (λ (y : Answered). y.name ≡ ob) same name, subst (KeepsCertificates p) same all.0)
at_place p (x ∷ xs) (suc place) a ob there named all = at_place p xs place a ob there named all.1

-- the answer there
pub kept_there : (p : Meaning) (answers : List Answered) (place : ℕ) (ob : ObName) (a : Answered) → KeepAll p answers → slice_get ob_names place ≡ Some ob
    → slice_get answers place ≡ Some a → Keeps (systems_of p (statement_of ob)) a.answer
kept_there p answers place ob a all there is =
    let named = subst (λ (names : List ObName). slice_get names place ≡ Some ob) (sym all.names) there in
    let found = at_place p answers place a ob is named all.each in
    subst (λ (name : ObName). Keeps (systems_of p (statement_of name)) a.answer) found.0 found.1

-- its certificates
pub certifies_there : (p : Meaning) (ob : ObName) (certs : List Cert) → Keeps (systems_of p (statement_of ob)) (answer.Holds certs) → Certifies p ob (map cert_tree certs)
certifies_there p ob certs keeps = refuted_trees (systems_of p (statement_of ob)) certs keeps
