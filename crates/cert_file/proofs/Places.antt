-- The first place where certificates are wrong.
use Rattle.std.proofs.Common.{◌≡◌, inl, inr, ℕ, zero, suc, ◌<◌, ◌≤◌, List, [], ◌∷◌, ◌++◌, Option, Some, None, length, get_or, append_assoc, ap, sym, subst, ◌∙◌, refl, arith}
use Rattle.std.specs.List.{AllZip}
use Rattle.std.proofs.lemmas.List.{append-nil}
use Rattle.linear_form.specs.System.{LinearSystem}
use Rattle.linear_cert.specs.Right.{CertTree, IsRight, IsShallow}
use Rattle.policy_tree.specs.Meaning.{Meaning}
use Rattle.obligations.specs.declared.names.ObName.{ObName}
use Rattle.obligations.specs.Names.{statement_of}
use Rattle.obligations.specs.Systems.{systems_of}
use Rattle.policy_checker.specs.Certified.{Certifies}
use Rattle.policy_checker.specs.Refuted.{Refutes}
use Rattle.cert_file.specs.Reading.{AreRight, HasRightAt, IsFoundIn, IsFoundOf, count_trees, first_of}
use Rattle.cert_file.specs.Wrong.{IsFirstWrong, IsFirstWrongOf, count_systems}

-- one certificate more that is right
right_more : (systems : List LinearSystem) (trees : List CertTree) (tree : CertTree) → AreRight systems trees → HasRightAt systems (length trees) tree → IsShallow tree
    → AreRight systems (trees ++ tree ∷ [])
right_more [] [] tree are right shallow = absurd right
right_more [] (t ∷ trees) tree are right shallow = absurd are
right_more (system ∷ systems) [] tree are right shallow = (record { right = right; shallow = shallow }, tt)
right_more (system ∷ systems) (t ∷ trees) tree are right shallow = (are.0, right_more systems trees tree are.1 right shallow)

-- one that isn't
wrong_more : (systems : List LinearSystem) (trees : List CertTree) (tree : CertTree) → AreRight systems trees → (HasRightAt systems (length trees) tree → ⊥)
    → (more : List CertTree) → IsFirstWrong systems (trees ++ tree ∷ more) (length trees)
wrong_more [] [] tree are not_right more = refl
wrong_more [] (t ∷ trees) tree are not_right more = absurd are
wrong_more (system ∷ systems) [] tree are not_right more = λ refutes. not_right refutes.right
wrong_more (system ∷ systems) (t ∷ trees) tree are not_right more = (are.0, wrong_more systems trees tree are.1 not_right more)

pub found_right : (systems : List LinearSystem) (trees : List CertTree) (tree : CertTree) (place : ℕ) → length trees ≡ place → AreRight systems trees → HasRightAt systems place tree → IsShallow tree
    → AreRight systems (trees ++ tree ∷ [])
found_right systems trees tree place count are right shallow =
    right_more systems trees tree are (subst (λ (k : ℕ). HasRightAt systems k tree) (sym count) right) shallow

pub found_wrong : (systems : List LinearSystem) (trees : List CertTree) (tree : CertTree) (place : ℕ) → length trees ≡ place → AreRight systems trees → (HasRightAt systems place tree → ⊥)
    → (more : List CertTree) → IsFirstWrong systems ((trees ++ tree ∷ []) ++ more) place
found_wrong systems trees tree place count are not_right more =
    let here = wrong_more systems trees tree are (λ right. not_right (subst (λ (k : ℕ). HasRightAt systems k tree) count right)) more in
    subst (λ (ts : List CertTree). IsFirstWrong systems ts place) (sym (append_assoc trees (tree ∷ []) more))
    (subst (λ (k : ℕ). IsFirstWrong systems (trees ++ tree ∷ more) k) count here)

pub found_before : (systems : List LinearSystem) (trees : List CertTree) (tree : CertTree) (place : ℕ) → ((more : List CertTree) → IsFirstWrong systems (trees ++ more) place)
    → (more : List CertTree) → IsFirstWrong systems ((trees ++ tree ∷ []) ++ more) place
found_before systems trees tree place wrong more =
    subst (λ (ts : List CertTree). IsFirstWrong systems ts place) (sym (append_assoc trees (tree ∷ []) more)) (wrong (tree ∷ more))

-- the certificate at a place
pub right_there : (systems : List LinearSystem) (place : ℕ) (tree : CertTree) (system : LinearSystem) → place < length systems → system ≡ get_or systems place system
    → (HasRightAt systems place tree → IsRight system.bounds system.rows tree) × (IsRight system.bounds system.rows tree → HasRightAt systems place tree)
right_there [] place tree system lt is = absurd (omega (arith, lt))
right_there (first ∷ systems) zero tree system lt is =
    (λ right. subst (λ (s : LinearSystem). IsRight s.bounds s.rows tree) (sym is) right, λ right. subst (λ (s : LinearSystem). IsRight s.bounds s.rows tree) is right)
right_there (first ∷ systems) (suc place) tree system lt is = right_there systems place tree system (omega (arith, lt)) is

pub none_there : (systems : List LinearSystem) (place : ℕ) (tree : CertTree) → length systems ≤ place → HasRightAt systems place tree → ⊥
none_there [] place tree le right = right
none_there (first ∷ systems) zero tree le right = omega (arith, le)
none_there (first ∷ systems) (suc place) tree le right = none_there systems place tree (omega (arith, le)) right

-- what is found at the end
missing_end : (systems : List LinearSystem) (trees : List CertTree) → AreRight systems trees → length trees < length systems → IsFirstWrong systems trees (length trees)
missing_end [] [] are few = absurd (omega (arith, few))
missing_end [] (tree ∷ trees) are few = absurd are
missing_end (system ∷ systems) [] are few = refl
missing_end (system ∷ systems) (tree ∷ trees) are few = (are.0, missing_end systems trees are.1 (omega (arith, few)))

pub found_missing : (systems : List LinearSystem) (trees : List CertTree) (count : ℕ) → length trees ≡ count → AreRight systems trees → count < length systems → IsFirstWrong systems trees count
found_missing systems trees count same are few =
    subst (λ (k : ℕ). IsFirstWrong systems trees k) same (missing_end systems trees are (omega (arith, same, few)))

pub found_all : (systems : List LinearSystem) (trees : List CertTree) → AreRight systems trees → length systems ≤ length trees → AllZip Refutes systems trees
found_all [] [] are enough = tt
found_all [] (tree ∷ trees) are enough = absurd are
found_all (system ∷ systems) [] are enough = absurd (omega (arith, enough))
found_all (system ∷ systems) (tree ∷ trees) are enough = (are.0, found_all systems trees are.1 (omega (arith, enough)))

pub found_whole : (systems : List LinearSystem) (trees : List CertTree) (place : ℕ) → ((more : List CertTree) → IsFirstWrong systems (trees ++ more) place) → IsFirstWrong systems trees place
found_whole systems trees place wrong = subst (λ (ts : List CertTree). IsFirstWrong systems ts place) (append-nil trees) (wrong [])

-- there is one first wrong place, and none where all are right
pub same_place : (systems : List LinearSystem) (trees : List CertTree) (one two : ℕ) → IsFirstWrong systems trees one → IsFirstWrong systems trees two → one ≡ two
same_place [] [] one two first second = absurd first
same_place [] (tree ∷ trees) one two first second = first ∙ sym second
same_place (system ∷ systems) [] one two first second = first ∙ sym second
same_place (system ∷ systems) (tree ∷ trees) zero zero first second = refl
same_place (system ∷ systems) (tree ∷ trees) zero (suc two) first second = absurd (first second.0)
same_place (system ∷ systems) (tree ∷ trees) (suc one) zero first second = absurd (second first.0)
same_place (system ∷ systems) (tree ∷ trees) (suc one) (suc two) first second = ap (λ k. suc k) (same_place systems trees one two first.1 second.1)

pub none_wrong : (systems : List LinearSystem) (trees : List CertTree) (place : ℕ) → AllZip Refutes systems trees → IsFirstWrong systems trees place → ⊥
none_wrong [] [] place right wrong = wrong
none_wrong [] (tree ∷ trees) place right wrong = absurd right
none_wrong (system ∷ systems) [] place right wrong = absurd right
none_wrong (system ∷ systems) (tree ∷ trees) zero right wrong = wrong right.0
none_wrong (system ∷ systems) (tree ∷ trees) (suc place) right wrong = none_wrong systems trees place right.1 wrong.1

module _ (p : Meaning) where
  -- the same of obligations
  pub none_wrong_of : (names : List ObName) (lists : List (List CertTree)) (other : ObName) (place : ℕ) → AllZip (Certifies p) names lists → IsFirstWrongOf p names lists other place → ⊥
  none_wrong_of [] lists other place right wrong = wrong
  none_wrong_of (name ∷ names) [] other place right wrong = wrong
  none_wrong_of (name ∷ names) (trees ∷ lists) other place right (inl here) = none_wrong (systems_of p (statement_of name)) trees place right.0 here.1
  none_wrong_of (name ∷ names) (trees ∷ lists) other place right (inr later) = none_wrong_of names lists other place right.1 later.1

  pub same_wrong : (names : List ObName) (lists : List (List CertTree)) (one two : ObName) (first second : ℕ) → IsFirstWrongOf p names lists one first → IsFirstWrongOf p names lists two second
      → (one ≡ two) × (first ≡ second)
  same_wrong [] lists one two first second wrong worse = absurd wrong
  same_wrong (name ∷ names) [] one two first second wrong worse = absurd wrong
  same_wrong (name ∷ names) (trees ∷ lists) one two first second (inl here) (inl there) =
      (here.0 ∙ sym there.0, same_place (systems_of p (statement_of name)) trees first second here.1 there.1)
  same_wrong (name ∷ names) (trees ∷ lists) one two first second (inl here) (inr later) = absurd (none_wrong (systems_of p (statement_of name)) trees first later.0 here.1)
  same_wrong (name ∷ names) (trees ∷ lists) one two first second (inr later) (inl here) = absurd (none_wrong (systems_of p (statement_of name)) trees second later.0 here.1)
  same_wrong (name ∷ names) (trees ∷ lists) one two first second (inr later) (inr behind) = same_wrong names lists one two first second later.1 behind.1

  -- where all are right, there are as many certificates as systems
  same_length : (systems : List LinearSystem) (trees : List CertTree) → AllZip Refutes systems trees → length trees ≡ length systems
  same_length [] [] right = refl
  same_length [] (tree ∷ trees) right = absurd right
  same_length (system ∷ systems) [] right = absurd right
  same_length (system ∷ systems) (tree ∷ trees) right = ap (λ k. suc k) (same_length systems trees right.1)

  pub same_count : (names : List ObName) (lists : List (List CertTree)) → AllZip (Certifies p) names lists → count_trees lists ≡ count_systems p names
  same_count [] [] right = refl
  same_count [] (trees ∷ lists) right = absurd right
  same_count (name ∷ names) [] right = absurd right
  same_count (name ∷ names) (trees ∷ lists) right = omega (arith, same_length (systems_of p (statement_of name)) trees right.0, same_count names lists right.1)

  -- what is found of an obligation and of those behind it
  pub found_both : (name : ObName) (names : List ObName) (trees : List CertTree) (lists : List (List CertTree)) (wrong : Option ℕ) (later : Option (ObName × ℕ))
      → IsFoundIn (systems_of p (statement_of name)) trees wrong → IsFoundOf p names lists later → IsFoundOf p (name ∷ names) (trees ∷ lists) (first_of name wrong later)
  found_both name names trees lists (Some place) later found behind = inl (refl, found)
  found_both name names trees lists None (Some other) found behind = inr (found, behind)
  found_both name names trees lists None None found behind = (found, behind)
