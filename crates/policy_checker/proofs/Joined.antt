-- The answer to some systems, and to one more.
use Rattle.std.proofs.Common.{◌≡◌, ℕ, ◌+◌, ◌<◌, ◌^◌, ℤ, ◌⊎◌, true, length, take, drop, arith, subst, inl, inr, List, [], ◌∷◌, ◌++◌, Option}
use Rattle.std.specs.List.{AllByRecursion}
use Rattle.std.proofs.lemmas.List.{take-append-drop}
use Rattle.std.proofs.lemmas.Slice.Zip.{AllZip-long}
use Rattle.linear_form.specs.System.{LinearSystem}
use Rattle.linear_cert.specs.declared.cert.Cert.{Cert}
use Rattle.linear_cert.specs.Right.{cert_tree}
use Rattle.linear_solver.specs.Decides.{IsNumberOfPoints}
use Rattle.linear_solver.specs.declared.answer.Answer.{Answer}
use Rattle.linear_solver.specs.declared.answer.Answer.TheVariants as found
use Rattle.policy_checker.specs.Verdicts.{is_failure}
use Rattle.policy_checker.specs.declared.answer.ObAnswer.{ObAnswer}
use Rattle.policy_checker.specs.declared.answer.ObAnswer.TheVariants as answer
use Rattle.policy_checker.specs.Answers.{AllRefuted, HasRoom, IsAnswer, IsFirstLeft, IsFirstSolved, IsFound, IsLeft, IsPassed, IsRefuted, IsSolved}

-- the certificate of a system among those of the obligation
abbrev Keeps : ℕ → LinearSystem → Cert → Type 0
Keeps budget system cert = IsFound budget system (found.Holds cert)

module _ (budget : ℕ) where
  pub refuted_by : (system : LinearSystem) (cert : Cert) → Keeps budget system cert → IsRefuted budget system
  refuted_by system cert is = (is.0, (cert_tree cert, is.1))

  pub passed_all : (systems : List LinearSystem) (certs : List Cert) → AllRefuted budget systems certs → AllByRecursion (IsPassed budget) systems
  passed_all [] [] all = tt
  passed_all [] (cert ∷ certs) all = absurd all
  passed_all (system ∷ systems) [] all = absurd all
  passed_all (system ∷ systems) (cert ∷ certs) all = (inl (refuted_by system cert all.0), passed_all systems certs all.1)

  pub passed_left : (systems : List LinearSystem) (points : Option ℕ) → IsFirstLeft budget systems points → AllByRecursion (IsPassed budget) systems
  passed_left [] points is = absurd is
  passed_left (system ∷ systems) points (inl here) = (inr here.0.0, here.1)
  passed_left (system ∷ systems) points (inr later) = (inl later.0, passed_left systems points later.1)

  -- what is known of a front is known of the whole
  pub solved_longer : (systems more : List LinearSystem) (point : List ℤ) → IsFirstSolved budget systems point → IsFirstSolved budget (systems ++ more) point
  solved_longer [] more point is = absurd is
  solved_longer (system ∷ systems) more point (inl here) = inl here
  solved_longer (system ∷ systems) more point (inr later) = inr (later.0, solved_longer systems more point later.1)

  -- the point of the next system
  pub solved_next : (systems : List LinearSystem) (system : LinearSystem) (point : List ℤ) → AllByRecursion (IsPassed budget) systems → IsSolved budget system point
      → IsFirstSolved budget (systems ++ system ∷ []) point
  solved_next [] system point passed is = inl is
  solved_next (first ∷ systems) system point passed is = inr (passed.0, solved_next systems system point passed.1 is)

  passed_next : (systems : List LinearSystem) (system : LinearSystem) → AllByRecursion (IsPassed budget) systems → IsPassed budget system
      → AllByRecursion (IsPassed budget) (systems ++ system ∷ [])
  passed_next [] system passed is = (is, tt)
  passed_next (first ∷ systems) system passed is = (passed.0, passed_next systems system passed.1 is)

  -- a system that was left undecided stays the first
  pub left_longer : (systems : List LinearSystem) (system : LinearSystem) (points : Option ℕ) → IsFirstLeft budget systems points → IsPassed budget system
      → IsFirstLeft budget (systems ++ system ∷ []) points
  left_longer [] system points is next = absurd is
  left_longer (first ∷ systems) system points (inl here) next = inl (here.0, passed_next systems system here.1 next)
  left_longer (first ∷ systems) system points (inr later) next = inr (later.0, left_longer systems system points later.1 next)

  -- the next system is the first that is left undecided
  pub left_next : (systems : List LinearSystem) (certs : List Cert) (system : LinearSystem) (points : Option ℕ) → AllRefuted budget systems certs
      → IsLeft budget system × IsNumberOfPoints system.bounds points → IsFirstLeft budget (systems ++ system ∷ []) points
  left_next [] [] system points all is = inl (is, tt)
  left_next [] (cert ∷ certs) system points all is = absurd all
  left_next (first ∷ systems) [] system points all is = absurd all
  left_next (first ∷ systems) (cert ∷ certs) system points all is = inr (refuted_by first cert all.0, left_next systems certs system points all.1 is)

  -- of a system that was certified or left undecided no point was found
  pub passed_if : (system : LinearSystem) (a : Answer) → IsFound budget system a
      → ((cert : Cert) × (a ≡ found.Holds cert)) ⊎ ((points : Option ℕ) × (a ≡ found.Undecided points)) → IsPassed budget system
  passed_if system a is (inl held) =
      let here : IsFound budget system (found.Holds held.0) = subst (IsFound budget system) held.1 is in inl (refuted_by system held.0 here)
  passed_if system a is (inr left) =
      let here : IsFound budget system (found.Undecided left.0) = subst (IsFound budget system) left.1 is in inr here.0

-- there is room for one certificate more
pub has_room : (budget : ℕ) (systems : List LinearSystem) (a : ObAnswer) → IsAnswer budget systems a → length systems + 1 < 2 ^ 32 → HasRoom a
has_room budget systems (answer.Holds certs) all few =
    let long = AllZip-long (λ s cert. IsFound budget s (found.Holds cert)) systems certs all in omega arith
has_room budget systems (answer.Fails point) is few = tt
has_room budget systems (answer.Undecided points) is few = tt

-- a point for the first systems is one for all
pub failing_whole : (budget n : ℕ) (systems : List LinearSystem) (a : ObAnswer) → is_failure a ≡ true → IsAnswer budget (take n systems) a → IsAnswer budget systems a
failing_whole budget n systems (answer.Holds certs) fails is = absurd (let clash : ⊥ = cc in clash)
failing_whole budget n systems (answer.Fails point) fails is =
    subst (λ (xs : List LinearSystem). IsFirstSolved budget xs point.vals) (take-append-drop n systems) (solved_longer budget (take n systems) (drop n systems) point.vals is)
failing_whole budget n systems (answer.Undecided points) fails is = absurd (let clash : ⊥ = cc in clash)
