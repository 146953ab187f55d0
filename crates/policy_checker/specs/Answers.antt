-- What the answer to an obligation is worth. The systems are those of the obligation, in their order.
use Rattle.std.specs.Prelude.{◌≡◌, ◌⊎◌, ◌+◌, ◌*◌, ◌^◌, ◌<◌, ◌≤◌, ℕ, ℤ, List, [], ◌∷◌, Option, length}
use Rattle.std.specs.List.{AllByRecursion, AllZip}
use Rattle.linear_form.specs.Difference.{IsDifference}
use Rattle.linear_form.specs.Solution.{Solves}
use Rattle.linear_form.specs.System.{LinearSystem}
use Rattle.linear_cert.specs.declared.cert.Cert.{Cert}
use Rattle.linear_cert.specs.Right.{CertTree, cert_tree}
use Rattle.linear_solver.specs.Decides.{IsNumberOfPoints, MayStayOpen}
use Rattle.linear_solver.specs.Looks.{most_looks}
use Rattle.linear_solver.specs.declared.answer.Answer.{Answer}
use Rattle.linear_solver.specs.declared.answer.Answer.TheVariants as found
use Rattle.policy_checker.specs.Refuted.{Refutes}
use Rattle.policy_checker.specs.declared.answer.ObAnswer.{ObAnswer}
use Rattle.policy_checker.specs.declared.answer.ObAnswer.TheVariants as answer

-- Under a budget of 0 nothing but systems of differences is decided.
abbrev pub MayBeDecided : ℕ → LinearSystem → Type 0
MayBeDecided budget system = budget ≡ 0 → IsDifference system.rows

-- a certificate refutes the system
abbrev pub IsRefuted : ℕ → LinearSystem → Type 0
IsRefuted budget system = MayBeDecided budget system × ((tree : CertTree) × Refutes system tree)

-- the point solves the system
abbrev pub IsSolved : ℕ → LinearSystem → List ℤ → Type 0
IsSolved budget system point = MayBeDecided budget system × Solves system.bounds system.rows point

-- Under this budget the system may be left undecided: some row is no difference, the ranges have more points than the
-- budget, and unless the budget is 0, elimination doesn't refute the system.
pub record IsLeft (budget : ℕ) (system : LinearSystem) : Type 0 where
  pub no_differences : IsDifference system.rows → ⊥
  pub stays : MayStayOpen system.bounds system.rows budget

-- no solution of the system was found
abbrev pub IsPassed : ℕ → LinearSystem → Type 0
IsPassed budget system = IsRefuted budget system ⊎ IsLeft budget system

-- what is found of one system
abbrev pub IsFound : ℕ → LinearSystem → Answer → Type 0
IsFound budget system (found.Holds cert) = MayBeDecided budget system × Refutes system (cert_tree cert)
IsFound budget system (found.Fails point) = IsSolved budget system point.vals
IsFound budget system (found.Undecided points) = IsLeft budget system × IsNumberOfPoints system.bounds points

-- Each system has its certificate.
abbrev pub AllRefuted : ℕ → List LinearSystem → List Cert → Type 0
AllRefuted budget systems certs =
    AllZip (λ (system : LinearSystem) (cert : Cert). IsFound budget system (found.Holds cert)) systems certs

-- The point solves a system, and of none before that one a solution was found.
abbrev pub IsFirstSolved : ℕ → List LinearSystem → List ℤ → Type 0
IsFirstSolved budget [] point = ⊥
IsFirstSolved budget (system ∷ systems) point =
    IsSolved budget system point ⊎ (IsPassed budget system × IsFirstSolved budget systems point)

-- A system is left undecided, whose ranges have so many points. Those before it are refuted, and of none behind it a
-- solution was found.
abbrev pub IsFirstLeft : ℕ → List LinearSystem → Option ℕ → Type 0
IsFirstLeft budget [] points = ⊥
IsFirstLeft budget (system ∷ systems) points =
    ((IsLeft budget system × IsNumberOfPoints system.bounds points) × AllByRecursion (IsPassed budget) systems)
    ⊎ (IsRefuted budget system × IsFirstLeft budget systems points)

-- That is an answer to an obligation with these systems.
abbrev pub IsAnswer : ℕ → List LinearSystem → ObAnswer → Type 0
IsAnswer budget systems (answer.Holds certs) = AllRefuted budget systems certs
IsAnswer budget systems (answer.Fails point) = IsFirstSolved budget systems point.vals
IsAnswer budget systems (answer.Undecided points) = IsFirstLeft budget systems points

-- That are few boxes to look at for an answer: for each system no more than one question may take.
abbrev pub HasFewLooks : ℕ → List LinearSystem → ℕ → Type 0
HasFewLooks budget systems looks = looks ≤ length systems * most_looks budget

-- one certificate more has room in the list
abbrev pub HasRoom : ObAnswer → Type 0
HasRoom (answer.Holds certs) = length certs + 1 < 2 ^ 32
HasRoom (answer.Fails point) = Unit {0}
HasRoom (answer.Undecided points) = Unit {0}
