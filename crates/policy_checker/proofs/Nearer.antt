-- No value is farther from 0: this holds of a list and itself, and goes on from list to list.
use Rattle.std.proofs.Common.{ℤ, List, [], ◌∷◌, arith}
use Rattle.linear_form.specs.Solution.{Solves}
use Rattle.linear_form.specs.System.{LinearSystem}
use Rattle.policy_checker.specs.Smaller.{AreNearer, IsSmaller}

pub nearer_self : (xs : List ℤ) → AreNearer xs xs
nearer_self [] = tt
nearer_self (x ∷ xs) = (omega arith, nearer_self xs)

pub nearer_on : (xs ys zs : List ℤ) → AreNearer xs ys → AreNearer ys zs → AreNearer xs zs
nearer_on [] [] [] first second = tt
nearer_on [] [] (z ∷ zs) first second = absurd second
nearer_on [] (y ∷ ys) zs first second = absurd first
nearer_on (x ∷ xs) [] zs first second = absurd first
nearer_on (x ∷ xs) (y ∷ ys) [] first second = absurd second
nearer_on (x ∷ xs) (y ∷ ys) (z ∷ zs) first second =
    let a = first.0 in
    let b = second.0 in
    (omega (arith, a, b), nearer_on xs ys zs first.1 second.1)

-- a solution is no farther than itself
pub begins : {system : LinearSystem} {point : List ℤ} → Solves system.bounds system.rows point → IsSmaller system point point
begins {system} {point} solves = record { solves = solves; nearer = nearer_self point }

-- a solution that is made smaller once more
pub goes_on : {system : LinearSystem} {point once twice : List ℤ} → IsSmaller system point once → IsSmaller system once twice → IsSmaller system point twice
goes_on {system} {point} {once} {twice} first second = record { solves = second.solves; nearer = nearer_on twice once point second.nearer first.nearer }
