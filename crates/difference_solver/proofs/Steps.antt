-- What a step does to one distance.
use Rattle.std.proofs.Common.{◌≡◌, ◌≢◌, ℕ, ◌<◌, true, false, ◌==◌, ◌+ℤ◌, ◌≤ℤ◌, ◌<ℤ◌, int_lt, FitsSigned, refl, arith}
use Rattle.std.specs.Int.{w128}
use Rattle.std.proofs.lemmas.Int.{ints}
use Rattle.std.proofs.lemmas.Bool.Decides.{nat_tests}
use Rattle.difference_solver.specs.declared.distance.Distance.{Distance}
use Rattle.difference_solver.specs.Distance.{joined}
use Rattle.difference_solver.specs.Distances.{Table, between, Puts}
use Rattle.difference_solver.specs.Passing.{passed, shorter, IsSmall, AreSmall}

module _ (middle : ℕ) (table : Table) where
  -- the distances to the middle and from it stay
  pub to_middle : (i : ℕ) → passed middle table i middle ≡ between table i middle
  to_middle i = grind (arith, nat_tests)

  pub from_middle : (j : ℕ) → passed middle table middle j ≡ between table middle j
  from_middle j = grind (arith, nat_tests)

  -- another one goes over the middle, where that is less
  pub over_middle : (i j : ℕ) → i ≢ middle → j ≢ middle → passed middle table i j ≡ shorter (between table i middle) (between table middle j) (between table i j)
  over_middle i j ni nj =
      let ei : (i == middle) ≡ false = grind (arith, nat_tests) in
      let ej : (j == middle) ≡ false = grind (arith, nat_tests) in
      rw (ei, ej) refl

-- one distance behind another is less, or it isn't
pub joins : (first second distance : Distance) → (first.bound +ℤ second.bound) <ℤ distance.bound → shorter first second distance ≡ joined first second
joins first second distance less =
    let test : int_lt (first.bound +ℤ second.bound) distance.bound ≡ true = grind (arith, ints) in
    rw test refl

pub stays : (first second distance : Distance) → distance.bound ≤ℤ (first.bound +ℤ second.bound) → shorter first second distance ≡ distance
stays first second distance enough =
    let test : int_lt (first.bound +ℤ second.bound) distance.bound ≡ false = grind (arith, ints) in
    rw test refl

-- two small distances add up
pub sum_fits : (first second : Distance) → IsSmall first → IsSmall second → FitsSigned w128 (first.bound +ℤ second.bound)
sum_fits first second small_first small_second = omega (arith, ints, small_first.low, small_second.low)

-- the distances to the middle and from it are the same in a table that has been passed in part
pub kept_small : (middle : ℕ) (old new : Table) → new.size ≡ old.size → AreSmall middle old → ((k : ℕ) → k < old.size → between new k middle ≡ between old k middle) → ((k : ℕ) → k < old.size → between new middle k ≡ between old middle k) → AreSmall middle new
kept_small middle old new size small to from k lt =
    let within : k < old.size = omega arith in
    (rw (to k within) (small k within).0, rw (from k within) (small k within).1)

-- the step on equal distances
pub same_passed : (middle : ℕ) (one other : Table) (i j : ℕ) → between one i middle ≡ between other i middle → between one middle j ≡ between other middle j → between one i j ≡ between other i j → passed middle one i j ≡ passed middle other i j
same_passed middle one other i j first second own = rw (first, second, own) refl

-- a distance that is put where it is already
pub puts_nothing : (table : Table) (from to : ℕ) (distance : Distance) → distance ≡ between table from to → Puts table table from to distance
puts_nothing table from to distance same = record { size = refl; here = cc; others = λ i j li lj differ. refl }
