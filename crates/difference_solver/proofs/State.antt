-- What a step keeps: each distance is as it was, or less and over the node in the middle.
use Rattle.std.proofs.Common.{◌≡◌, ◌≢◌, ℕ, zero, suc, ◌+◌, ◌*◌, ◌^◌, ◌<◌, ◌≤◌, max, List, length, ◌+ℤ◌, ◌≤ℤ◌, inl, inr, length-append, add-one, ap, sym, subst, ◌∙◌, refl, arith}
use Rattle.std.proofs.lemmas.Int.{ints, by_lt_z}
use Rattle.std.proofs.lemmas.Bool.{cases_eq}
use Rattle.std.proofs.lemmas.Nat.{pow-add, pow_pos}
use Rattle.std.proofs.lemmas.List.Elements.{All-weaker}
use Rattle.linear_form.specs.declared.form.Bound.{Bound}
use Rattle.linear_form.specs.declared.form.Row.{Row}
use Rattle.difference_solver.specs.declared.distance.Distance.{Distance}
use Rattle.difference_solver.specs.Distance.{joined}
use Rattle.difference_solver.specs.Distances.{Table, between}
use Rattle.difference_solver.specs.Meaning.{IsDistance, Keeps}
use Rattle.difference_solver.specs.Passing.{shorter, Passes}
use Rattle.difference_solver.specs.Closing.{IsState, IsShortBehind}
use Rattle.difference_solver.proofs.Steps.{over_middle, to_middle, from_middle, joins, stays}
use Rattle.difference_solver.proofs.Sums.{joined_is_distance}

-- a distance behind the step
pub data Moved (middle : ℕ) (old new : Table) (i j : ℕ) : Type 0 where
  still : between new i j ≡ between old i j → Moved middle old new i j
  moved : i ≢ middle → j ≢ middle → between new i j ≡ joined (between old i middle) (between old middle j) → (between new i j).bound ≤ℤ (between old i j).bound → Moved middle old new i j

-- a power of two is twice the one before it
pub twice : (k : ℕ) → 2 ^ suc k ≡ 2 * 2 ^ k
twice k = omega (arith, pow-add 2 1 k)

module _ (middle : ℕ) (old new : Table) (passes : Passes middle old new) (lm : middle < old.size) where
  pub to_still : (i : ℕ) → i < old.size → between new i middle ≡ between old i middle
  to_still i li = passes.each i middle li lm ∙ to_middle middle old i

  pub from_still : (j : ℕ) → j < old.size → between new middle j ≡ between old middle j
  from_still j lj = passes.each middle j lm lj ∙ from_middle middle old j

  over : (i j : ℕ) → i < old.size → j < old.size → i ≢ middle → j ≢ middle → between new i j ≡ shorter (between old i middle) (between old middle j) (between old i j)
  over i j li lj ni nj = passes.each i j li lj ∙ over_middle middle old i j ni nj

  -- no distance is more than the one over the middle was
  pub at_most : (i j : ℕ) → i < old.size → j < old.size → i ≢ middle → j ≢ middle → (between new i j).bound ≤ℤ ((between old i middle).bound +ℤ (between old middle j).bound)
  at_most i j li lj ni nj =
      let first = between old i middle in
      let second = between old middle j in
      let here = over i j li lj ni nj in
      by_lt_z (first.bound +ℤ second.bound) (between old i j).bound
      (λ less. omega (arith, ints, ap (λ (d : Distance). d.bound) (here ∙ joins first second (between old i j) less)))
      (λ enough. omega (arith, ints, enough, ap (λ (d : Distance). d.bound) (here ∙ stays first second (between old i j) enough)))

  pub cases_moved : (i j : ℕ) → i < old.size → j < old.size → Moved middle old new i j
  cases_moved i j li lj = elim (cases_eq i middle) [
    | inl row ↦ still (subst (λ k. between new k j ≡ between old k j) (sym row) (from_still j lj))
    | inr ni ↦ elim (cases_eq j middle) [
      | inl column ↦ still (subst (λ k. between new i k ≡ between old i k) (sym column) (to_still i li))
      | inr nj ↦
          let first = between old i middle in
          let second = between old middle j in
          let here = over i j li lj ni nj in
          by_lt_z (first.bound +ℤ second.bound) (between old i j).bound
          (λ less. let is = here ∙ joins first second (between old i j) less in moved ni nj is (omega (arith, ints, less, ap (λ (d : Distance). d.bound) is)))
          (λ enough. still (here ∙ stays first second (between old i j) enough))
    ]
  ]

  less_if : (i j : ℕ) → Moved middle old new i j → (between new i j).bound ≤ℤ (between old i j).bound
  less_if i j (still same) = omega (arith, ints, ap (λ (d : Distance). d.bound) same)
  less_if i j (moved ni nj is less) = less

  -- no distance grows
  pub no_more : (i j : ℕ) → i < old.size → j < old.size → (between new i j).bound ≤ℤ (between old i j).bound
  no_more i j li lj = less_if i j (cases_moved i j li lj)

  -- the rows that a step leaves add up to the same nodes
  distance_if : (bounds : List Bound) (rows : List Row) (i j : ℕ) → IsDistance bounds rows i middle (between old i middle) → IsDistance bounds rows middle j (between old middle j) → IsDistance bounds rows i j (between old i j) → Moved middle old new i j → IsDistance bounds rows i j (between new i j)
  distance_if bounds rows i j first second was (still same) = subst (IsDistance bounds rows i j) (sym same) was
  distance_if bounds rows i j first second was (moved ni nj is less) = subst (IsDistance bounds rows i j) (sym is) (joined_is_distance bounds rows i middle j _ _ first second)

  kept_if : (n : ℕ) (row : Row) → old.size ≡ n + 1 → Keeps n old row → Keeps n new row
  kept_if n row size keeps =
      let edge = keeps.edge in
      record {
        from = keeps.from;
        to = keeps.to;
        edge = edge;
        kept = omega (arith, ints, keeps.kept, no_more keeps.from keeps.to (omega (arith, edge.from_known)) (omega (arith, edge.to_known)));
      }

  pub next_state : (bounds : List Bound) (rows : List Row) → IsState bounds rows old → IsState bounds rows new
  next_state bounds rows state =
      let n = length bounds in
      let same = passes.size in
      let size = state.size in
      record {
        size = same ∙ size;
        distances = λ i j li lj. distance_if bounds rows i j (state.distances i middle (omega (arith, li)) lm) (state.distances middle j lm (omega (arith, lj))) (state.distances i j (omega (arith, li)) (omega (arith, lj))) (cases_moved i j (omega (arith, li)) (omega (arith, lj)));
        upper = λ v lv. omega (arith, ints, state.upper v lv, no_more v n (omega (arith, lv)) (omega arith));
        lower = λ v lv. omega (arith, ints, state.lower v lv, no_more n v (omega arith) (omega (arith, lv)));
        zero = omega (arith, ints, state.zero, no_more n n (omega arith) (omega arith));
        kept = All-weaker (Keeps n old) (Keeps n new) (λ row. kept_if n row size) rows state.kept;
      }

  -- from few rows come few rows
  short_if : (limit i j : ℕ) → length (between old i j).mults ≤ limit → length (between old i middle).mults + length (between old middle j).mults ≤ limit → Moved middle old new i j → length (between new i j).mults ≤ limit
  short_if limit i j own both (still same) = omega (arith, own, ap (λ (d : Distance). length d.mults) same)
  short_if limit i j own both (moved ni nj is less) =
      omega (arith, both, ap (λ (d : Distance). length d.mults) is, length-append (between old i middle).mults (between old middle j).mults)

  pub next_first : (origin : ℕ) → middle ≡ origin → IsShortBehind 0 origin old → IsShortBehind 1 origin new
  next_first origin same short =
      let same_size = passes.size in
      record {
        each = λ i j li lj.
            let first = (short.first refl i (omega (arith, li))).0 in
            let second = (short.first refl j (omega (arith, lj))).1 in
            short_if 2 i j (short.each i j (omega (arith, li)) (omega (arith, lj))) (subst (λ m. length (between old i m).mults + length (between old m j).mults ≤ 2) (sym same) (omega (arith, first, second))) (cases_moved i j (omega (arith, li)) (omega (arith, lj)));
        first = λ none. absurd (omega (arith, none));
      }

  pub next_short : (steps origin : ℕ) → IsShortBehind (suc steps) origin old → IsShortBehind (suc (suc steps)) origin new
  next_short steps origin short =
      let same_size = passes.size in
      record {
        each = λ i j li lj.
            let own = short.each i j (omega (arith, li)) (omega (arith, lj)) in
            let first = short.each i middle (omega (arith, li)) lm in
            let second = short.each middle j lm (omega (arith, lj)) in
            short_if (max 2 (2 ^ suc (suc steps))) i j (omega (arith, own, twice (suc steps))) (omega (arith, first, second, twice (suc steps), twice steps, pow_pos steps)) (cases_moved i j (omega (arith, li)) (omega (arith, lj)));
        first = λ none. absurd (omega (arith, none));
      }

-- one step more
pub one_short : (steps origin middle : ℕ) (old new : Table) → middle + steps ≡ origin → Passes middle old new → middle < old.size → IsShortBehind steps origin old → IsShortBehind (steps + 1) origin new
one_short zero origin middle old new place passes lm short = next_first middle old new passes lm origin (omega arith) short
one_short (suc steps) origin middle old new place passes lm short = rw add-one (next_short middle old new passes lm steps origin short)
