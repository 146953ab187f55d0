-- What the count of cases keeps while it goes along a chain. This serves the code alone.
use Rattle.std.specs.Prelude.{ℕ, ◌+◌, ◌*◌, ◌≤◌, List, [], ◌∷◌, map, true, false}
use Rattle.policy_tree.specs.Meaning.{CaseTree}
use Rattle.policy_tree.specs.Trees.{CondTree}
use Rattle.obligations.specs.Counts.{count_of}
use Rattle.obligations.specs.declared.counts.Tally.{Tally}
use Rattle.obligations.specs.declared.counts.TheConstants.{MAX_COUNT}

-- the count of a chain whose left end has so many cases
abbrev pub worth : Tally → ℕ → ℕ
worth tally n = tally.times * n + tally.plus

-- both numbers are ones that are reported
pub record IsSmall (tally : Tally) : Type 0 where
  pub times : tally.times ≤ MAX_COUNT
  pub plus : tally.plus ≤ MAX_COUNT

-- the guards of cases, in their order
abbrev pub guards_of : List CaseTree → List CondTree
guards_of cases = map (λ (c : CaseTree). c.guard) cases

-- the cases in which one of the conditions holds
abbrev pub any_count : List CondTree → ℕ
any_count [] = 0
any_count (c ∷ cs) = count_of true c + any_count cs

-- the cases in which two of them hold
abbrev pub pair_count : List CondTree → ℕ
pair_count [] = 0
pair_count (c ∷ cs) = count_of true c * any_count cs + pair_count cs

-- the cases in which none holds
abbrev pub gap_count : List CondTree → ℕ
gap_count [] = 1
gap_count (c ∷ cs) = count_of false c * gap_count cs
