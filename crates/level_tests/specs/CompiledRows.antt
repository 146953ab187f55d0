-- What levels are compiled to, written out.
use Rattle.std.specs.Prelude.{◌≡◌, [], ◌∷◌}
use Rattle.policy_tree.specs.Meaning.{greatest_first, preferring}
use Rattle.policy_tree.specs.Trees.{both, either, negated, variable}
use Rattle.policy_eval.specs.Forms.{comparisons_of}
use Rattle.policy_eval.specs.Obligations.{IdleSeesOverloaded, MeetsObligations, MoveNarrowsGap, VictimIsOverloaded}
use Rattle.level_policy.specs.Compiled.{compiled}
use Rattle.level_tests.specs.LevelPolicies.{gap_of, idle_or_gap, near_alone, numa, numa_cut, overlapping, same}

-- each level but the first is behind the ones before, and each but the last has a key. That the last one takes in all
-- isn't said
pub record CompiledParts : Type 0 where
  pub one_filter : (compiled near_alone).filter ≡ both (same 0) (gap_of 2)
  pub one_order : (compiled near_alone).choose ≡ near_alone.plain.choose
  pub two_filters : (compiled numa).filter ≡
      either
      (both (same 0) (gap_of 2))
      (both (negated (same 0)) (idle_or_gap 3))
  pub two_orders : (compiled numa).choose ≡ preferring (same 0) ∷ greatest_first (variable 3) ∷ []
  pub three_filters : (compiled overlapping).filter ≡
      either
      (either (both (same 0) (gap_of 2)) (both (both (negated (same 0)) (same 1)) (gap_of 2)))
      (both (negated (either (same 0) (same 1))) (gap_of 2))
  pub three_orders : (compiled overlapping).choose ≡
      preferring (same 0) ∷ preferring (either (same 0) (same 1)) ∷ greatest_first (variable 3) ∷ []
  pub comparisons : comparisons_of (compiled overlapping).filter ≡ 8

-- the compiled policy meets what it owes; cut short it sees too little, and else meets it
pub record CompiledOwes : Type 0 where
  pub meets : MeetsObligations (compiled numa)
  pub overlapping_meets : MeetsObligations (compiled overlapping)
  pub cut_sees_too_little : ¬ IdleSeesOverloaded (compiled numa_cut)
  pub cut_takes_no_last : VictimIsOverloaded (compiled numa_cut)
  pub cut_narrows : MoveNarrowsGap (compiled numa_cut)
