-- What is chosen by levels, and what would be chosen without them.
use Rattle.std.specs.Prelude.{◌≡◌, ℕ, Bool, true, false, List, [], ◌∷◌, Option, Some, None, length, map}
use Rattle.std.specs.List.{range_with_len}
use Rattle.policy_tree.specs.Meaning.{KeyTree, preferring}
use Rattle.policy_eval.specs.declared.env.CoreValues.{CoreValues}
use Rattle.round_model.specs.Choices.{choice_of, may_steal, values_in}
use Rattle.level_policy.specs.Compiled.{compiled}
use Rattle.level_policy.specs.LevelChoices.{level_choice, level_of, passes_its_level}
use Rattle.level_policy.specs.Levels.{LevelsMeaning}
use Rattle.level_tests.specs.LevelPolicies.{near_alone, numa, overlapping, same, seen, strict}

-- the choice of that core by the levels, where this was read of the cores
abbrev pub chosen : LevelsMeaning → List CoreValues → ℕ → Option ℕ
chosen l cores a = level_choice l (length cores) (values_in cores) a

-- its choice under the compiled policy, whose keys are these in place of its own
abbrev pub chosen_by : List KeyTree → LevelsMeaning → List CoreValues → ℕ → Option ℕ
chosen_by keys l cores a = choice_of (record (compiled l) { choose = keys }) (length cores) (values_in cores) a

-- the levels of all cores, as that one sees them
abbrev pub levels_seen : LevelsMeaning → List CoreValues → ℕ → List (Option ℕ)
levels_seen l cores a =
    map (λ v. level_of l.levels (values_in cores a) (values_in cores v)) (range_with_len 0 (length cores))

-- which cores pass the filter of their level, as that one sees them
abbrev pub passing : LevelsMeaning → List CoreValues → ℕ → List Bool
passing l cores a =
    map (λ v. passes_its_level l.levels (values_in cores a) (values_in cores v)) (range_with_len 0 (length cores))

-- three threads on the one node, two on the other, and an idle core beside those
abbrev pub two_nodes : List CoreValues
two_nodes = seen 3 0 0 ∷ seen 2 1 0 ∷ seen 0 1 0 ∷ []

-- a core takes from its own node, though a core of the other node is fuller
pub record NearIsTaken : Type 0 where
  pub levels : levels_seen numa two_nodes 2 ≡ Some 1 ∷ Some 0 ∷ Some 0 ∷ []
  pub both_pass : passing numa two_nodes 2 ≡ true ∷ true ∷ false ∷ []
  pub near : chosen numa two_nodes 2 ≡ Some 1
  pub compiled_near : choice_of (compiled numa) 3 (values_in two_nodes) 2 ≡ Some 1
  pub by_the_text_alone : chosen_by numa.plain.choose numa two_nodes 2 ≡ Some 0
  pub too_narrow : chosen numa two_nodes 1 ≡ None
  pub far_where_nothing_is_near : chosen numa (seen 3 0 0 ∷ seen 1 1 0 ∷ seen 0 1 0 ∷ []) 2 ≡ Some 0
  pub nothing_at_all : chosen numa (seen 1 0 0 ∷ seen 1 1 0 ∷ seen 0 1 0 ∷ []) 2 ≡ None
  pub of_equals_the_lowest : chosen numa (seen 0 1 0 ∷ seen 2 1 0 ∷ seen 2 1 0 ∷ []) 0 ≡ Some 1

-- a core that two levels take in belongs to the first of them
abbrev pub four_cores : List CoreValues
four_cores = seen 4 0 1 ∷ seen 3 0 0 ∷ seen 0 1 1 ∷ seen 0 0 0 ∷ []

pub record FirstLevelCounts : Type 0 where
  pub levels : levels_seen overlapping four_cores 3 ≡ Some 0 ∷ Some 0 ∷ Some 2 ∷ Some 0 ∷ []
  pub fullest : chosen overlapping four_cores 3 ≡ Some 0
  pub compiled_fullest : choice_of (compiled overlapping) 4 (values_in four_cores) 3 ≡ Some 0
  pub by_the_second_alone :
      chosen_by (preferring (same 0) ∷ preferring (same 1) ∷ overlapping.plain.choose) overlapping four_cores 3 ≡ Some 1
  pub second : chosen overlapping four_cores 2 ≡ Some 0
  pub third : chosen overlapping (seen 4 1 1 ∷ seen 3 2 2 ∷ seen 0 0 0 ∷ []) 2 ≡ Some 0

-- the filter of a further level isn't asked of a core that an earlier one takes in
pub record OwnFilterAlone : Type 0 where
  pub levels : levels_seen strict (seen 3 0 0 ∷ seen 0 0 0 ∷ []) 1 ≡ Some 0 ∷ Some 0 ∷ []
  pub not_taken : chosen strict (seen 3 0 0 ∷ seen 0 0 0 ∷ []) 1 ≡ None
  pub compiled_not_taken : may_steal (compiled strict) (seen 0 0 0) (seen 3 0 0) ≡ false
  pub taken_from_afar : chosen strict (seen 3 1 0 ∷ seen 0 0 0 ∷ []) 1 ≡ Some 0
  pub compiled_taken : may_steal (compiled strict) (seen 0 0 0) (seen 3 1 0) ≡ true
  pub of_no_level : levels_seen near_alone (seen 9 1 0 ∷ seen 0 0 0 ∷ []) 1 ≡ None ∷ Some 0 ∷ []
  pub never_taken : chosen near_alone (seen 9 1 0 ∷ seen 0 0 0 ∷ []) 1 ≡ None
  pub compiled_never : may_steal (compiled near_alone) (seen 0 0 0) (seen 9 1 0) ≡ false
