use Rattle.std.proofs.Common.{refl}
use Rattle.policy_eval.specs.Sights.{pair_values}
use Rattle.round_model.specs.Choices.{candidates_of, choice_of}
use Rattle.level_policy.specs.LevelChoices.{level_best, level_choice, level_of}
use Rattle.level_tests.proofs.rows.near_is_taken.Goals as goal

pub returns : goal.returns
unfolding level_of level_best level_choice candidates_of choice_of pair_values
returns c = record {
  levels = refl;
  both_pass = refl;
  near = refl;
  compiled_near = refl;
  by_the_text_alone = refl;
  too_narrow = refl;
  far_where_nothing_is_near = refl;
  nothing_at_all = refl;
  of_equals_the_lowest = refl;
}
