use Rattle.std.proofs.Common.{refl}
use Rattle.policy_eval.specs.Sights.{pair_values}
use Rattle.round_model.specs.Choices.{candidates_of, choice_of}
use Rattle.level_policy.specs.LevelChoices.{level_best, level_choice, level_of}
use Rattle.level_tests.proofs.rows.first_level_counts.Goals as goal

pub returns : goal.returns
unfolding level_of level_best level_choice candidates_of choice_of pair_values
returns c = record { levels = refl; fullest = refl; compiled_fullest = refl; by_the_second_alone = refl; second = refl; third = refl }
