use Rattle.std.proofs.Common.{refl}
use Rattle.policy_eval.specs.Sights.{pair_values}
use Rattle.level_policy.specs.LevelChoices.{level_best, level_choice, level_of}
use Rattle.level_tests.proofs.rows.own_filter_alone.Goals as goal

pub returns : goal.returns
unfolding level_of level_best level_choice pair_values
returns c = record {
  levels = refl;
  not_taken = refl;
  compiled_not_taken = refl;
  taken_from_afar = refl;
  compiled_taken = refl;
  of_no_level = refl;
  never_taken = refl;
  compiled_never = refl;
}
