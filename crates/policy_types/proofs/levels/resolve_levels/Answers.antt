-- A syntax without fault is a resolved policy by levels, and the first fault has the least token.
use Rattle.policy_syntax.specs.LevelTrees.{level_syntax_tree}
use Rattle.policy_types.proofs.SoundLevels.{levels_answer_resolved}
use Rattle.policy_types.proofs.WalkLevels.{levels_answer_least}
use Rattle.policy_types.proofs.levels.resolve_levels.Goals as goal

pub returns-clause-resolved : goal.returns-clause-resolved
returns-clause-resolved c =
    levels_answer_resolved c.levels_of.result (level_syntax_tree c.args.syntax.now) c.levels_of.ensures.levels c.levels_of.ensures.sound

pub returns-clause-least : goal.returns-clause-least
returns-clause-least c = levels_answer_least c.levels_of.result (level_syntax_tree c.args.syntax.now) c.levels_of.ensures.fault
