-- The policy by its declarations.
use Rattle.std.proofs.Common.{◌∙◌, ap}
use Rattle.policy_syntax.specs.LevelTrees.{level_syntax_tree}
use Rattle.policy_types.specs.Declarations.{nothing_declared, scope_after}
use Rattle.policy_types.proofs.SoundLevels.{levels_as}
use Rattle.policy_types.proofs.levels.levels_of.Goals as goal

pub returns-clause-levels : goal.returns-clause-levels
returns-clause-levels c =
    levels_as c.level_text.result (level_syntax_tree c.args.syntax.now) c.in_ok-scope.scope c.in_ok-name.name c.in_ok-load.load
    (c.in_ok-scope.ensures.scope ∙ ap (scope_after nothing_declared) c.as_slice.ensures.items) c.in_ok-name.ensures c.in_ok-load.ensures.load
    c.level_text.ensures.levels
