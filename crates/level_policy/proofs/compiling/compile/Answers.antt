-- What holds of the compiled policy as a tree holds of the one that is made.
use Rattle.std.proofs.Common.{sym, subst}
use Rattle.policy_eval.specs.Resolved.{IsResolved}
use Rattle.level_policy.specs.Laws.{FiltersByLevel, IsShort}
use Rattle.level_policy.specs.Levels.{levels_meaning}
use Rattle.level_policy.proofs.CompiledResolved.{compiled_resolved, compiled_short}
use Rattle.level_policy.proofs.Passing.{level_filter_law}
use Rattle.level_policy.proofs.compiling.compile.Goals as goal

pub returns-clause-filter : goal.returns-clause-filter
returns-clause-filter c =
    subst (FiltersByLevel (levels_meaning c.args.levels.now)) (sym c.in_ok-policy.ensures) (level_filter_law (levels_meaning c.args.levels.now))

pub returns-clause-resolved : goal.returns-clause-resolved
returns-clause-resolved c = subst IsResolved (sym c.in_ok-policy.ensures) (compiled_resolved (levels_meaning c.args.levels.now) c.requires)

pub returns-clause-short : goal.returns-clause-short
returns-clause-short c = subst IsShort (sym c.in_ok-policy.ensures) (compiled_short (levels_meaning c.args.levels.now) c.requires)
