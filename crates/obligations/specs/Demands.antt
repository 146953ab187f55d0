-- The statements as the code has them. This serves the code alone.
use Rattle.policy_eval.specs.Obligations as owed
use Rattle.obligations.specs.declared.statements.Statement.{Statement}
use Rattle.obligations.specs.declared.statements.Statement.TheVariants as statement

abbrev pub statement_seen : Statement → owed.Statement
statement_seen statement.IdleSeesOverloaded = owed.idle_sees_overloaded
statement_seen statement.VictimIsOverloaded = owed.victim_is_overloaded
statement_seen statement.MoveNarrowsGap = owed.move_narrows_gap
statement_seen statement.FurtherMoveNarrowsGap = owed.further_move_narrows_gap
statement_seen (statement.NoOverlap e) = owed.no_overlap e
statement_seen (statement.NoGap e) = owed.no_gap e
statement_seen statement.FilterLeavesLast = owed.filter_leaves_last
statement_seen statement.BatchLeavesLast = owed.batch_leaves_last
statement_seen (statement.RestGap gap) = owed.rest_gap gap
