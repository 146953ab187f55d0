use Rattle.std.proofs.Common.{sym, subst}
use Rattle.history_merge.specs.Merged.{AreLogsOfFew}
use Rattle.runtime_tests.proofs.Joined.{no_logs_of_few}
use Rattle.runtime_tests.proofs.merges.merged_of_nothing.Goals as goal

pub merge-requires : goal.merge-requires
merge-requires c = subst AreLogsOfFew (sym c.nothing.ensures) no_logs_of_few
