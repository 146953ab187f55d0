use Rattle.std.proofs.Common.{sym, subst}
use Rattle.history_merge.specs.Merged.{AreLogsOfFew}
use Rattle.runtime_tests.proofs.Joined.{two_logs_of_few}
use Rattle.runtime_tests.proofs.merges.merged.Goals as goal

pub merge-requires : goal.merge-requires
merge-requires c = subst AreLogsOfFew (sym c.requires) two_logs_of_few
