use Rattle.std.proofs.Common.{sym, subst}
use Rattle.run_queue.specs.Tasks.{IsSeenTask}
use Rattle.run_queue.proofs.Ranking.{seen_at}
use Rattle.run_queue.proofs.ranked.is_ahead.Goals as goal

pub comes_first-requires-clause-first : goal.comes_first-requires-clause-first
comes_first-requires-clause-first c =
    subst IsSeenTask (sym c.task_of-task.ensures) (seen_at c.args.line.now.cells c.args.first.node c.requires.first c.requires.scan.each)

pub comes_first-requires-clause-second : goal.comes_first-requires-clause-second
comes_first-requires-clause-second c =
    subst IsSeenTask (sym c.task_of-other.ensures) (seen_at c.args.line.now.cells c.args.second.node c.requires.second c.requires.scan.each)

pub comes_first-requires-then-first-second-clause-first : goal.comes_first-requires-then-first-second-clause-first
comes_first-requires-then-first-second-clause-first c =
    subst IsSeenTask (sym c.task_of-other.ensures) (seen_at c.args.line.now.cells c.args.second.node c.requires.second c.requires.scan.each)

pub comes_first-requires-then-first-second-clause-second : goal.comes_first-requires-then-first-second-clause-second
comes_first-requires-then-first-second-clause-second c =
    subst IsSeenTask (sym c.task_of-task.ensures) (seen_at c.args.line.now.cells c.args.first.node c.requires.first c.requires.scan.each)
