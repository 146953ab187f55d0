use Rattle.std.proofs.Common.{slice_get, sym, ap, ◌∙◌}
use Rattle.run_queue.specs.Code.Lines.{LineView, spot_at, tasks_of}
use Rattle.run_queue.proofs.Lines.{spot_taken, spot_task}
use Rattle.run_queue.proofs.line.Line.task.Goals as goal

pub get-requires : goal.get-requires
get-requires c =
    spot_taken _ _ _ _ c.self.invariant.linked c.requires.0 c.args.spot
    (ap (λ (line : LineView). spot_at line.cells c.requires.0) c.self.view_is ∙ c.requires.1)

pub returns : goal.returns
returns c k is =
    ap (λ (line : LineView). slice_get (tasks_of line.cells) k) (sym c.self.view_is)
    ∙ (spot_task _ _ _ _ c.self.invariant.linked k c.args.spot (ap (λ (line : LineView). spot_at line.cells k) c.self.view_is ∙ is) ∙ c.get.ensures)
