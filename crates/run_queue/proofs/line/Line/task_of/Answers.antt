use Rattle.std.proofs.Common.{◌≡◌, Some, option_map, sym, ap, subst, ◌∙◌}
use Rattle.std.proofs.lemmas.Option.{same_Some}
use Rattle.sched_base.specs.declared.task.Task.{Task}
use Rattle.node_pool.specs.declared.Held.{Held}
use Rattle.node_pool.specs.Nodes.{IsTaken, value_at}
use Rattle.run_queue.specs.Code.Ahead.{HasNode, task_at}
use Rattle.run_queue.specs.Code.Lines.{LineView, cells_from}
use Rattle.run_queue.proofs.Lines.{is_taken}
use Rattle.run_queue.proofs.Ranking.{cell_of, task_at-is}
use Rattle.run_queue.proofs.line.Line.task_of.Goals as goal

pub get-requires : goal.get-requires
get-requires c =
    let pool = c.self.inside.pool in let cells = cells_from pool c.self.inside.first c.self.inside.len in
    let of = cell_of cells c.args.node (subst (λ (line : LineView). HasNode line.cells c.args.node) (sym c.self.view_is) c.requires) in
    subst (IsTaken pool) of.is (is_taken pool c.self.inside.first c.self.inside.last cells c.self.invariant.linked of.place of.cell of.at)

pub returns : goal.returns
returns c =
    let pool = c.self.inside.pool in let linked = c.self.invariant.linked in
    let cells = cells_from pool c.self.inside.first c.self.inside.len in
    let of = cell_of cells c.args.node (subst (λ (line : LineView). HasNode line.cells c.args.node) (sym c.self.view_is) c.requires) in
    let value : value_at pool of.cell.node ≡ Some of.cell.task = ap (option_map (λ (held : Held Task). held.value)) (linked.held of.place of.cell of.at) in
    let task : c.get.result.now ≡ of.cell.task = same_Some _ _ (sym c.get.ensures ∙ (ap (value_at pool) (sym of.is) ∙ value)) in
    task
    ∙ (sym (task_at-is cells of.place of.cell (record { apart = linked.apart }) of.at)
    ∙ (ap (task_at cells) of.is ∙ ap (λ (line : LineView). task_at line.cells c.args.node) c.self.view_is))
