use Rattle.std.proofs.Common.{ℕ, List, remove, slice_get, sym, ap, ap₂, ◌∙◌}
use Rattle.node_pool.specs.Nodes.{Nodes, value_at}
use Rattle.sched_base.specs.declared.task.Task.{Task}
use Rattle.run_queue.specs.Code.Lines.{Cell, LineView, cells_from, spot_at, tasks_of}
use Rattle.run_queue.proofs.Lines.{before_taken, spot_before, spot_taken}
use Rattle.run_queue.proofs.Removed.{laid_without, spot_value}
use Rattle.run_queue.proofs.line.Line.remove.Goals as goal

pub link-next-requires : goal.link-next-requires
link-next-requires c =
    spot_taken _ _ _ _ c.self.invariant.linked c.requires.0 c.args.spot
    (ap (λ (line : LineView). spot_at line.cells c.requires.0) c.self.view_is ∙ c.requires.1)

pub relink-self-inside-requires : goal.relink-self-inside-requires
relink-self-inside-requires c node is =
    let pool = c.self.inside.pool in let first = c.self.inside.first in let cells = cells_from pool first c.self.inside.len in
    let here = ap (λ (line : LineView). spot_at line.cells c.requires.0) c.self.view_is ∙ c.requires.1 in
    before_taken pool first c.self.inside.last cells c.self.invariant.linked c.requires.0 node
    (sym (spot_before pool first c.self.inside.last cells c.self.invariant.linked c.requires.0 c.args.spot here) ∙ is)

pub invariant_of-self : goal.invariant_of-self
invariant_of-self c =
    let pool = c.self.inside.pool in let first = c.self.inside.first in let cells = cells_from pool first c.self.inside.len in
    let here = ap (λ (line : LineView). spot_at line.cells c.requires.0) c.self.view_is ∙ c.requires.1 in
    (laid_without pool first c.self.inside.last cells c.self.invariant.linked c.requires.0 c.args.spot here c.link-next.result c.link-next.ensures
    c.self.inside.len c.self.invariant.count c.self.invariant.free c.self.invariant.small
    c.relink-self-inside.new.pool c.give.new.self c.relink-self-inside.result c.last_after-self-inside.result
    c.relink-self-inside.ensures.pool c.give.ensures.frees c.relink-self-inside.ensures.first c.last_after-self-inside.ensures).0

pub returns-clause-task : goal.returns-clause-task
returns-clause-task c k is =
    let pool = c.self.inside.pool in let first = c.self.inside.first in let cells = cells_from pool first c.self.inside.len in
    let here = ap (λ (line : LineView). spot_at line.cells k) c.self.view_is ∙ is in
    ap (λ (line : LineView). slice_get (tasks_of line.cells) k) (sym c.self.view_is)
    ∙ (sym (spot_value pool first c.self.inside.last cells c.self.invariant.linked k c.args.spot here c.link-next.result c.link-next.ensures)
    ∙ (ap (λ (all : Nodes Task). value_at all c.args.spot.node) (sym c.relink-self-inside.ensures.pool) ∙ c.give.ensures.value))

pub returns-clause-rest : goal.returns-clause-rest
returns-clause-rest c k is =
    let pool = c.self.inside.pool in let first = c.self.inside.first in let cells = cells_from pool first c.self.inside.len in
    let here = ap (λ (line : LineView). spot_at line.cells k) c.self.view_is ∙ is in
    let left = laid_without pool first c.self.inside.last cells c.self.invariant.linked k c.args.spot here c.link-next.result c.link-next.ensures
    c.self.inside.len c.self.invariant.count c.self.invariant.free c.self.invariant.small
    c.relink-self-inside.new.pool c.give.new.self c.relink-self-inside.result c.last_after-self-inside.result
    c.relink-self-inside.ensures.pool c.give.ensures.frees c.relink-self-inside.ensures.first c.last_after-self-inside.ensures in
    ap₂ (λ (cells : List Cell) (room : ℕ). let line : LineView = record { cells = cells; room = room } in line) left.1 left.2
    ∙ ap (λ (line : LineView). let l : LineView = record line { cells = remove line.cells k } in l) c.self.view_is
