use Rattle.std.proofs.Common.{◌++◌, ◌∷◌, [], Some, sym, ap, subst, ◌∙◌}
use Rattle.node_pool.specs.Nodes.{IsTaken}
use Rattle.run_queue.specs.Code.Ahead.{HasNode}
use Rattle.run_queue.specs.Code.Lines.{Cell, LineView, cells_from, relinked}
use Rattle.run_queue.proofs.Pushed.{else_node, laid_pushed, last_taken}
use Rattle.run_queue.proofs.Ranking.{cell_of}
use Rattle.run_queue.proofs.line.Line.push.Goals as goal

pub relink-self-inside-requires : goal.relink-self-inside-requires
relink-self-inside-requires c node is =
    let pool = c.self.inside.pool in let first = c.self.inside.first in let cells = cells_from pool first c.self.inside.len in
    let x : Cell = record { node = c.in-Ok.node; task = c.args.task } in
    subst (λ all. IsTaken all node) (sym c.in-Ok.ensures.holds)
    (last_taken pool first c.self.inside.last cells c.self.invariant.linked x c.in-Ok.ensures.was_free node is)

pub invariant_of-self : goal.invariant_of-self
invariant_of-self c =
    let pool = c.self.inside.pool in let first = c.self.inside.first in let cells = cells_from pool first c.self.inside.len in
    let x : Cell = record { node = c.in-Ok.node; task = c.args.task } in
    (laid_pushed pool first c.self.inside.last cells c.self.invariant.linked x c.in-Ok.ensures.was_free
    c.self.inside.len c.self.invariant.count c.self.invariant.free c.self.invariant.small c.relink-self-inside.new.pool c.relink-self-inside.result
    (c.relink-self-inside.ensures.pool ∙ ap (λ all. relinked all c.self.inside.last (Some c.in-Ok.node)) c.in-Ok.ensures.holds) c.relink-self-inside.ensures.first).0

pub returns-clause-cells : goal.returns-clause-cells
returns-clause-cells c =
    let pool = c.self.inside.pool in let first = c.self.inside.first in let cells = cells_from pool first c.self.inside.len in
    let x : Cell = record { node = c.in-Ok.node; task = c.args.task } in
    (laid_pushed pool first c.self.inside.last cells c.self.invariant.linked x c.in-Ok.ensures.was_free
    c.self.inside.len c.self.invariant.count c.self.invariant.free c.self.invariant.small c.relink-self-inside.new.pool c.relink-self-inside.result
    (c.relink-self-inside.ensures.pool ∙ ap (λ all. relinked all c.self.inside.last (Some c.in-Ok.node)) c.in-Ok.ensures.holds) c.relink-self-inside.ensures.first).1
    ∙ ap (λ (line : LineView). line.cells ++ x ∷ []) c.self.view_is

pub returns-clause-fresh : goal.returns-clause-fresh
returns-clause-fresh c has =
    let pool = c.self.inside.pool in let first = c.self.inside.first in let cells = cells_from pool first c.self.inside.len in
    let x : Cell = record { node = c.in-Ok.node; task = c.args.task } in
    let of = cell_of cells c.in-Ok.node (subst (λ (line : LineView). HasNode line.cells c.in-Ok.node) (sym c.self.view_is) has) in
    else_node pool first c.self.inside.last cells c.self.invariant.linked x c.in-Ok.ensures.was_free of.place of.cell of.at of.is
