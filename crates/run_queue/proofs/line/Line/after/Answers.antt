use Rattle.std.proofs.Common.{suc, sym, ap, ◌∙◌}
use Rattle.std.proofs.lemmas.Option.{same_Some}
use Rattle.run_queue.specs.Code.Lines.{LineView, cells_from, spot_at}
use Rattle.run_queue.proofs.Lines.{spot_after, spot_last, spot_link, spot_taken}
use Rattle.run_queue.proofs.line.Line.after.Goals as goal

pub link-requires : goal.link-requires
link-requires c =
    spot_taken _ _ _ _ c.self.invariant.linked c.requires.0 c.args.spot
    (ap (λ (line : LineView). spot_at line.cells c.requires.0) c.self.view_is ∙ c.requires.1)

pub returns-in_err-node : goal.returns-in_err-node
returns-in_err-node c k is =
    let pool = c.self.inside.pool in let first = c.self.inside.first in let len = c.self.inside.len in let cells = cells_from pool first len in
    let here = ap (λ (line : LineView). spot_at line.cells k) c.self.view_is ∙ is in
    let link = same_Some _ _ (sym c.link.ensures ∙ spot_link pool first c.self.inside.last cells c.self.invariant.linked k c.args.spot here) in
    c.from_residual.ensures
    ∙ (sym (spot_last pool first c.self.inside.last cells c.self.invariant.linked k c.args.spot here (sym link ∙ c.in_err-node.was))
    ∙ ap (λ (line : LineView). spot_at line.cells (suc k)) c.self.view_is)

pub returns : goal.returns
returns c k is =
    let pool = c.self.inside.pool in let first = c.self.inside.first in let len = c.self.inside.len in let cells = cells_from pool first len in
    let here = ap (λ (line : LineView). spot_at line.cells k) c.self.view_is ∙ is in
    let link = same_Some _ _ (sym c.link.ensures ∙ spot_link pool first c.self.inside.last cells c.self.invariant.linked k c.args.spot here) in
    sym (spot_after pool first c.self.inside.last cells c.self.invariant.linked k c.args.spot here c.in_ok-node.node (sym link ∙ c.in_ok-node.was))
    ∙ ap (λ (line : LineView). spot_at line.cells (suc k)) c.self.view_is
