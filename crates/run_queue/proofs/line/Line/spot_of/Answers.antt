use Rattle.std.proofs.Common.{◌≡◌, suc, ◌+◌, ◌<◌, ⊎_elim, Some, option_map, sym, ap, ◌∙◌, arith}
use Rattle.std.proofs.lemmas.Bool.{cases_lt}
use Rattle.std.proofs.lemmas.Option.{same_Some, slice_get_within}
use Rattle.run_queue.specs.Code.Lines.{Cell, node_at, spot_at}
use Rattle.run_queue.proofs.Ranking.{cell_of}
use Rattle.run_queue.proofs.Scanning.{node_of_spot, spot_inside}
use Rattle.run_queue.proofs.line.Line.spot_of.Goals as goal

pub unreachable-requires : goal.unreachable-requires
unreachable-requires c =
    let len = c.len-place-end.ensures in
    spot_inside c.args.self.now.cells c.loop-place._place (omega arith) (sym c.loop-place.invariant.next ∙ c.in_default.is)

pub returns-then-spot-node : goal.returns-then-spot-node
returns-then-spot-node c = record { spot = (c.loop-place._place, sym c.loop-place.invariant.next ∙ c.in-Some.is); node = c.if-spot-node.true }

pub loop-place-preserved : goal.loop-place-preserved
loop-place-preserved c =
    let cells = c.args.self.now.cells in let place = c.loop-place._place in
    let there = sym c.loop-place.invariant.next ∙ c.in-Some.is in
    let next : suc place ≡ place + 1 = omega arith in
    record {
      next = c.after-next.ensures place there ∙ ap (λ n. spot_at cells n) next;
      others = λ k less is.
          ⊎_elim
          (λ (before : k < place). c.loop-place.invariant.others k before is)
          (λ last. c.if-spot-node.false (let here : k ≡ place = omega arith in
          same_Some _ _ (sym (node_of_spot cells place c.in-Some.spot there) ∙ (ap (λ n. node_at cells n) (sym here) ∙ is))))
          (cases_lt k place);
    }

pub unreachable-requires-2 : goal.unreachable-requires-2
unreachable-requires-2 c =
    let cells = c.args.self.now.cells in
    let of = cell_of cells c.args.node c.requires in
    let inside = slice_get_within cells of.place of.cell of.at in
    let len = c.len-place-end.ensures in
    c.loop-place.invariant.others of.place (omega arith) (ap (option_map (λ (cell : Cell). cell.node)) of.at ∙ ap (λ n. Some n) of.is)
