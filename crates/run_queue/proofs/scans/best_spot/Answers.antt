use Rattle.std.proofs.Common.{◌≡◌, suc, ◌+◌, length, MatchOption, [], sym, ap, subst, ◌∙◌, arith}
use Rattle.std.proofs.lemmas.List.{length-map}
use Rattle.std.proofs.lemmas.Option.{slice_get_within}
use Rattle.policy_tree.specs.Meaning.{order_tree}
use Rattle.run_queue.specs.Code.Lines.{Cell, spot_at, tasks_of}
use Rattle.run_queue.specs.Code.Scans.{IsBestSpot}
use Rattle.run_queue.proofs.Best.{BestTo, best_first, best_of_all, best_step}
use Rattle.run_queue.proofs.Scanning.{no_tasks, spot_inside, task_there}
use Rattle.run_queue.proofs.scans.best_spot.Goals as goal

pub returns-in_err-best : goal.returns-in_err-best
returns-in_err-best c =
    let cells = c.args.line.now.cells in
    subst (λ o. MatchOption o (tasks_of cells ≡ []) (IsBestSpot (order_tree c.args.order.now) cells)) (sym c.from_residual.ensures)
    (no_tasks cells (sym c.first.ensures ∙ c.in_err-best.was))

pub loop-place-init : goal.loop-place-init
loop-place-init c =
    let first = sym c.first.ensures ∙ c.in_ok-best.was in
    record { next = c.after-next.ensures 0 first; best = best_first (order_tree c.args.order.now) c.args.line.now.cells c.in_ok-best.best first }

pub unreachable-requires : goal.unreachable-requires
unreachable-requires c =
    let len = c.len-place-end.ensures in
    spot_inside c.args.line.now.cells c.loop-place._place (omega arith) (sym c.loop-place.invariant.next ∙ c.in_default.is)

pub loop-place-preserved : goal.loop-place-preserved
loop-place-preserved c =
    let cells = c.args.line.now.cells in let keys = order_tree c.args.order.now in let place = c.loop-place._place in
    let there = sym c.loop-place.invariant.next ∙ c.in-Some.is in
    let to = c.loop-place.invariant.best in
    let u = task_there cells place c.in-Some.spot there in
    let next : suc place ≡ place + 1 = omega arith in
    record {
      next = c.after-next-in-loop-place.ensures place there ∙ ap (λ n. spot_at cells n) next;
      best = subst (λ n. BestTo keys cells n c.better_spot-best.result) next
          (best_step keys cells place c.loop-place.best c.in-Some.spot c.better_spot-best.result u.0 to there u.1
          (c.better_spot-best.ensures to.place place to.task u.0 to.there there to.best.is u.1));
    }

pub returns : goal.returns
returns c =
    let cells = c.args.line.now.cells in let keys = order_tree c.args.order.now in let place = c.loop-place._place in
    let to = c.loop-place.invariant.best in
    let some = slice_get_within (tasks_of cells) to.place to.task to.best.is in
    let len = c.len-place-end.ensures in
    let all = length-map cells (λ (cell : Cell). cell.task) in
    let end : place ≡ length (tasks_of cells) = omega arith in
    best_of_all keys cells place c.loop-place.best end to
