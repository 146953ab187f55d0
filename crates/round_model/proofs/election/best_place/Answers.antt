use Rattle.std.proofs.Common.{◌≡◌, suc, ◌-◌, [], drop, MatchOption, arith, subst, sym, ◌∙◌}
use Rattle.policy_tree.specs.Meaning.{order_tree}
use Rattle.round_model.specs.Work.{before}
use Rattle.round_model.proofs.Elections.{BestFrom, BestFrom-keep, BestFrom-last, BestFrom-take, best_of_all, item_at}
use Rattle.round_model.proofs.election.best_place.Goals as goal

pub loop-at-preserved-in-Some : goal.loop-at-preserved-in-Some
loop-at-preserved-in-Some c =
    let tasks = c.args.tasks.now in let first = before (order_tree c.args.order.now) in let at = c.loop-at.at - 1 in let later = c.in-Some.later in
    let from = subst (λ o. MatchOption o (drop c.loop-at.at tasks ≡ []) (BestFrom first tasks c.loop-at.at)) c.in-Some.is c.loop-at.invariant in
    let x = item_at tasks at (omega arith) in let y = item_at tasks later from.inside in
    BestFrom-keep first tasks at later x.0 y.0 x.1 y.1 (sym (c.stands_first.ensures y.0 x.0 y.1 x.1) ∙ c.if-stands_first.true)
    (subst (λ n. BestFrom first tasks n later) (omega arith) from)

pub loop-at-preserved-in_default : goal.loop-at-preserved-in_default
loop-at-preserved-in_default c =
    let tasks = c.args.tasks.now in let first = before (order_tree c.args.order.now) in let at = c.loop-at.at - 1 in let later = c.in-Some.later in
    let from = subst (λ o. MatchOption o (drop c.loop-at.at tasks ≡ []) (BestFrom first tasks c.loop-at.at)) c.in-Some.is c.loop-at.invariant in
    let x = item_at tasks at (omega arith) in let y = item_at tasks later from.inside in
    BestFrom-take first tasks at later x.0 y.0 x.1 y.1 (sym (c.stands_first.ensures y.0 x.0 y.1 x.1) ∙ c.if-stands_first.false) (omega arith)
    (subst (λ n. BestFrom first tasks n later) (omega arith) from)

pub loop-at-preserved : goal.loop-at-preserved
loop-at-preserved c =
    let tasks = c.args.tasks.now in let first = before (order_tree c.args.order.now) in let at = c.loop-at.at - 1 in
    let none = subst (λ o. MatchOption o (drop c.loop-at.at tasks ≡ []) (BestFrom first tasks c.loop-at.at)) c.in_default.is c.loop-at.invariant in
    let x = item_at tasks at (omega arith) in let next : c.loop-at.at ≡ suc at = omega arith in
    BestFrom-last first tasks at x.0 x.1 (omega arith) (subst (λ n. drop n tasks ≡ []) next none)

pub returns : goal.returns
returns c =
    let tasks = c.args.tasks.now in let keys = order_tree c.args.order.now in let over : c.loop-at.at ≡ 0 = omega arith in
    best_of_all keys tasks c.loop-at.best
    (subst (λ n. MatchOption c.loop-at.best (drop n tasks ≡ []) (BestFrom (before keys) tasks n)) over c.loop-at.invariant)
