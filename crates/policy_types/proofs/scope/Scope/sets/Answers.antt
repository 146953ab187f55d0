-- The first fault of an assignment is that of them all.
use Rattle.std.proofs.Common.{◌+◌, drop, sym, ap, ◌∙◌, arith}
use Rattle.std.proofs.lemmas.Result.{err_from_is_err_and}
use Rattle.policy_types.specs.Handlers.{set_faults, sets_faults}
use Rattle.policy_types.proofs.Firsts.{drop_item, part_first}
use Rattle.policy_types.proofs.scope.Scope.sets.Goals as goal

pub returns-in_err-set-clause-fault : goal.returns-in_err-set-clause-fault
returns-in_err-set-clause-fault c =
    let p = err_from_is_err_and c.from_residual.result c.from_residual.ensures.1 in
    let s = c.args.self.now in let e = c.args.event in let sets = c.args.sets.now in let at = c.loop-set.set-index in let x = c.set-item.result in
    rw (p.1, p.2)
    (part_first (set_faults s e x) (sets_faults s e (drop (at + 1) sets)) (sets_faults s e sets) c.in_err-set.field-0.0
    (sym (ap (sets_faults s e) (drop_item sets at x (omega arith) c.set-item.is)) ∙ c.loop-set.invariant.faults)
    c.in_err-set.ensures.fault)
