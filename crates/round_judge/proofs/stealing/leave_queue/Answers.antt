use Rattle.std.proofs.Common.{◌≡◌, length, ap, ◌∙◌, sym, subst, arith}
use Rattle.round_model.specs.declared.state.ModelCore.{ModelCore}
use Rattle.round_model.specs.Cores.{listed}
use Rattle.round_model.specs.Kept.{IsKept}
use Rattle.round_model.specs.Updates.{updated}
use Rattle.round_model.proofs.Keeping.{standing_is}
use Rattle.round_model.proofs.States.{listed_at, listed_updated}
use Rattle.round_judge.proofs.Keeping.{kept_set}
use Rattle.round_judge.proofs.stealing.leave_queue.Goals as goal

pub returns-clause-state : goal.returns-clause-state
returns-clause-state c n m is there =
    let state = c.args.state.now in let at = c.args.at in let core = c.take_core-core.result in
    let left : ModelCore = record core { queue = c.args.left } in
    let same = listed_at n m state at core is c.take_core-core.ensures.core there in
    c.replace-idle.ensures.is ∙ (c.take_core-core.ensures.rest left ∙ (listed_updated n m state at left is there
    ∙ ap (λ (x : ModelCore). let y : ModelCore = record x { queue = c.args.left } in listed n (updated m at y)) same))

pub returns-clause-kept : goal.returns-clause-kept
returns-clause-kept c p x fewer is fit count =
    let state = c.args.state.now in let at = c.args.at in let core = c.take_core-core.result in
    let left : ModelCore = record core { queue = c.args.left } in
    let same : x ≡ core = let one = c.take_core-core.ensures.core in let both = sym is ∙ one in cc in
    let queue = ap (λ (y : ModelCore). length y.queue) same in
    subst (IsKept p fewer 0 state) (sym (c.replace-idle.ensures.is ∙ c.take_core-core.ensures.rest left))
    (kept_set p state at fewer 0 core left c.take_core-core.ensures.core
    (λ holds. record { current = holds.current; queue = fit; blocked = holds.blocked; consts = holds.consts })
    (omega (arith, standing_is core, standing_is left, count, queue)))
