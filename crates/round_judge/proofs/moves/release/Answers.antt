use Rattle.std.proofs.Common.{◌≡◌, ap, ◌∙◌, sym, subst, IsSome, arith}
use Rattle.round_model.specs.declared.state.ModelCore.{ModelCore}
use Rattle.round_model.specs.Bounds.{standing_count}
use Rattle.round_model.specs.Cores.{listed}
use Rattle.round_model.specs.Kept.{Holds, IsKept}
use Rattle.round_model.specs.Moves.{blocked_of, released}
use Rattle.round_model.specs.Updates.{updated}
use Rattle.round_model.proofs.Keeping.{holds_released, standing_released}
use Rattle.round_model.proofs.States.{listed_at, listed_updated}
use Rattle.round_judge.proofs.Keeping.{kept_set}
use Rattle.round_judge.proofs.moves.release.Goals as goal

pub returns-clause-state : goal.returns-clause-state
returns-clause-state c n m is there =
    let state = c.args.state.now in let at = c.args.at in let core = c.take_blocked.new.core in
    let same = listed_at n m state at c.take_core-core.result is c.take_core-core.ensures.core there in
    c.replace-idle.ensures.is ∙ (c.take_core-core.ensures.rest core ∙ (listed_updated n m state at core is there
    ∙ ap (λ (x : ModelCore). listed n (updated m at x)) (c.take_blocked.ensures ∙ ap (released c.args.thread) same)))

pub returns-clause-kept : goal.returns-clause-kept
returns-clause-kept c p x is found =
    let state = c.args.state.now in let at = c.args.at in let core = c.take_blocked.new.core in let before = c.take_core-core.result in
    let same : x ≡ before = let one = c.take_core-core.ensures.core in let both = sym is ∙ one in cc in
    let count = ap standing_count c.take_blocked.ensures in
    subst (IsKept p 1 0 state) (sym (c.replace-idle.ensures.is ∙ c.take_core-core.ensures.rest core))
    (kept_set p state at 1 0 before core c.take_core-core.ensures.core
    (λ holds. subst (Holds p) (sym c.take_blocked.ensures) (holds_released p c.args.thread before holds))
    (let fewer = standing_released p c.args.thread before (subst (λ (y : ModelCore). IsSome (blocked_of c.args.thread y)) same found) in omega arith))
