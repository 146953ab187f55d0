use Rattle.std.proofs.Common.{ap, ◌∙◌, sym, subst, set, arith}
use Rattle.round_model.specs.declared.state.ModelCore.{ModelCore}
use Rattle.round_model.specs.Bounds.{standing_count}
use Rattle.round_model.specs.Cores.{listed}
use Rattle.round_model.specs.Kept.{Holds, IsKept}
use Rattle.round_model.specs.Moves.{with_task}
use Rattle.round_model.specs.Updates.{updated}
use Rattle.round_model.proofs.Keeping.{holds_put, standing_put}
use Rattle.round_model.proofs.States.{OnErr-then, OnOk-then, listed_at, listed_updated, set_back}
use Rattle.round_judge.proofs.Keeping.{kept_set}
use Rattle.round_judge.proofs.moves.put.Goals as goal

pub returns-clause-ok : goal.returns-clause-ok
returns-clause-ok c =
    let state = c.args.state.now in let at = c.args.at in let core = c.take_in-done.new.core in
    OnOk-then c.take_in-done.result c.take_in-done.ensures.ok (λ took n m is there.
    let same = listed_at n m state at c.take_core-core.result is c.take_core-core.ensures.core there in
    c.replace-idle.ensures.is ∙ (c.take_core-core.ensures.rest core ∙ (listed_updated n m state at core is there
    ∙ ap (λ (x : ModelCore). listed n (updated m at x)) (took ∙ ap (with_task c.args.place 0 c.args.task) same))))

pub returns-clause-err : goal.returns-clause-err
returns-clause-err c =
    let state = c.args.state.now in let at = c.args.at in let core = c.take_in-done.new.core in
    OnErr-then c.take_in-done.result c.take_in-done.ensures.err (λ kept.
    c.replace-idle.ensures.is ∙ (c.take_core-core.ensures.rest core ∙ (ap (set state at) kept ∙ set_back state at c.take_core-core.result c.take_core-core.ensures.core)))

pub returns-clause-kept : goal.returns-clause-kept
returns-clause-kept c =
    let state = c.args.state.now in let at = c.args.at in let core = c.take_in-done.new.core in let before = c.take_core-core.result in
    OnOk-then c.take_in-done.result c.take_in-done.ensures.ok (λ took p fits.
    let count = ap standing_count took in
    subst (IsKept p 0 1 state) (sym (c.replace-idle.ensures.is ∙ c.take_core-core.ensures.rest core))
    (kept_set p state at 0 1 before core c.take_core-core.ensures.core
    (λ holds. subst (Holds p) (sym took) (holds_put p c.args.place 0 c.args.task before holds fits))
    (omega (arith, standing_put p c.args.place 0 c.args.task before))))
