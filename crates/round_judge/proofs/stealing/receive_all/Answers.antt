use Rattle.std.proofs.Common.{◌≡◌, List, ap, ◌∙◌, sym, subst, set, length, length-append, arith}
use Rattle.round_model.specs.declared.state.ModelCore.{ModelCore}
use Rattle.round_model.specs.Cores.{listed}
use Rattle.round_model.specs.Kept.{IsKept}
use Rattle.round_model.specs.Updates.{updated}
use Rattle.round_model.specs.Moves.{received_all}
use Rattle.round_model.proofs.Keeping.{standing_is}
use Rattle.round_model.proofs.States.{OnErr-then, OnOk-then, listed_at, listed_updated, set_back}
use Rattle.round_model.proofs.Takings.{holds_come}
use Rattle.round_judge.proofs.Keeping.{kept_set}
use Rattle.round_judge.proofs.stealing.receive_all.Goals as goal

pub returns-clause-ok : goal.returns-clause-ok
unfolding received_all
returns-clause-ok c =
    let state = c.args.state.now in let at = c.args.at in let core = c.take_core-core.result in
    let more : ModelCore = record core { queue = c.push_all-done.new.queue } in
    OnOk-then c.push_all-done.result c.push_all-done.ensures.ok (λ took n m is there.
    let same = listed_at n m state at core is c.take_core-core.ensures.core there in
    c.replace-idle.ensures.is ∙ (c.take_core-core.ensures.rest more ∙ (listed_updated n m state at more is there
    ∙ (ap (λ (queue : List _). let y : ModelCore = record core { queue = queue } in listed n (updated m at y)) took
    ∙ ap (λ (x : ModelCore). listed n (updated m at (received_all c.args.tasks.now x))) same))))

pub returns-clause-err : goal.returns-clause-err
returns-clause-err c =
    let state = c.args.state.now in let at = c.args.at in let core = c.take_core-core.result in
    let more : ModelCore = record core { queue = c.push_all-done.new.queue } in
    OnErr-then c.push_all-done.result c.push_all-done.ensures.err (λ kept.
    c.replace-idle.ensures.is ∙ (c.take_core-core.ensures.rest more
    ∙ (ap (λ (queue : List _). let y : ModelCore = record core { queue = queue } in set state at y) kept ∙ set_back state at core c.take_core-core.ensures.core)))

pub returns-clause-kept : goal.returns-clause-kept
unfolding received_all
returns-clause-kept c =
    let state = c.args.state.now in let at = c.args.at in let core = c.take_core-core.result in
    let more : ModelCore = record core { queue = c.push_all-done.new.queue } in
    let came : ModelCore = received_all c.args.tasks.now core in
    OnOk-then c.push_all-done.result c.push_all-done.ensures.ok (λ took p fit.
    let same : more ≡ came = ap (λ (queue : List _). let y : ModelCore = record core { queue = queue } in y) took in
    subst (IsKept p 0 (length c.args.tasks.now) state) (sym (c.replace-idle.ensures.is ∙ c.take_core-core.ensures.rest more ∙ ap (set state at) same))
    (kept_set p state at 0 (length c.args.tasks.now) core came c.take_core-core.ensures.core
    (λ holds. holds_come p c.args.tasks.now core holds fit)
    (omega (arith, standing_is core, standing_is came, length-append core.queue c.args.tasks.now))))
