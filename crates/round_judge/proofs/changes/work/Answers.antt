use Rattle.std.proofs.Common.{◌≡◌, ap, ◌∙◌, sym, subst, set, arith}
use Rattle.policy_tree.specs.Meaning.{meaning_of}
use Rattle.round_model.specs.declared.state.ModelCore.{ModelCore}
use Rattle.round_model.specs.Bounds.{standing_count}
use Rattle.round_model.specs.Cores.{listed}
use Rattle.round_model.specs.Kept.{Holds, IsKept}
use Rattle.round_model.specs.Updates.{updated}
use Rattle.round_model.proofs.Finding.{All-at}
use Rattle.round_model.proofs.Moved.{moved_work}
use Rattle.round_model.proofs.States.{OnErr-then, OnOk-then, listed_at, listed_same, listed_updated, set_back}
use Rattle.round_judge.specs.Units.{IsSmallCore, IsUnit, core_after_unit}
use Rattle.round_judge.proofs.Keeping.{holds_unit, kept_set, standing_unit}
use Rattle.round_judge.proofs.Units.{unit_core}
use Rattle.round_judge.proofs.changes.work.Goals as goal

pub run-done-requires-clause-room : goal.run-done-requires-clause-room
run-done-requires-clause-room c = All-at IsSmallCore c.args.state.now c.requires.room c.args.by c.take_core-core.result c.take_core-core.ensures.core

pub returns-clause-ok : goal.returns-clause-ok
returns-clause-ok c =
    let p = meaning_of c.args.policy.now in let plan = c.args.plan.now in let state = c.args.state.now in let by = c.args.by in
    let unit = c.unit_of-unit.result in let core = c.run-done.new.core in
    OnOk-then c.run-done.result c.run-done.ensures.ok (λ ran n m did is there told.
    let same = listed_at n m state by c.take_core-core.result is c.take_core-core.ensures.core there in
    let seen = listed_at n m state by c.get.result.now is c.get.ensures.item there in
    let runs = subst (λ (x : ModelCore). IsUnit p plan c.args.round x unit) seen c.unit_of-unit.ensures in
    let left = ran ∙ (ap (λ (x : ModelCore). core_after_unit x unit) same ∙ sym (unit_core p plan c.args.round (m by) unit did runs told)) in
    c.replace-idle.ensures.is ∙ (c.take_core-core.ensures.rest core ∙ (listed_updated n m state by core is there
    ∙ (ap (λ (x : ModelCore). listed n (updated m by x)) left ∙ listed_same n _ _ (λ k inside. moved_work p plan c.args.round m by did k)))))

pub returns-clause-err : goal.returns-clause-err
returns-clause-err c =
    let state = c.args.state.now in let core = c.run-done.new.core in
    OnErr-then c.run-done.result c.run-done.ensures.err (λ kept.
    c.replace-idle.ensures.is ∙ (c.take_core-core.ensures.rest core ∙ (ap (set state c.args.by) kept ∙ set_back state c.args.by c.take_core-core.result c.take_core-core.ensures.core)))

pub returns-clause-kept : goal.returns-clause-kept
returns-clause-kept c =
    let p = meaning_of c.args.policy.now in let plan = c.args.plan.now in let state = c.args.state.now in let by = c.args.by in
    let unit = c.unit_of-unit.result in let core = c.run-done.new.core in let before = c.take_core-core.result in
    OnOk-then c.run-done.result c.run-done.ensures.ok (λ ran.
    let same : c.get.result.now ≡ before = let one = c.get.ensures.item in let two = c.take_core-core.ensures.core in let both = sym one ∙ two in cc in
    let is = subst (λ (x : ModelCore). IsUnit p plan c.args.round x unit) same c.unit_of-unit.ensures in
    let count = ap standing_count ran in
    subst (IsKept p 0 0 state) (sym (c.replace-idle.ensures.is ∙ c.take_core-core.ensures.rest core))
    (kept_set p state by 0 0 before core c.take_core-core.ensures.core
    (λ holds. subst (Holds p) (sym ran) (holds_unit p plan c.args.round before unit is holds))
    (let fewer = standing_unit p plan c.args.round before unit is in omega arith)))
