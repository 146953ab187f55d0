use Rattle.std.proofs.Common.{◌≡◌, ◌++◌, [], ◌∷◌, List, length, ap, ap₂, ◌∙◌, sym, arith}
use Rattle.std.proofs.lemmas.List.FromFn.{length-map-range_with_len, map-range_with_len_more}
use Rattle.round_model.specs.declared.state.ModelCore.{ModelCore}
use Rattle.round_model.specs.Cores.{opening_state}
use Rattle.round_model.proofs.Openings.{opening_at}
use Rattle.round_judge.proofs.past.opening.Goals as goal

pub push-requires : goal.push-requires
push-requires c =
    let core = c.loop-core.core in
    let count : length c.loop-core.state ≡ core = ap length c.loop-core.invariant ∙ length-map-range_with_len (opening_state c.args.plan.now) 0 core in
    let few = c.requires.few_cores in omega arith

pub loop-core-preserved : goal.loop-core-preserved
loop-core-preserved c =
    let plan = c.args.plan.now in let core = c.loop-core.core in
    c.in_ok-push.ensures.ok
    ∙ (ap₂ (λ (state : List ModelCore) (last : ModelCore). state ++ last ∷ []) c.loop-core.invariant (c.idle.ensures ∙ sym (opening_at plan core c.get.result.now c.get.ensures.item))
    ∙ sym (map-range_with_len_more (opening_state plan) 0 core core (omega arith)))
