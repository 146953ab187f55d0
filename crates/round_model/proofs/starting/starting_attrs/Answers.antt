use Rattle.std.proofs.Common.{◌≡◌, ◌+◌, ◌-◌, suc, ap, ap₂, ◌∙◌, List, ℤ, set, pos, map, take, replicate, ◌++◌, FitsSigned, arith}
use Rattle.std.specs.Int.{w32}
use Rattle.std.proofs.lemmas.Int.{to_z-of_z}
use Rattle.sched_base.specs.declared.limits.TheConstants.{MAX_ATTRIBUTES}
use Rattle.round_model.specs.Programs.{start_of}
use Rattle.round_model.proofs.Keeping.{fill_step}
use Rattle.round_model.proofs.starting.starting_attrs.Goals as goal

pub loop-at-preserved : goal.loop-at-preserved
loop-at-preserved c =
    let written = c.start_of.result in let at = c.loop-at.at in let attrs = c.args.policy.now.thread_attrs in let attr = c.get.result.now in
    let fits : FitsSigned w32 written = record { sfits = c.start_of.type_inv } in
    let few = c.requires in
    let more : MAX_ATTRIBUTES - at ≡ suc (MAX_ATTRIBUTES - (at + 1)) = omega arith in
    ap₂ (λ (list : List ℤ) (x : ℤ). set list at x) c.loop-at.invariant (to_z-of_z w32 written fits ∙ c.start_of.ensures)
    ∙ (ap (λ k. set (map start_of (take at attrs) ++ replicate k (pos 0)) at attr.start) more
    ∙ (fill_step start_of (pos 0) attrs at (MAX_ATTRIBUTES - (at + 1)) attr c.get.ensures.item
    ∙ ap (λ k. map start_of (take k attrs) ++ replicate (MAX_ATTRIBUTES - (at + 1)) (pos 0)) (let next : suc at ≡ at + 1 = omega arith in next)))
