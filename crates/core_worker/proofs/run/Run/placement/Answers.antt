use Rattle.std.proofs.Common.{◌∙◌, ℕ, List, ap}
use Rattle.policy_tree.specs.Meaning.{meaning_of, place_tree}
use Rattle.round_model.specs.Choices.{target_by, target_of}
use Rattle.round_model.specs.Outcomes.{values_at}
use Rattle.round_model.specs.Scenes.{scene_of}
use Rattle.core_worker.proofs.run.Run.placement.Goals as goal

pub returns-in-Here-clause-target : goal.returns-in-Here-clause-target
unfolding target_of
returns-in-Here-clause-target c s m =
    let p = meaning_of c.args.policy.now in let plan = c.args.plan.now in
    ap (λ rule. target_by (place_tree rule) plan.cores (values_at p plan s.history c.empty.result) c.args.core) c.in-Here.is

pub returns-in-Least-clause-target : goal.returns-in-Least-clause-target
unfolding scene_of
returns-in-Least-clause-target c s m =
    let p = meaning_of c.args.policy.now in let plan = c.args.plan.now in let a = c.args.core in
    ap (λ (reads : List ℕ). target_of p plan.cores (values_at p plan s.history reads) a) (c.fresh_reads.ensures p a s.history m.at.cores) ∙ c.target.ensures s.history m.at.cores
