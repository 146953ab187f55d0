use Rattle.std.proofs.Common.{◌∙◌, inl, inr, refl}
use Rattle.policy_tree.specs.Meaning.{meaning_of}
use Rattle.round_model.proofs.Moved.{unmoved_fail, unmoved_pass, unmoved_round}
use Rattle.round_model.proofs.States.{listed_same}
use Rattle.round_judge.proofs.adding.change.Goals as goal

pub returns-in-Round-clause-ok : goal.returns-in-Round-clause-ok
returns-in-Round-clause-ok c n m is there told =
    let p = meaning_of c.args.policy.now in let plan = c.args.plan.now in
    is ∙ listed_same n m _ (λ k inside. elim c.in-Round.is [
      | inl round ↦ unmoved_round p plan c.args.round m round.0 k ∙ rw round.1 refl
      | inr (inl fail) ↦ unmoved_fail p plan c.args.round m fail.0 fail.1 fail.2 k ∙ rw fail.3 refl
      | inr (inr pass) ↦ unmoved_pass p plan c.args.round m pass.0 pass.1 k ∙ rw pass.2 refl
    ])
