use Rattle.std.proofs.Common.{ℕ, subst}
use Rattle.policy_tree.specs.Meaning.{meaning_of}
use Rattle.round_model.specs.declared.state.ModelCore.{ModelCore}
use Rattle.round_model.specs.After.{after}
use Rattle.round_model.proofs.States.{listed_at}
use Rattle.round_judge.specs.Units.{IsUnit}
use Rattle.round_judge.proofs.unit.next_unit.Goals as goal

pub returns : goal.returns
returns c history stands =
    let p = meaning_of c.args.policy.now in let plan = c.args.plan.now in
    let same = listed_at plan.cores (after p plan history) c.args.past.now.state c.args.core c.get-state.result.now stands.state c.get-state.ensures.item c.requires.core in
    subst (λ (round : ℕ). IsUnit p plan round (after p plan history c.args.core) c.unit_of.result) stands.round
    (subst (λ (core : ModelCore). IsUnit p plan c.args.past.now.rounds core c.unit_of.result) same c.unit_of.ensures)
