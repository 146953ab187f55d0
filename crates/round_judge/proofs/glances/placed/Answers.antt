use Rattle.std.proofs.Common.{◌≡◌, ◌∙◌, ap, sym, length, take, arith}
use Rattle.std.proofs.lemmas.List.{length-take}
use Rattle.policy_tree.specs.Meaning.{meaning_of}
use Rattle.policy_eval.specs.Fitting.{CoreFits}
use Rattle.round_model.specs.Choices.{target_of, values_in}
use Rattle.round_model.specs.Outcomes.{values_at}
use Rattle.round_model.proofs.Outcomes.{target_same, values_All, values_in-take}
use Rattle.round_judge.proofs.glances.placed.Goals as goal

pub target-requires-clause-values : goal.target-requires-clause-values
target-requires-clause-values c =
    let p = meaning_of c.args.policy.now in let few = c.requires.past.limits.few_cores in
    values_All (CoreFits p) c.args.plan.now.cores c.read_values.new.values
    (c.read_values.ensures.fits p c.requires.fits c.requires.past) (omega (arith, c.read_values.ensures.len))

pub returns : goal.returns
returns c history stands =
    let p = meaning_of c.args.policy.now in let plan = c.args.plan.now in let few = c.requires.past.limits.few_cores in
    let values = c.read_values.new.values in let first = take plan.cores values in
    let count : length first ≡ plan.cores = omega (arith, length-take plan.cores values, c.read_values.ensures.len) in
    let seen = values_at p plan history c.args.reads.now in
    sym (target_same p plan.cores (values_in first) seen
    (λ k there. values_in-take plan.cores values k there ∙ c.read_values.ensures.values p history stands k there) c.args.core)
    ∙ (sym (ap (λ n. target_of p n (values_in first) c.args.core) count) ∙ c.target.ensures)
