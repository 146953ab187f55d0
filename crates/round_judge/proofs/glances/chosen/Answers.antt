use Rattle.std.proofs.Common.{◌≡◌, ◌≢◌, ℕ, ◌<◌, Option, IfSome, ◌∙◌, ap, sym, subst, length, take, arith}
use Rattle.std.proofs.lemmas.List.{length-take}
use Rattle.policy_tree.specs.Meaning.{meaning_of}
use Rattle.policy_eval.specs.Fitting.{CoreFits}
use Rattle.round_model.specs.Choices.{choice_of, values_in}
use Rattle.round_model.specs.Outcomes.{values_at}
use Rattle.round_model.proofs.Outcomes.{choice_other, choice_same, values_All, values_in-take}
use Rattle.round_judge.proofs.glances.chosen.Goals as goal

pub choice-requires-clause-values : goal.choice-requires-clause-values
choice-requires-clause-values c =
    let p = meaning_of c.args.policy.now in let few = c.requires.past.limits.few_cores in
    values_All (CoreFits p) c.args.plan.now.cores c.read_values.new.values
    (c.read_values.ensures.fits p c.requires.fits c.requires.past) (omega (arith, c.read_values.ensures.len))

pub returns-clause-choice : goal.returns-clause-choice
returns-clause-choice c history stands =
    let p = meaning_of c.args.policy.now in let plan = c.args.plan.now in let few = c.requires.past.limits.few_cores in
    let values = c.read_values.new.values in let first = take plan.cores values in
    let count : length first ≡ plan.cores = omega (arith, length-take plan.cores values, c.read_values.ensures.len) in
    c.choice.ensures.choice ∙ (ap (λ n. choice_of p n (values_in first) c.args.core) count
    ∙ choice_same p plan.cores (values_in first) (values_at p plan history c.args.reads.now)
    (λ k there. values_in-take plan.cores values k there ∙ c.read_values.ensures.values p history stands k there) c.args.core c.requires.core)

pub returns-clause-there : goal.returns-clause-there
returns-clause-there c =
    let p = meaning_of c.args.policy.now in let plan = c.args.plan.now in let few = c.requires.past.limits.few_cores in
    let values = c.read_values.new.values in let first = take plan.cores values in
    let count : length first ≡ plan.cores = omega (arith, length-take plan.cores values, c.read_values.ensures.len) in
    subst (λ (o : Option ℕ). IfSome o (λ v. (v < plan.cores) × (c.args.core ≢ v)))
    (sym (c.choice.ensures.choice ∙ ap (λ n. choice_of p n (values_in first) c.args.core) count))
    (choice_other p plan.cores (values_in first) c.args.core)
