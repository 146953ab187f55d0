use Rattle.std.proofs.Common.{◌≡◌, ◌∙◌, ap, length, take, arith}
use Rattle.std.proofs.lemmas.List.{length-take}
use Rattle.policy_tree.specs.Meaning.{meaning_of}
use Rattle.round_model.specs.Choices.{choice_of, values_in}
use Rattle.round_model.proofs.Outcomes.{choice_same, values_in-take}
use Rattle.core_moves.specs.Sights.{values_now}
use Rattle.core_moves.proofs.Seeing.{all_countable, count, seen_all_fit, seen_now}
use Rattle.core_moves.proofs.cores.Cores.choice.Goals as goal

pub see_all-requires-clause-cores : goal.see_all-requires-clause-cores
see_all-requires-clause-cores c = count (meaning_of c.args.policy.now) c.args.plan.now c.args.self.now c.requires.reached

pub see_all-requires-clause-countable : goal.see_all-requires-clause-countable
see_all-requires-clause-countable c = all_countable (meaning_of c.args.policy.now) c.args.plan.now c.args.self.now c.requires.reached c.requires.fits c.requires.handlers

pub choice-requires-clause-values : goal.choice-requires-clause-values
choice-requires-clause-values c =
    seen_all_fit (meaning_of c.args.policy.now) c.args.plan.now c.args.self.now c.requires.reached c.requires.fits c.requires.handlers
    c.see_all.new.values c.see_all.ensures.len (λ k there. c.see_all.ensures.each k)

pub returns-clause-choice : goal.returns-clause-choice
returns-clause-choice c h are =
    let p = meaning_of c.args.policy.now in let plan = c.args.plan.now in let few = c.requires.limits.few_cores in
    let values = c.see_all.new.values in let first = take plan.cores values in
    let many : length first ≡ plan.cores = omega (arith, length-take plan.cores values, c.see_all.ensures.len) in
    c.choice.ensures.choice ∙ (ap (λ n. choice_of p n (values_in first) c.args.core) many
    ∙ choice_same p plan.cores (values_in first) (values_now p plan h c.args.core)
    (λ k there. values_in-take plan.cores values k there ∙ seen_now p plan c.args.self.now h are c.args.core k (values_in values k) there (c.see_all.ensures.each k)) c.args.core c.requires.core)
