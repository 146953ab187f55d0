-- A policy is told to have an obligation with too many cases exactly where it has one, and one of differences is decided.
use Rattle.std.proofs.Common.{◌≡◌, ℕ, sym, subst}
use Rattle.policy_tree.specs.Meaning.{meaning_of}
use Rattle.obligations.specs.declared.names.ObName.{ObName}
use Rattle.obligations.specs.Counts.{first_crowded}
use Rattle.obligations.specs.Names.{ob_names}
use Rattle.policy_checker.proofs.Decided.{differences_are_decided}
use Rattle.policy_checker.proofs.Kept.{no_crowd}
use Rattle.policy_checker.proofs.checking.check_policy.Goals as goal

pub returns-in-Ok-clause-crowded : goal.returns-in-Ok-clause-crowded
returns-in-Ok-clause-crowded c name count =
    ((λ e. absurd (let clash : ⊥ = cc in clash)), (λ crowd. absurd (let told = (c.in-Ok.ensures.crowded name count).1 crowd in let clash : ⊥ = cc in clash)))

pub returns-in-Ok-clause-verdict : goal.returns-in-Ok-clause-verdict
returns-in-Ok-clause-verdict c = c.verdict_of.ensures.verdict c.args.budget c.in-Ok.ensures.answers

pub returns-in-Err-Cases-clause-crowded : goal.returns-in-Err-Cases-clause-crowded
returns-in-Err-Cases-clause-crowded c name count =
    let here = c.in-Err-Cases.field-0-is in
    ((λ e. (c.in-Err-Cases.ensures.crowded name count).0 (cc)), (λ crowd. let told = (c.in-Err-Cases.ensures.crowded name count).1 crowd in cc))

pub returns-in-Err-Memory-clause-crowded : goal.returns-in-Err-Memory-clause-crowded
returns-in-Err-Memory-clause-crowded c name count =
    let here = c.in-Err-Memory.field-0-is in
    ((λ e. absurd (let clash : ⊥ = cc in clash)), (λ crowd. absurd (let told = (c.in-Err-Memory.ensures.crowded name count).1 crowd in let clash : ⊥ = cc in clash)))

pub returns-in-Ok-clause-decided : goal.returns-in-Ok-clause-decided
returns-in-Ok-clause-decided c form =
    let is = c.verdict_of.ensures.verdict c.args.budget c.in-Ok.ensures.answers in
    differences_are_decided.verdicts (meaning_of c.args.policy) form c.args.budget c.verdict_of.result is

-- where the obligations are answered, none has too many cases
pub verdict_of-requires-clause-few : goal.verdict_of-requires-clause-few
verdict_of-requires-clause-few c =
    no_crowd (first_crowded (meaning_of c.args.policy) ob_names)
    (λ (crowd : ObName × ℕ) e. let told = (c.in-Ok.ensures.crowded crowd.0 crowd.1).1 e in let clash : ⊥ = cc in clash)
