-- The policy is the one that is built, an accepted one is the one that is lent, and none of its obligations has too many
-- cases.
use Rattle.std.proofs.Common.{◌≡◌, ◌∙◌, Err, ap, sym, subst}
use Rattle.policy_tree.specs.declared.typed.Policy.{Policy}
use Rattle.policy_tree.specs.Meaning.{Meaning}
use Rattle.policy_eval.specs.Resolved.{IsResolved}
use Rattle.obligations.specs.Counts.{first_crowded}
use Rattle.obligations.specs.Names.{ob_names}
use Rattle.policy_checker.specs.Verdicts.{returned_by}
use Rattle.policy_checker.specs.declared.verdict.CheckFault.{CheckFault}
use Rattle.policy_checker.specs.declared.verdict.CheckFault.TheVariants.{Cases}
use Rattle.fair_policy.proofs.FairResolved.{fair_resolved}
use Rattle.ipanema_cli.proofs.BenchTruths.{few_cases, sized}
use Rattle.ipanema_cli.proofs.Failing.{if_failed}
use Rattle.ipanema_cli.proofs.answers.bench.Goals as goal

pub check_policy-requires : goal.check_policy-requires
check_policy-requires c = subst IsResolved (sym c.in_ok-policy.ensures.meaning) fair_resolved

pub play_bench-requires-clause-size : goal.play_bench-requires-clause-size
play_bench-requires-clause-size c = sized c.args.size c.requires

pub unreachable-requires : goal.unreachable-requires
unreachable-requires c =
    let policy = c.in_ok-policy.policy in
    let name = c.in-Err-Cases._name in
    let count = c.in-Err-Cases._count in
    let is = c.in-Err-Cases.field-0-is in
    let same = subst (λ (fault : CheckFault). returned_by fault ≡ policy) is c.in-Err-Cases.ensures.returned in
    let first = (c.in-Err-Cases.ensures.crowded name count).0 (ap Err (is ∙ ap (λ (q : Policy). Cases name count q) same)) in
    let none = ap (λ (p : Meaning). first_crowded p ob_names) c.in_ok-policy.ensures.meaning ∙ few_cases in
    let clash = sym none ∙ first in
    absurd (cc)

pub returns-in_err-play_bench-in-Ok-Accepted-clause-memory : goal.returns-in_err-play_bench-in-Ok-Accepted-clause-memory
returns-in_err-play_bench-in-Ok-Accepted-clause-memory c = if_failed _ c.from_residual-in_err-play_bench-in-Ok-Accepted.result c.from_residual-in_err-play_bench-in-Ok-Accepted.ensures.1
