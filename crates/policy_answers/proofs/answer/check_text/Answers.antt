-- The policy that is judged is the one that the text spells.
use Rattle.std.proofs.Common.{◌≡◌, ℕ, Err, ap, sym, subst, ◌∙◌}
use Rattle.policy_tree.specs.declared.typed.Policy.{Policy}
use Rattle.policy_tree.specs.Meaning.{meaning_of}
use Rattle.obligations.specs.declared.names.ObName.{ObName}
use Rattle.obligations.specs.Counts.{first_crowded}
use Rattle.obligations.specs.Names.{ob_names}
use Rattle.policy_checker.specs.Verdicts.{returned_by}
use Rattle.policy_checker.specs.declared.verdict.CheckFault.{CheckFault}
use Rattle.policy_checker.specs.declared.verdict.CheckFault.TheVariants.{Cases}
use Rattle.policy_answers.specs.Checks.{IsJudged}
use Rattle.policy_answers.specs.Reading.{IsReading}
use Rattle.policy_checker.proofs.Kept.{no_crowd}
use Rattle.policy_answers.proofs.answer.check_text.Goals as goal

pub returns-in-Faulty : goal.returns-in-Faulty
returns-in-Faulty c = subst (IsReading c.args.text.now) c.in-Faulty.is c.in_ok-policy.ensures

pub returns-in-Ok : goal.returns-in-Ok
returns-in-Ok c =
    let text = c.args.text.now in
    let p = meaning_of c.in-Policy.policy in
    let read = subst (IsReading text) c.in-Policy.is c.in_ok-policy.ensures in
    let few = no_crowd (first_crowded p ob_names) (λ (crowd : ObName × ℕ) e. let told = (c.in-Ok.ensures.crowded crowd.0 crowd.1).1 e in let clash : ⊥ = cc in clash) in
    subst (λ (policy : Policy). IsJudged text (meaning_of policy) c.in-Ok.verdict) (sym c.in-Ok.ensures.keeps)
    (record { spells = read.0; few = few; is = c.in-Ok.ensures.verdict })

pub returns-in-Err-Cases : goal.returns-in-Err-Cases
returns-in-Err-Cases c =
    let text = c.args.text.now in
    let policy = c.in-Policy.policy in
    let name = c.in-Err-Cases.name in
    let count = c.in-Err-Cases._count in
    let read = subst (IsReading text) c.in-Policy.is c.in_ok-policy.ensures in
    let is = c.in-Err-Cases.field-0-is in
    let same = subst (λ (fault : CheckFault). returned_by fault ≡ policy) is c.in-Err-Cases.ensures.returned in
    record {
      p = meaning_of policy;
      count = count;
      spells = read.0;
      first = (c.in-Err-Cases.ensures.crowded name count).0 (ap Err (is ∙ ap (λ (q : Policy). Cases name count q) same));
    }
