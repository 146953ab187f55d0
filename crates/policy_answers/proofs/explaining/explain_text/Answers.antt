-- The policy whose obligation is explained is the one that the text spells.
use Rattle.std.proofs.Common.{ℕ, Err, ap, sym, subst}
use Rattle.policy_tree.specs.Meaning.{meaning_of}
use Rattle.obligations.specs.declared.names.ObName.{ObName}
use Rattle.obligations.specs.Counts.{first_crowded}
use Rattle.obligations.specs.Names.{ob_names, statement_of}
use Rattle.policy_answers.specs.Checks.{IsCrowded}
use Rattle.policy_answers.specs.Reading.{IsReading}
use Rattle.policy_checker.proofs.Kept.{no_crowd}
use Rattle.policy_answers.proofs.Values.{has_values}
use Rattle.policy_answers.proofs.explaining.explain_text.Goals as goal

pub returns-in-Faulty : goal.returns-in-Faulty
returns-in-Faulty c = subst (IsReading c.args.text.now) c.in-Faulty.is c.in_ok-policy.ensures

pub explained-requires-clause-values : goal.explained-requires-clause-values
explained-requires-clause-values c =
    let read = subst (IsReading c.args.text.now) c.in-Policy.is c.in_ok-policy.ensures in
    has_values (meaning_of c.in-Policy.policy) read.1 (statement_of c.args.name) c.in-Ok.one.vars c.in-Ok.one.answer c.in-Ok.ensures.vars c.in-Ok.ensures.answer

pub returns-in-Ok : goal.returns-in-Ok
returns-in-Ok c =
    let p = meaning_of c.in-Policy.policy in
    let read = subst (IsReading c.args.text.now) c.in-Policy.is c.in_ok-policy.ensures in
    record {
      p = p;
      answer = c.in-Ok.one.answer;
      spells = read.0;
      few = no_crowd (first_crowded p ob_names) (λ (crowd : ObName × ℕ) e. let told = (c.in-Ok.ensures.crowded crowd.0 crowd.1).1 e in let clash : ⊥ = cc in clash);
      is = c.in-Ok.ensures.answer;
      told = c.in_ok-explained-in-Ok.ensures.told;
      line = c.in_ok-explained-in-Ok.ensures.line;
    }

pub returns-in-Err-Cases : goal.returns-in-Err-Cases
returns-in-Err-Cases c =
    let text = c.args.text.now in
    let read = subst (IsReading text) c.in-Policy.is c.in_ok-policy.ensures in
    let own : IsCrowded text c.in-Err-Cases.crowd = record {
      p = meaning_of c.in-Policy.policy;
      count = c.in-Err-Cases._count;
      spells = read.0;
      first = (c.in-Err-Cases.ensures.crowded c.in-Err-Cases.crowd c.in-Err-Cases._count).0 (ap Err c.in-Err-Cases.field-0-is);
    } in
    subst (IsCrowded text) (sym c.in-Err-Cases.crowd-is) own
