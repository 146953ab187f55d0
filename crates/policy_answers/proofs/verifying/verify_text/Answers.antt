-- The policy that is verified is the one that the text spells.
use Rattle.std.proofs.Common.{subst}
use Rattle.policy_tree.specs.Meaning.{meaning_of}
use Rattle.cert_file.specs.Answers.{IsCauseOf}
use Rattle.policy_answers.specs.Checks.{IsCrowded}
use Rattle.policy_answers.specs.Reading.{IsReading}
use Rattle.policy_answers.proofs.verifying.verify_text.Goals as goal

pub returns-in-Faulty : goal.returns-in-Faulty
returns-in-Faulty c = subst (IsReading c.args.policy.now) c.in-Faulty.is c.in_ok-policy.ensures

pub returns-in-Ok : goal.returns-in-Ok
returns-in-Ok c =
    let read = subst (IsReading c.args.policy.now) c.in-Policy.is c.in_ok-policy.ensures in
    (meaning_of c.in-Policy.policy, read.0, c.in-Ok.ensures.verified)

pub returns-in-Err-Cases : goal.returns-in-Err-Cases
returns-in-Err-Cases c =
    let p = meaning_of c.in-Policy.policy in
    let read = subst (IsReading c.args.policy.now) c.in-Policy.is c.in_ok-policy.ensures in
    let own : IsCrowded c.args.policy.now c.in-Err-Cases.name = record {
      p = p;
      count = c.in-Err-Cases._count;
      spells = read.0;
      first = subst (IsCauseOf p c.args.certs.now) c.in-Err-Cases.field-0-is c.in-Err-Cases.ensures.cause;
    } in
    own

pub returns-in-Err-BadLine : goal.returns-in-Err-BadLine
returns-in-Err-BadLine c =
    let p = meaning_of c.in-Policy.policy in
    let read = subst (IsReading c.args.policy.now) c.in-Policy.is c.in_ok-policy.ensures in
    let cause = subst (IsCauseOf p c.args.certs.now) c.in-Err-BadLine.field-0-is c.in-Err-BadLine.ensures.cause in
    (p, read.0, cause.0, cause.1)

pub returns-in-Err-Wrong : goal.returns-in-Err-Wrong
returns-in-Err-Wrong c =
    let p = meaning_of c.in-Policy.policy in
    let read = subst (IsReading c.args.policy.now) c.in-Policy.is c.in_ok-policy.ensures in
    let cause = subst (IsCauseOf p c.args.certs.now) c.in-Err-Wrong.field-0-is c.in-Err-Wrong.ensures.cause in
    (p, read.0, cause.0, cause.1)
