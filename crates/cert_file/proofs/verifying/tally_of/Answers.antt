-- Behind the heading come the obligations.
use Rattle.std.proofs.Common.{[], ◌++◌, ◌∙◌, ap, sym}
use Rattle.std.proofs.lemmas.Result.{IfOk-weaker}
use Rattle.obligations.specs.Names.{ob_names}
use Rattle.cert_file.specs.BadLines.{all, parts}
use Rattle.cert_file.specs.Reading.{FailsFrom}
use Rattle.cert_file.proofs.Whole.{no_heading, whole_fails, whole_tally, with_heading}
use Rattle.cert_file.proofs.Within.{err_weaker}
use Rattle.cert_file.proofs.verifying.tally_of.Goals as goal

pub returns-in-None-clause-fault : goal.returns-in-None-clause-fault
returns-in-None-clause-fault c = λ p same. no_heading c.args.text.now (λ rest is. c.in-None.ensures rest (is ∙ ap (λ w. w ++ rest) (sym c.as_slice.ensures)))

pub returns-clause-tally : goal.returns-clause-tally
returns-clause-tally c = λ p same.
    let heading = with_heading c.args.text.now c.in-Some.bytes.now (c.in-Some.ensures ∙ ap (λ w. w ++ c.in-Some.bytes.now) c.as_slice.ensures) in
    IfOk-weaker c.next_obligations.result _ _ (λ tally is. whole_tally p c.args.text.now c.in-Some.bytes.now tally heading is) (c.next_obligations.ensures.tally p ob_names same)

pub returns-clause-fault : goal.returns-clause-fault
returns-clause-fault c = λ p same.
    let heading = with_heading c.args.text.now c.in-Some.bytes.now (c.in-Some.ensures ∙ ap (λ w. w ++ c.in-Some.bytes.now) c.as_slice.ensures) in
    err_weaker c.next_obligations.result (FailsFrom (parts [] 0 0 ob_names) 2 c.in-Some.bytes.now) (FailsFrom all 1 c.args.text.now)
    (λ fault fails. whole_fails c.args.text.now c.in-Some.bytes.now fault heading fails) (c.next_obligations.ensures.fault p ob_names same)
