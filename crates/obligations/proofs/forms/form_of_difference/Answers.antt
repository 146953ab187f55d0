use Rattle.std.proofs.Common.{arith}
use Rattle.obligations.specs.CodeForms.{form_seen}
use Rattle.obligations.specs.Forms.{at_weight}
use Rattle.obligations.proofs.Fitting.{at_weight-fits, seen-fits}
use Rattle.obligations.proofs.forms.form_of_difference.Goals as goal

pub returns-in-Some-clause-fits : goal.returns-in-Some-clause-fits
returns-in-Some-clause-fits c =
    let light = c.in-Some.ensures.light in
    let plain = form_seen c.plain_form-plain.result in
    seen-fits c.at_weight.result (at_weight c.in-Some.weight plain) c.at_weight.ensures (at_weight-fits c.in-Some.weight plain (omega (arith, light)) c.plain_form-plain.ensures.small)
