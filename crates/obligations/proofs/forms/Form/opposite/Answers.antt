use Rattle.std.proofs.Common.{ap, arith, neg_ℤ, refl, ◌∙◌}
use Rattle.obligations.specs.CodeForms.{form_seen}
use Rattle.obligations.specs.Forms.{opposite}
use Rattle.obligations.proofs.Fitting.{opposite-fits, seen-fits}
use Rattle.obligations.proofs.Stored.{stored_neg}
use Rattle.obligations.proofs.forms.Form.opposite.Goals as goal

pub returns-clause-form : goal.returns-clause-form
returns-clause-form c d is =
    let past = c.loop-variable-test.false in
    record {
      constant = stored_neg c.args.self.constant c.requires.fits.constant ∙ ap neg_ℤ is.constant;
      coefficients = λ v lt. c.loop-variable.invariant.each v (omega (arith, past, lt)) ∙ ap neg_ℤ (is.coefficients v lt);
    }

pub returns-clause-fits : goal.returns-clause-fits
returns-clause-fits c =
    let seen = form_seen c.args.self in
    seen-fits _ (opposite seen) (returns-clause-form c seen (record { constant = refl; coefficients = λ v lt. refl })) (opposite-fits seen c.requires.fits)
