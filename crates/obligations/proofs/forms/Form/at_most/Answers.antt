use Rattle.std.proofs.Common.{◌≡◌, ap, ap₂, ◌∙◌, arith, get_or, pos, List, ℤ, ◌-ℤ◌}
use Rattle.linear_form.specs.declared.form.Row.{Row}
use Rattle.linear_form.specs.declared.form.Term.{Term}
use Rattle.obligations.specs.Forms.{at_most, terms_below}
use Rattle.obligations.proofs.Stored.{stored_bound}
use Rattle.obligations.proofs.Values.{terms_below-same}
use Rattle.obligations.proofs.forms.Form.at_most.Goals as goal

abbrev row : List Term → ℤ → Row
row terms bound = record { terms = terms; bound = bound }

pub returns : goal.returns
unfolding at_most
returns c d is =
    let form = c.args.self.now in
    let end = c.loop-variable.auto.variable-end in let past = c.loop-variable-test.false in
    let all : c.loop-variable.variable ≡ 30 = omega (arith, end, past) in
    ap₂ row
    (c.from_vec.ensures
    ∙ (c.loop-variable.invariant.terms
    ∙ (ap (terms_below (λ v. get_or form.coefficients v (pos 0))) all ∙ terms_below-same (λ v. get_or form.coefficients v (pos 0)) d.coefficient 30 is.coefficients)))
    (stored_bound c.args.most form.constant c.requires.most c.requires.fits.constant ∙ ap (λ k. c.args.most -ℤ k) is.constant)
