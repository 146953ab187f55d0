use Rattle.std.proofs.Common.{◌≡◌, ℕ, ℤ, List, ◌∷◌, ◌++◌, codes, decimal}
use Rattle.std.specs.Fmt.{signed_decimal}
use Rattle.cert_lines.specs.Text.{split_line}
use Rattle.cert_lines.proofs.Words.{nowhere, split_parts, taken_off}
use Rattle.cert_lines.proofs.node.split_in.Goals as goal

-- what stands behind the word
behind : (line rest : List ℕ) (v : ℕ) (z : ℤ) → line ≡ codes "split " ++ rest → line ≡ split_line v z → rest ≡ decimal v ++ 32 ∷ signed_decimal z
behind line rest v z one other = cc (one, other)

pub returns-in_err-variable : goal.returns-in_err-variable
returns-in_err-variable c =
    let line = taken_off c.args.line.now _ (codes "split ") c.in_ok-rest.rest.now c.as_slice.ensures c.in_ok-rest.ensures.cases.0 c.in_ok-rest.ensures.cases.1 in
    rw c.from_residual-in_err-variable.ensures (λ v z is same. nowhere 32 c.in_ok-rest.rest.now (decimal v) (signed_decimal z) c.in_err-variable.ensures (behind c.args.line.now _ v z line same))

pub returns-in_err-variable-2 : goal.returns-in_err-variable-2
returns-in_err-variable-2 c =
    let line = taken_off c.args.line.now _ (codes "split ") c.in_ok-rest.rest.now c.as_slice.ensures c.in_ok-rest.ensures.cases.0 c.in_ok-rest.ensures.cases.1 in
    rw c.from_residual-in_err-variable-2.ensures (λ v z is same. c.in_err-variable-2.ensures v is.variable_fits (split_parts c.in_ok-rest.rest.now _ _ v z c.in_ok-variable.ensures is.variable_fits (behind c.args.line.now _ v z line same)).0)

pub returns-in_err-signed_in : goal.returns-in_err-signed_in
returns-in_err-signed_in c =
    let line = taken_off c.args.line.now _ (codes "split ") c.in_ok-rest.rest.now c.as_slice.ensures c.in_ok-rest.ensures.cases.0 c.in_ok-rest.ensures.cases.1 in
    rw c.from_residual-in_err-signed_in.ensures (λ v z is same. c.in_err-signed_in.ensures z is.at_fits (split_parts c.in_ok-rest.rest.now _ _ v z c.in_ok-variable.ensures is.variable_fits (behind c.args.line.now _ v z line same)).1)
