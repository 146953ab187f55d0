use Rattle.std.proofs.Common.{◌≡◌, ◌∷◌, [], subst}
use Rattle.cert_lines.specs.Nodes.{BeginsWithMult}
use Rattle.cert_lines.proofs.Words.{mult_parts, taken_off}
use Rattle.cert_lines.proofs.node.mult_at.Goals as goal

pub returns-in_err-mult : goal.returns-in_err-mult
returns-in_err-mult c =
    let text : c.args.text.now ≡ 32 ∷ c.in_ok-words.words.now = taken_off c.args.text.now _ (32 ∷ []) c.in_ok-words.words.now c.as_slice.ensures c.in_ok-words.ensures.cases.0 c.in_ok-words.ensures.cases.1 in
    rw c.from_residual-in_err-mult.ensures (λ mult more begins.
    c.in_err-mult.ensures mult begins.fits (mult_parts c.in_ok-words.words.now c.front.result.0.now c.front.result.1.now mult more c.front.ensures.whole c.front.ensures.front c.front.ensures.rest (subst (λ t. BeginsWithMult t mult more) text begins)).0)
