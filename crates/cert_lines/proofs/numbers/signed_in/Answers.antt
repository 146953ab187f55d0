use Rattle.std.proofs.Common.{◌≡◌, ◌≢◌, IsUtf8, FitsSigned, to_z-of_z, ap, sym, subst, ◌∙◌, arith, rules}
use Rattle.std.specs.Fmt.{signed_decimal}
use Rattle.std.specs.Int.{w64}
use Rattle.std.proofs.lemmas.Int.{ints}
use Rattle.std.proofs.lemmas.Fmt.{IsAscii-signed, parse-signed_decimal}
use Rattle.std.proofs.lemmas.Str.{IsUtf8-from_ascii}
use Rattle.cert_lines.proofs.numbers.signed_in.Goals as goal

pub returns-in-Err : goal.returns-in-Err
returns-in-Err c z fits same = c.in-Err.ensures.cases.0 (subst IsUtf8 (sym same) (IsUtf8-from_ascii _ (IsAscii-signed z (omega (arith, ints, fits)))))

pub returns-in-Err-parse : goal.returns-in-Err-parse
returns-in-Err-parse c z fits same =
    let parsed = parse-signed_decimal w64 z c.in-Ok.text.now c.parse.result fits (omega (arith, ints, fits)) (c.in-Ok.ensures.cases.0 ∙ same) c.parse.ensures.value.0 in
    cc (parsed, c.in-Err-parse.is)

pub returns-else-eq : goal.returns-else-eq
returns-else-eq c z fits same =
    let parsed = parse-signed_decimal w64 z c.in-Ok.text.now c.parse.result fits (omega (arith, ints, fits)) (c.in-Ok.ensures.cases.0 ∙ same) c.parse.ensures.value.0 in
    let number : c.in-Ok-parse.number ≡ z = cc (parsed, c.in-Ok-parse.is) in
    let own : FitsSigned w64 c.in-Ok-parse.number = search rules in
    let differ : c.format.result.now ≢ c.in-Ok.text.now = search rules in
    differ (c.format.ensures.text ∙ ap signed_decimal (to_z-of_z own ∙ number) ∙ sym same ∙ sym c.in-Ok.ensures.cases.0)
