use Rattle.std.proofs.Common.{◌≡◌, ◌≢◌, IsUtf8, decimal, ap, sym, subst, ◌∙◌, rules}
use Rattle.std.proofs.lemmas.Fmt.{IsAscii-decimal, parse-decimal}
use Rattle.std.proofs.lemmas.Str.{IsUtf8-from_ascii}
use Rattle.cert_lines.proofs.numbers.unsigned_in.Goals as goal

pub returns-in-Err : goal.returns-in-Err
returns-in-Err c n lt same = c.in-Err.ensures.cases.0 (subst IsUtf8 (sym same) (IsUtf8-from_ascii _ (IsAscii-decimal n lt)))

pub returns-in-Err-parse : goal.returns-in-Err-parse
returns-in-Err-parse c n lt same =
    let parsed = parse-decimal 64 n c.in-Ok.text.now c.parse.result lt lt (c.in-Ok.ensures.cases.0 ∙ same) c.parse.ensures.value.0 in
    cc (parsed, c.in-Err-parse.is)

pub returns-else-eq : goal.returns-else-eq
returns-else-eq c n lt same =
    let parsed = parse-decimal 64 n c.in-Ok.text.now c.parse.result lt lt (c.in-Ok.ensures.cases.0 ∙ same) c.parse.ensures.value.0 in
    let number : c.in-Ok-parse.number ≡ n = cc (parsed, c.in-Ok-parse.is) in
    let differ : c.format.result.now ≢ c.in-Ok.text.now = search rules in
    differ (c.format.ensures.text ∙ ap decimal number ∙ sym same ∙ sym c.in-Ok.ensures.cases.0)
