use Rattle.std.proofs.Common.{ap, arith}
use Rattle.std.proofs.lemmas.Bool.Decides.{nat_tests}
use Rattle.std.proofs.lemmas.List.{nil_from_length}
use Rattle.text_forms.specs.Lines.{lines_of}
use Rattle.text_forms.proofs.TextLemmas.{line_first}
use Rattle.text_forms.proofs.lines.first_line.Goals as goal

pub returns-then-is_empty-clause-none : goal.returns-then-is_empty-clause-none
unfolding lines_of
returns-then-is_empty-clause-none c = ap lines_of (nil_from_length c.args.text.now (grind (arith, nat_tests)))

pub returns-else-is_empty-clause-line : goal.returns-else-is_empty-clause-line
returns-else-is_empty-clause-line c =
    let text = c.args.text.now in
    rw (c.cut_at.ensures.front, c.cut_at.ensures.back, c.line_len.ensures.len) (line_first text (grind (arith, nat_tests)))
