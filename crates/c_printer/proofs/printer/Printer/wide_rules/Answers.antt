use Rattle.std.proofs.Common.{ap, ◌∙◌}
use Rattle.c_printer.specs.StructTexts.{digit_text}
use Rattle.c_printer.proofs.AddsLemmas.{given_ok, reads_as, ◌⊳◌}
use Rattle.c_printer.proofs.printer.Printer.wide_rules.Goals as goal

pub returns : goal.returns
returns c =
    given_ok c.word-4.result c.word-4.ensures
    (λ last. c.in_ok-word.ensures ⊳ c.in_ok-word-2.ensures ⊳ reads_as c.as_slice.ensures.items c.in_ok-name.ensures ⊳
    c.in_ok-word-3.ensures ⊳ reads_as (c.digit_text.ensures ∙ ap digit_text c.is_wide_policy.ensures) last)
