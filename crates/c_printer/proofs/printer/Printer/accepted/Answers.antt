use Rattle.c_printer.proofs.AddsLemmas.{given_ok, reads_as, ◌⊳◌}
use Rattle.c_printer.proofs.printer.Printer.accepted.Goals as goal

pub returns : goal.returns
returns c =
    given_ok c.word-3.result c.word-3.ensures
    (λ last. c.in_ok-word.ensures ⊳ reads_as c.as_slice.ensures.items c.in_ok-name.ensures ⊳
    c.in_ok-word-2.ensures ⊳ reads_as c.accepted_text.ensures last)
