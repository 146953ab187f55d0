use Rattle.c_printer.proofs.AddsLemmas.{given_ok, reads_as, ◌⊳◌}
use Rattle.c_printer.proofs.printer.Printer.applied.Goals as goal

pub returns : goal.returns
returns c =
    given_ok c.word-2.result c.word-2.ensures
    (λ last. c.in_ok-word.ensures ⊳ reads_as c.as_slice.ensures.items c.in_ok-name.ensures ⊳ last)
