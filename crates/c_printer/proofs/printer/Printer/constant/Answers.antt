use Rattle.c_printer.proofs.AddsLemmas.{given_ok, reads_as, ◌⊳◌}
use Rattle.c_printer.proofs.printer.Printer.constant.Goals as goal

pub returns : goal.returns
returns c =
    given_ok c.word-4.result c.word-4.ensures
    (λ last. c.in_ok-word.ensures ⊳ reads_as c.as_slice.ensures.items c.in_ok-name.ensures ⊳
    c.in_ok-word-2.ensures ⊳ c.in_ok-word-3.ensures ⊳ reads_as c.as_slice-2.ensures.items c.in_ok-name-2.ensures ⊳ last)
