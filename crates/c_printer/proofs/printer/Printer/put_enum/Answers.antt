use Rattle.c_printer.proofs.AddsLemmas.{given_ok, reads_as, ◌⊳◌}
use Rattle.c_printer.proofs.printer.Printer.put_enum.Goals as goal

pub returns : goal.returns
returns c =
    given_ok c.word-6.result c.word-6.ensures
    (λ last. c.in_ok-word.ensures ⊳ c.in_ok-word-2.ensures ⊳ reads_as c.as_slice.ensures.items c.in_ok-name.ensures ⊳
    c.in_ok-word-3.ensures ⊳ reads_as c.as_slice-2.ensures.items c.in_ok-name-2.ensures ⊳
    c.in_ok-word-4.ensures ⊳ reads_as c.as_slice-3.ensures.items c.in_ok-name-3.ensures ⊳
    c.in_ok-word-5.ensures ⊳ reads_as c.as_slice-4.ensures.items c.in_ok-name-4.ensures ⊳ last)
