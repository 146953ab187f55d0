use Rattle.c_printer.proofs.AddsLemmas.{given_ok, reads_as, ◌⊳◌}
use Rattle.c_printer.proofs.printer.Printer.head.Goals as goal

pub returns : goal.returns
returns c =
    given_ok c.word-11.result c.word-11.ensures
    (λ last. c.in_ok-word.ensures ⊳ reads_as c.as_slice.ensures.items c.in_ok-name.ensures ⊳
    c.in_ok-word-2.ensures ⊳ reads_as c.as_slice-2.ensures.items c.in_ok-name-2.ensures ⊳
    c.in_ok-word-3.ensures ⊳ c.in_ok-word-4.ensures ⊳ c.in_ok-word-5.ensures ⊳ c.in_ok-word-6.ensures ⊳
    c.in_ok-word-7.ensures ⊳ c.in_ok-word-8.ensures ⊳ c.in_ok-word-9.ensures ⊳ c.in_ok-word-10.ensures ⊳ last)
