use Rattle.c_printer.proofs.AddsLemmas.{given_ok, ◌⊳◌}
use Rattle.c_printer.proofs.printer.Printer.wide_cut.Goals as goal

pub returns : goal.returns
returns c =
    given_ok c.word-7.result c.word-7.ensures
    (λ last. c.in_ok-word.ensures ⊳ c.in_ok-word-2.ensures ⊳ c.in_ok-name.ensures ⊳ c.in_ok-word-3.ensures ⊳
    c.in_ok-end.ensures ⊳ c.in_ok-word-4.ensures ⊳ c.in_ok-end-2.ensures ⊳ c.in_ok-word-5.ensures ⊳
    c.in_ok-end-3.ensures ⊳ c.in_ok-word-6.ensures ⊳ c.in_ok-end-4.ensures ⊳ last)
