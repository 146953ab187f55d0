use Rattle.c_printer.proofs.AddsLemmas.{given_ok, ◌⊳◌}
use Rattle.c_printer.proofs.printer.Printer.attempts.Goals as goal

pub returns : goal.returns
returns c =
    given_ok c.word-10.result c.word-10.ensures
    (λ last. c.in_ok-word.ensures ⊳ c.in_ok-word-2.ensures ⊳ c.in_ok-word-3.ensures ⊳ c.in_ok-word-4.ensures ⊳
    c.in_ok-word-5.ensures ⊳ c.in_ok-word-6.ensures ⊳ c.in_ok-word-7.ensures ⊳ c.in_ok-word-8.ensures ⊳
    c.in_ok-word-9.ensures ⊳ last)
