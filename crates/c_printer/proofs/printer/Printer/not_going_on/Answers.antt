use Rattle.c_printer.proofs.AddsLemmas.{given_ok, ◌⊳◌}
use Rattle.c_printer.proofs.printer.Printer.not_going_on.Goals as goal

pub returns : goal.returns
returns c =
    given_ok c.word-2.result c.word-2.ensures
    (λ last. c.in_ok-asked.ensures ⊳ c.in_ok-two_cores.ensures ⊳ c.in_ok-word.ensures ⊳
    c.in_ok-thread.ensures ⊳ last)
