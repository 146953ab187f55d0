use Rattle.c_printer.proofs.AddsLemmas.{given_ok, ◌⊳◌}
use Rattle.c_printer.proofs.printer.Printer.going_on.Goals as goal

pub returns : goal.returns
returns c =
    given_ok c.word-3.result c.word-3.ensures
    (λ last. c.in_ok-asked.ensures ⊳ c.in_ok-two_cores.ensures ⊳ c.in_ok-word.ensures ⊳
    c.in_ok-thread.ensures ⊳ c.in_ok-word-2.ensures ⊳ c.in_ok-condition.ensures ⊳ last)
