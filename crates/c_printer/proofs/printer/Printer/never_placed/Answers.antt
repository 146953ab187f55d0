use Rattle.c_printer.proofs.AddsLemmas.{given_ok, ◌⊳◌}
use Rattle.c_printer.proofs.printer.Printer.never_placed.Goals as goal

pub returns : goal.returns
returns c =
    given_ok c.word.result c.word.ensures
    (λ last. c.in_ok-asked.ensures ⊳ c.in_ok-two_cores.ensures ⊳ last)
