use Rattle.c_printer.proofs.AddsLemmas.{given_ok, ◌⊳◌}
use Rattle.c_printer.proofs.printer.Printer.two_cores.Goals as goal

pub returns : goal.returns
returns c =
    given_ok c.core-2.result c.core-2.ensures
    (λ last. c.in_ok-core.ensures ⊳ c.in_ok-word.ensures ⊳ last)
