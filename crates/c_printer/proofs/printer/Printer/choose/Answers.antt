use Rattle.c_printer.proofs.AddsLemmas.{given_ok, ◌⊳◌}
use Rattle.c_printer.proofs.printer.Printer.choose.Goals as goal

pub returns : goal.returns
returns c =
    given_ok c.order.result c.order.ensures
    (λ last. c.in_ok-asked.ensures ⊳ c.in_ok-core.ensures ⊳ c.in_ok-word.ensures ⊳ c.in_ok-two_cores.ensures ⊳
    last)
