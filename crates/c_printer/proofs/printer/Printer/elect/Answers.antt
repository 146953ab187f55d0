use Rattle.c_printer.proofs.AddsLemmas.{given_ok, ◌⊳◌}
use Rattle.c_printer.proofs.printer.Printer.elect.Goals as goal

pub returns : goal.returns
returns c =
    given_ok c.order.result c.order.ensures
    (λ last. c.in_ok-asked.ensures ⊳ c.in_ok-two_threads.ensures ⊳ last)
