use Rattle.c_printer.proofs.AddsLemmas.{given_ok, ◌⊳◌}
use Rattle.c_printer.proofs.printer.Printer.events.Goals as goal

pub returns : goal.returns
returns c =
    given_ok c.handler-4.result c.handler-4.ensures
    (λ last. c.in_ok-handler.ensures ⊳ c.in_ok-handler-2.ensures ⊳ c.in_ok-handler-3.ensures ⊳ last)
