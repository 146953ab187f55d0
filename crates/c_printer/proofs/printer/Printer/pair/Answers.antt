use Rattle.c_printer.proofs.AddsLemmas.{given_ok, ◌⊳◌}
use Rattle.c_printer.proofs.printer.Printer.pair.Goals as goal

pub returns : goal.returns
returns c =
    given_ok c.value-2.result c.value-2.ensures
    (λ last. c.in_ok-value.ensures ⊳ c.in_ok-word.ensures ⊳ last)
