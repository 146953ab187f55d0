use Rattle.c_printer.proofs.AddsLemmas.{given_ok, ◌⊳◌}
use Rattle.c_printer.proofs.printer.Printer.rules.Goals as goal

pub returns : goal.returns
returns c =
    given_ok c.elect.result c.elect.ensures
    (λ last. c.in_ok-filter.ensures ⊳ c.in_ok-choose.ensures ⊳ c.in_ok-steal.ensures ⊳ c.in_ok-batch.ensures ⊳
    c.in_ok-place.ensures ⊳ last)
