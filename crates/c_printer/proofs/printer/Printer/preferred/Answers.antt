use Rattle.c_printer.proofs.AddsLemmas.{given_ok, ◌⊳◌}
use Rattle.c_printer.proofs.printer.Printer.preferred.Goals as goal

pub returns : goal.returns
returns c =
    given_ok c.word-4.result c.word-4.ensures
    (λ last. c.in_ok-word.ensures ⊳ c.in_ok-condition.ensures ⊳ c.in_ok-word-2.ensures ⊳
    c.in_ok-condition-2.ensures ⊳ c.in_ok-word-3.ensures ⊳ c.in_ok-condition-3.ensures ⊳ last)
