use Rattle.c_printer.proofs.AddsLemmas.{given_ok, ◌⊳◌}
use Rattle.c_printer.proofs.printer.Printer.range.Goals as goal

pub returns : goal.returns
returns c =
    given_ok c.word-3.result c.word-3.ensures
    (λ last. c.in_ok-constant.ensures ⊳ c.in_ok-low.ensures ⊳ c.in_ok-word.ensures ⊳
    c.in_ok-constant-2.ensures ⊳ c.in_ok-high.ensures ⊳ c.in_ok-word-2.ensures ⊳ c.in_ok-constant-3.ensures ⊳
    c.in_ok-start.ensures ⊳ last)
