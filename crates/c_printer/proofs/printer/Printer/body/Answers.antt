use Rattle.c_printer.proofs.AddsLemmas.{given_ok, ◌⊳◌}
use Rattle.c_printer.proofs.printer.Printer.body.Goals as goal

pub returns : goal.returns
returns c =
    given_ok c.foot.result c.foot.ensures
    (λ last. c.in_ok-head.ensures ⊳ c.in_ok-accepted.ensures ⊳ c.in_ok-structs.ensures ⊳ c.in_ok-rules.ensures ⊳
    c.in_ok-events.ensures ⊳ last)
