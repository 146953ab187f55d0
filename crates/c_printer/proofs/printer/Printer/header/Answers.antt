use Rattle.c_printer.proofs.AddsLemmas.{given_ok, ◌⊳◌}
use Rattle.c_printer.proofs.printer.Printer.header.Goals as goal

pub returns : goal.returns
returns c = given_ok c.body.result c.body.ensures (λ last. c.in_ok-comment.ensures ⊳ last)
