use Rattle.c_printer.proofs.AddsLemmas.{given_ok, ◌⊳◌}
use Rattle.c_printer.proofs.printer.Printer.two_threads.Goals as goal

pub returns : goal.returns
returns c =
    given_ok c.thread-2.result c.thread-2.ensures
    (λ last. c.in_ok-thread.ensures ⊳ c.in_ok-word.ensures ⊳ last)
