use Rattle.c_printer.proofs.AddsLemmas.{given_ok, ◌⊳◌}
use Rattle.c_printer.proofs.printer.Printer.structs.Goals as goal

pub returns : goal.returns
returns c =
    given_ok c.cut.result c.cut.ensures
    (λ last. c.in_ok-constants.ensures ⊳ c.in_ok-lists.ensures ⊳ c.in_ok-wide_rules.ensures ⊳
    c.in_ok-core_struct.ensures ⊳ c.in_ok-thread_struct.ensures ⊳ c.in_ok-put_enum.ensures ⊳ last)
