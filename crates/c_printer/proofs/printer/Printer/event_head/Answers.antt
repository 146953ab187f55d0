use Rattle.c_printer.proofs.AddsLemmas.{given_ok, reads_as, ◌⊳◌}
use Rattle.c_printer.proofs.printer.Printer.event_head.Goals as goal

pub returns : goal.returns
returns c =
    given_ok c.word-10.result c.word-10.ensures
    (λ last. reads_as c.event_comment.ensures c.in_ok-word.ensures ⊳ c.in_ok-word-2.ensures ⊳
    reads_as c.as_slice.ensures.items c.in_ok-name.ensures ⊳
    c.in_ok-word-3.ensures ⊳ reads_as c.as_slice-2.ensures.items c.in_ok-name-2.ensures ⊳
    c.in_ok-word-4.ensures ⊳ reads_as c.event_text.ensures c.in_ok-word-5.ensures ⊳ c.in_ok-word-6.ensures ⊳
    c.in_ok-core.ensures ⊳ c.in_ok-word-7.ensures ⊳
    reads_as c.as_slice-3.ensures.items c.in_ok-name-3.ensures ⊳ c.in_ok-word-8.ensures ⊳
    reads_as c.fresh_text.ensures c.in_ok-word-9.ensures ⊳ last)
