use Rattle.c_printer.proofs.AddsLemmas.{given_ok, reads_as, ◌⊳◌}
use Rattle.c_drafts.proofs.comment.add_comment.Goals as goal

pub returns : goal.returns
returns c =
    given_ok c.add_about.result c.add_about.ensures
    (λ last. c.in_ok-add_word.ensures ⊳ reads_as c.as_slice.ensures.items c.in_ok-add_name.ensures ⊳
    c.in_ok-add_word-2.ensures ⊳ c.in_ok-add_flaws.ensures ⊳ last)
