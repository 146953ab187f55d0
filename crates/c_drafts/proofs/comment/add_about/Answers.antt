use Rattle.c_printer.proofs.AddsLemmas.{given_ok, ◌⊳◌}
use Rattle.c_drafts.proofs.comment.add_about.Goals as goal

pub returns : goal.returns
returns c =
    given_ok c.add_word-5.result c.add_word-5.ensures
    (λ last. c.in_ok-add_word.ensures ⊳ c.in_ok-add_word-2.ensures ⊳ c.in_ok-add_word-3.ensures ⊳
    c.in_ok-add_word-4.ensures ⊳ last)
