use Rattle.std.specs.Prelude.{codes}
use Rattle.std.proofs.Common.{ap}
use Rattle.policy_tree.specs.Meaning.{meaning_of}
use Rattle.c_printer.specs.StructTexts.{list_texts}
use Rattle.c_printer.proofs.AddsLemmas.{given_ok, same_texts, ◌⊳◌}
use Rattle.c_printer.proofs.printer.Printer.lists.Goals as goal

pub returns : goal.returns
returns c =
    given_ok c.list-2.result c.list-2.ensures
    (λ last. c.in_ok-word.ensures
    ⊳ same_texts (ap (list_texts (meaning_of c.args.policy.now) (codes "_CORE_ATTRS(X)")) c.as_slice.ensures.items) c.in_ok-list.ensures
    ⊳ same_texts (ap (list_texts (meaning_of c.args.policy.now) (codes "_THREAD_ATTRS(X)")) c.as_slice-2.ensures.items) last)
