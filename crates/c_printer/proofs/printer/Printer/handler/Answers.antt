use Rattle.std.proofs.Common.{◌∙◌, ap, map}
use Rattle.policy_tree.specs.Meaning.{case_tree, meaning_of}
use Rattle.c_printer.specs.EventTexts.{cases_texts}
use Rattle.c_printer.proofs.AddsLemmas.{◌⊳◌, given_ok, same_texts}
use Rattle.c_printer.proofs.printer.Printer.handler.Goals as goal

pub returns : goal.returns
returns c =
    given_ok c.word.result c.word.ensures
    (λ last. c.in_ok-event_head.ensures
    ⊳ same_texts (ap (cases_texts (meaning_of c.args.policy.now)) (ap (map case_tree) c.as_slice.ensures.items ∙ c.cases.ensures))
    c.in_ok-cases.ensures
    ⊳ last)
