use Rattle.std.proofs.Common.{Option, ap, sym, option_map}
use Rattle.policy_tree.specs.declared.typed.Batch.{Batch}
use Rattle.policy_tree.specs.Meaning.{batch_tree, meaning_of}
use Rattle.c_printer.specs.OrderTexts.{batch_texts}
use Rattle.c_printer.proofs.AddsLemmas.{◌⊳◌, given_ok, same_texts}
use Rattle.c_printer.proofs.printer.Printer.batch.Goals as goal

pub returns-in_ok-limit-in-Some : goal.returns-in_ok-limit-in-Some
returns-in_ok-limit-in-Some c =
    given_ok c.going_on.result c.going_on.ensures
    (λ last. same_texts
    (sym (ap (λ (b : Option Batch). batch_texts (meaning_of c.args.policy.now) (option_map batch_tree b)) c.in-Some.is))
    (c.in_ok-limit-in-Some.ensures ⊳ last))

pub returns-in_ok-limit-in-None : goal.returns-in_ok-limit-in-None
returns-in_ok-limit-in-None c =
    given_ok c.not_going_on.result c.not_going_on.ensures
    (λ last. same_texts
    (sym (ap (λ (b : Option Batch). batch_texts (meaning_of c.args.policy.now) (option_map batch_tree b)) c.in-None.is))
    (c.in_ok-limit-in-None.ensures ⊳ last))
