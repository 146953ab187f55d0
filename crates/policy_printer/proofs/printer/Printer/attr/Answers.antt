use Rattle.policy_printer.specs.Adds.{Adds}
use Rattle.policy_printer.specs.ExpressionTexts.{int_texts}
use Rattle.policy_printer.proofs.AddsLemmas.{◌⊳◌, reads_as, on_ok}
use Rattle.policy_printer.proofs.printer.Printer.attr.Goals as goal

pub returns : goal.returns
returns c =
    on_ok c.int.result
    (λ (last : Adds (int_texts c.args.attr.now.start) c.word-3.new.self.bytes.items c.int.new.self.bytes.items).
    reads_as c.kind_text.ensures c.in_ok-word.ensures ⊳ reads_as c.as_slice.ensures.items c.in_ok-token.ensures
    ⊳ c.in_ok-word-2.ensures ⊳ c.in_ok-range.ensures ⊳ c.in_ok-word-3.ensures ⊳ last) c.int.ensures
