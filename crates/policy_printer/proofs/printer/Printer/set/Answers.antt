use Rattle.std.proofs.Common.{◌∷◌, [], codes}
use Rattle.policy_printer.specs.Adds.{Adds}
use Rattle.policy_printer.proofs.AddsLemmas.{◌⊳◌, reads_as, on_ok}
use Rattle.policy_printer.proofs.printer.Printer.set.Goals as goal

pub returns : goal.returns
returns c =
    on_ok c.word-4.result
    (λ (last : Adds (codes "," ∷ []) c.expression.new.self.bytes.items c.word-4.new.self.bytes.items).
    c.in_ok-word.ensures ⊳ c.in_ok-word-2.ensures ⊳ reads_as c.as_slice.ensures.items c.in_ok-token.ensures ⊳ c.in_ok-word-3.ensures
    ⊳ c.in_ok-expression.ensures ⊳ last) c.word-4.ensures
