use Rattle.std.proofs.Common.{ap, map}
use Rattle.std.specs.List.{flat_map}
use Rattle.policy_syntax.specs.SyntaxTrees.{handler_syntax_tree}
use Rattle.policy_printer.specs.Adds.{Adds}
use Rattle.policy_printer.specs.PolicyTexts.{attr_texts, handler_texts}
use Rattle.policy_printer.proofs.AddsLemmas.{◌⊳◌, same_texts, on_ok}
use Rattle.policy_printer.proofs.printer.Printer.head.Goals as goal

pub returns : goal.returns
returns c =
    on_ok c.handlers.result
    (λ (last : Adds (flat_map handler_texts (map handler_syntax_tree c.as_slice-2.result.now)) c.elect.new.self.bytes.items c.handlers.new.self.bytes.items).
    c.in_ok-load.ensures ⊳ same_texts (ap (flat_map attr_texts) c.as_slice.ensures.items) c.in_ok-attrs.ensures ⊳ c.in_ok-place.ensures
    ⊳ c.in_ok-elect.ensures ⊳ same_texts (ap (λ xs. flat_map handler_texts (map handler_syntax_tree xs)) c.as_slice-2.ensures.items) last) c.handlers.ensures
