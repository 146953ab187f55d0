use Rattle.std.proofs.Common.{ap, codes}
use Rattle.std.specs.List.{flat_map}
use Rattle.trace_printer.specs.Adds.{Adds}
use Rattle.trace_printer.specs.Printed.{words_of_const}
use Rattle.trace_printer.proofs.AddsLemmas.{◌⊳◌, on_ok, same_words, whole}
use Rattle.trace_printer.proofs.text.Text.core.Goals as goal

pub returns : goal.returns
returns c =
    on_ok c.consts.result
    (λ (last : Adds (flat_map words_of_const c.as_slice.result.now)
    c.number.new.self.bytes.items c.consts.new.self.bytes.items).
    whole (codes "core") _ c.args.self.now.bytes.items c.in_ok-first.ensures
    (c.in_ok-number.ensures ⊳ same_words (ap (flat_map words_of_const) c.as_slice.ensures.items) last)) c.consts.ensures
