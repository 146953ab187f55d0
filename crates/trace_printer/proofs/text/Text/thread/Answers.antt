use Rattle.std.proofs.Common.{ap, codes}
use Rattle.std.specs.List.{flat_map}
use Rattle.trace_printer.specs.Adds.{Adds}
use Rattle.trace_printer.specs.Printed.{words_of_burst}
use Rattle.trace_printer.proofs.AddsLemmas.{◌⊳◌, on_ok, same_words, whole}
use Rattle.trace_printer.proofs.text.Text.thread.Goals as goal

pub returns : goal.returns
returns c =
    on_ok c.bursts.result
    (λ (last : Adds (flat_map words_of_burst c.as_slice.result.now)
    c.weight.new.self.bytes.items c.bursts.new.self.bytes.items).
    whole (codes "thread") _ c.args.self.now.bytes.items c.in_ok-first.ensures
    (c.in_ok-number.ensures ⊳ c.in_ok-field.ensures ⊳ c.in_ok-field-2.ensures ⊳ c.in_ok-weight.ensures
    ⊳ same_words (ap (flat_map words_of_burst) c.as_slice.ensures.items) last)) c.bursts.ensures
