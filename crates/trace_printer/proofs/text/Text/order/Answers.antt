use Rattle.std.proofs.Common.{ap, codes, decimal, map}
use Rattle.trace_printer.specs.Adds.{Adds}
use Rattle.trace_printer.proofs.AddsLemmas.{◌⊳◌, on_ok, same_words, whole}
use Rattle.trace_printer.proofs.text.Text.order.Goals as goal

pub returns : goal.returns
returns c =
    on_ok c.cores.result
    (λ (last : Adds (map decimal c.as_slice.result.now) c.number.new.self.bytes.items c.cores.new.self.bytes.items).
    whole (codes "order") _ c.args.self.now.bytes.items c.in_ok-first.ensures
    (c.in_ok-number.ensures ⊳ same_words (ap (map decimal) c.as_slice.ensures.items) last)) c.cores.ensures
