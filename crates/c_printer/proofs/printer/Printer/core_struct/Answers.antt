use Rattle.std.specs.List.{flat_map}
use Rattle.c_printer.specs.StructTexts.{field_texts}
use Rattle.std.proofs.Common.{ap, decimal, ◌*◌, ◌∙◌}
use Rattle.sched_base.specs.declared.limits.TheConstants.{MAX_THREADS}
use Rattle.c_printer.proofs.AddsLemmas.{given_ok, reads_as, same_texts, ◌⊳◌}
use Rattle.c_printer.proofs.printer.Printer.core_struct.Goals as goal

pub returns : goal.returns
returns c =
    given_ok c.word-6.result c.word-6.ensures
    (λ last. c.in_ok-word.ensures ⊳ reads_as c.as_slice.ensures.items c.in_ok-name.ensures ⊳
    c.in_ok-word-2.ensures ⊳ c.in_ok-word-3.ensures ⊳ c.in_ok-number.ensures ⊳ c.in_ok-word-4.ensures ⊳
    reads_as (ap (λ n. decimal (MAX_THREADS * n)) (c.from.ensures ∙ c.greatest_weight.ensures)) c.in_ok-number-2.ensures ⊳
    c.in_ok-word-5.ensures ⊳ same_texts (ap (flat_map field_texts) c.as_slice-2.ensures.items) c.in_ok-fields.ensures ⊳ last)
