use Rattle.std.proofs.Common.{◌∙◌, ◌+◌, ◌∷◌, [], codes, drop, sym}
use Rattle.policy_tree.specs.Meaning.{meaning_of}
use Rattle.c_printer.specs.Adds.{Adds}
use Rattle.c_printer.proofs.AddsLemmas.{◌⊳◌, reads_as, on_ok}
use Rattle.c_printer.proofs.CasesLemmas.{leads_end, leads_more, first_case, guarded_first, no_case}
use Rattle.c_printer.proofs.printer.Printer.cases.Goals as goal

pub returns : goal.returns
returns c =
    on_ok c.word-2.result
    (λ (last : Adds (codes "_put_queue;\n" ∷ []) c.name.new.self.bytes.items c.word-2.new.self.bytes.items).
    leads_end c.loop-case.invariant
    (no_case (meaning_of c.args.policy.now) c.loop-case.case-index c.args.cases.now c.loop-case-test.false)
    (c.in_ok-word.ensures ⊳ reads_as c.as_slice.ensures.items c.in_ok-name.ensures ⊳ last)) c.word-2.ensures

pub loop-case-preserved : goal.loop-case-preserved
loop-case-preserved c =
    leads_more c.loop-case.invariant
    (first_case (meaning_of c.args.policy.now) c.loop-case.case-index c.args.cases.now c.case-item.result c.case-item.is c.loop-case-test.true
    ∙ guarded_first (meaning_of c.args.policy.now) c.case-item.result (drop (c.loop-case.case-index + 1) c.args.cases.now)
    (sym c.is_always.ensures ∙ c.if-is_always.false))
    c.in_ok-guarded.ensures
