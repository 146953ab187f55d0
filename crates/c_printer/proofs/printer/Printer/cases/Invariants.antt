-- What is printed, and the texts of the cases that are left, are the whole.
use Rattle.policy_tree.specs.Meaning.{meaning_of}
use Rattle.c_printer.proofs.CasesLemmas.{Leads, texts_from}
use Rattle.c_printer.proofs.printer.Printer.cases.Given as goal

abbrev pub invariant-loop-case : goal.invariant-loop-case
invariant-loop-case l =
    Leads (texts_from (meaning_of l.policy) 0 l.cases) (texts_from (meaning_of l.policy) l.case-index l.cases)
    l.initial.self.bytes.items l.self.bytes.items
