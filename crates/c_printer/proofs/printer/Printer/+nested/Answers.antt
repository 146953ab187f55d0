use Rattle.std.proofs.Common.{◌≡◌, OnOk, subst, Bool, sym, ap}
use Rattle.policy_tree.specs.Meaning.{meaning_of}
use Rattle.policy_tree.specs.Trees.{cond_tree, both, either}
use Rattle.c_printer.specs.Adds.{Adds}
use Rattle.c_printer.specs.ConditionTexts.{cond_texts}
use Rattle.c_printer.specs.ExpressionTexts.{enclosed}
use Rattle.c_printer.proofs.AddsLemmas.{◌⊳◌, given_ok, reads_as, same_texts}
use Rattle.c_printer.proofs.printer.Printer.+nested.Goals as goal

pub part-returns : goal.part-returns
part-returns t c =
    subst (λ (o : Bool). OnOk c.word-2.result (Adds (enclosed o (cond_texts (meaning_of c.args.policy.now) c.args.view
    (cond_tree c.args.cond.now))) c.args.self.now.bytes.items c.word-2.new.self.bytes.items)) c.opens_cond-opens.ensures
    (given_ok c.word-2.result c.word-2.ensures
    (λ last. reads_as c.opening_text.ensures c.in_ok-word.ensures ⊳ c.in_ok-condition.ensures ⊳ reads_as c.closing_text.ensures last))

pub condition-returns-in_ok-word-in-And : goal.condition-returns-in_ok-word-in-And
condition-returns-in_ok-word-in-And t c =
    let split : cond_tree c.args.cond.now ≡ both (cond_tree c.deref-in-And.result.now) (cond_tree c.deref-in-And-2.result.now)
    = rw c.deref-in-And.ensures (rw c.deref-in-And-2.ensures (ap cond_tree c.in-And.is)) in
    given_ok c.part-in-And-2.result c.part-in-And-2.ensures
    (λ last. same_texts (sym (ap (cond_texts (meaning_of c.args.policy.now) c.args.view) split))
    (c.in_ok-part-in-And.ensures ⊳ c.in_ok-word-in-And.ensures ⊳ last))

pub condition-returns-in_ok-word-in-Or : goal.condition-returns-in_ok-word-in-Or
condition-returns-in_ok-word-in-Or t c =
    let split : cond_tree c.args.cond.now ≡ either (cond_tree c.deref-in-Or.result.now) (cond_tree c.deref-in-Or-2.result.now)
    = rw c.deref-in-Or.ensures (rw c.deref-in-Or-2.ensures (ap cond_tree c.in-Or.is)) in
    given_ok c.part-in-Or-2.result c.part-in-Or-2.ensures
    (λ last. same_texts (sym (ap (cond_texts (meaning_of c.args.policy.now) c.args.view) split))
    (c.in_ok-part-in-Or.ensures ⊳ c.in_ok-word-in-Or.ensures ⊳ last))

pub condition-returns-in-Test : goal.condition-returns-in-Test
condition-returns-in-Test t c =
    given_ok c.test.result c.test.ensures
    (λ last. same_texts (sym (ap (cond_texts (meaning_of c.args.policy.now) c.args.view) (ap cond_tree c.in-Test.is))) last)
