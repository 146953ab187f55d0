use Rattle.std.proofs.Common.{◌≡◌, ◌∙◌, List, [], ◌∷◌, ℕ, codes, refl, sym, ap, subst, arith}
use Rattle.policy_syntax.specs.SyntaxTrees.{grouped, condition_tree, condition_trees}
use Rattle.policy_syntax.proofs.Rows.{and_tree, or_tree}
use Rattle.policy_printer.specs.Adds.{Adds}
use Rattle.policy_printer.specs.ExpressionTexts.{expr_texts}
use Rattle.policy_printer.specs.ConditionTexts.{condition_texts, parts_texts}
use Rattle.policy_printer.proofs.AddsLemmas.{◌⊳◌, one_more, all_items, reads_as, same_texts, on_ok}
use Rattle.policy_printer.proofs.Nodes.{nodes, nodes_of, nodes-part, part_texts, further-flat}
use Rattle.policy_printer.proofs.printer.Printer.+nested.Goals as goal

pub condition-parts-requires : goal.condition-parts-requires
condition-parts-requires t c =
    let split = ap condition_tree c.in-And.is ∙ and_tree c.in-And.at c.in-And.parts in
    let size = ap nodes split in
    let same = ap (λ xs. nodes_of (condition_trees xs)) c.as_slice.ensures.value in
    (omega (arith, c.decreases, size, same), tt)

pub condition-returns-in-And : goal.condition-returns-in-And
condition-returns-in-And t c =
    let split = ap condition_tree c.in-And.is ∙ and_tree c.in-And.at c.in-And.parts in
    let texts = ap (λ xs. parts_texts (codes "and") (condition_trees xs)) c.as_slice.ensures.value ∙ sym (ap condition_texts split) in
    on_ok c.parts.result
    (λ (last : Adds (parts_texts (codes "and") (condition_trees c.as_slice.result.now)) c.args.self.now.bytes.items c.parts.new.self.bytes.items).
    subst (λ (xs : List (List ℕ)). Adds xs c.args.self.now.bytes.items c.parts.new.self.bytes.items) texts last) c.parts.ensures

pub condition-parts-requires-in-Or : goal.condition-parts-requires-in-Or
condition-parts-requires-in-Or t c =
    let split = ap condition_tree c.in-Or.is ∙ or_tree c.in-Or.at c.in-Or.parts in
    let size = ap nodes split in
    let same = ap (λ xs. nodes_of (condition_trees xs)) c.as_slice-in-Or.ensures.value in
    (omega (arith, c.decreases, size, same), tt)

pub condition-returns-in-Or : goal.condition-returns-in-Or
condition-returns-in-Or t c =
    let split = ap condition_tree c.in-Or.is ∙ or_tree c.in-Or.at c.in-Or.parts in
    let texts = ap (λ xs. parts_texts (codes "or") (condition_trees xs)) c.as_slice-in-Or.ensures.value ∙ sym (ap condition_texts split) in
    on_ok c.parts-in-Or.result
    (λ (last : Adds (parts_texts (codes "or") (condition_trees c.as_slice-in-Or.result.now)) c.args.self.now.bytes.items c.parts-in-Or.new.self.bytes.items).
    subst (λ (xs : List (List ℕ)). Adds xs c.args.self.now.bytes.items c.parts-in-Or.new.self.bytes.items) texts last) c.parts-in-Or.ensures

pub condition-returns-in_ok-word-in-Test : goal.condition-returns-in_ok-word-in-Test
condition-returns-in_ok-word-in-Test t c =
    let split = ap condition_tree c.in-Test.is in
    on_ok c.expression-in-Test.result
    (λ (last : Adds (expr_texts c.in-Test.right) c.word-in-Test.new.self.bytes.items c.expression-in-Test.new.self.bytes.items).
    same_texts (sym (ap condition_texts split)) (c.in_ok-expression-in-Test.ensures ⊳ reads_as c.compare_text.ensures c.in_ok-word-in-Test.ensures ⊳ last))
    c.expression-in-Test.ensures

pub condition-returns-in_ok-condition-in-Group : goal.condition-returns-in_ok-condition-in-Group
condition-returns-in_ok-condition-in-Group t c =
    let split : condition_tree c.args.condition.now ≡ grouped c.in-Group.at (condition_tree c.deref-in-Group.result.now)
    = rw c.deref-in-Group.ensures (ap condition_tree c.in-Group.is) in
    on_ok c.word-in-Group-2.result
    (λ (last : Adds (codes ")" ∷ []) c.condition-in-Group.new.self.bytes.items c.word-in-Group-2.new.self.bytes.items).
    same_texts (sym (ap condition_texts split)) (c.in_ok-word-in-Group.ensures ⊳ c.in_ok-condition-in-Group.ensures ⊳ last)) c.word-in-Group-2.ensures

pub parts-condition-requires-in-loop-part : goal.parts-condition-requires-in-loop-part
parts-condition-requires-in-loop-part t c =
    let item = c.part-item.result in
    let split = ap (λ xs. nodes_of (condition_trees xs)) c.in-Some.ensures.cases.0 in
    let same = ap (λ x. nodes (condition_tree x)) c.part-item.is in
    let below = nodes-part c.in-Some.parts.1.now c.loop-part.part-index item c.loop-part-test.true in
    (omega arith, tt)

pub parts-loop-part-preserved : goal.parts-loop-part-preserved
parts-loop-part-preserved t c =
    one_more (part_texts c.args.word.now) c.in-Some.parts.1.now c.loop-part.part-index c.part-item.result c.part-item.is c.loop-part-test.true
    c.loop-part.invariant (c.in_ok-word.ensures ⊳ c.in_ok-condition-2.ensures)

pub parts-returns : goal.parts-returns
parts-returns t c =
    let split = ap (λ xs. parts_texts c.args.word.now (condition_trees xs)) c.in-Some.ensures.cases.0 in
    let rest = all_items (part_texts c.args.word.now) c.loop-part.part-index refl c.loop-part-test.false c.loop-part.invariant in
    same_texts (sym split) (c.in_ok-condition.ensures ⊳ same_texts (sym (further-flat c.args.word.now c.in-Some.parts.1.now)) rest)
