-- One more guard.
use Rattle.std.proofs.Common.{◌≡◌, ◌*◌, ◌+◌, ℕ, List, ◌∷◌, ap, sym, ◌∙◌, drop, map}
use Rattle.std.proofs.lemmas.List.{at_drop_more}
use Rattle.policy_tree.specs.declared.typed.Case.{Case}
use Rattle.policy_tree.specs.Meaning.{case_tree}
use Rattle.policy_tree.specs.Trees.{cond_tree}
use Rattle.obligations.specs.Counts.{reported}
use Rattle.obligations.specs.Tallies.{gap_count, guards_of}
use Rattle.obligations.proofs.Crowds.{gap_step}
use Rattle.obligations.proofs.Reported.{reported-small}
use Rattle.obligations.proofs.crowding.gap_count.Goals as goal

pub loop-case-preserved : goal.loop-case-preserved
loop-case-preserved c =
    let cases = c.args.cases.now in let i = c.loop-case.case-index in let gaps = c.loop-case.gaps in let own = c.case-item.result in
    let left : List Case → ℕ = λ more. gap_count (guards_of (map case_tree more)) in
    let rest = drop (i + 1) cases in
    let more : left (own ∷ rest) ≡ left (drop i cases) =
    ap (λ x. left (x ∷ rest)) c.case-item.is ∙ sym (at_drop_more left cases i own c.loop-case-test.true) in
    record {
      same =
          gap_step gaps c.product-gaps.result c.count.result (cond_tree own.guard) (guards_of (map case_tree rest)) c.product-gaps.ensures c.count.ensures
          ∙ (ap (λ k. reported (gaps * k)) more ∙ c.loop-case.invariant.same);
      gaps = rw c.product-gaps.ensures (reported-small (gaps * c.count.result));
    }
