-- One more guard.
use Rattle.std.proofs.Common.{◌≡◌, ◌*◌, ◌+◌, ℕ, List, ◌∷◌, ap, sym, ◌∙◌, drop, map}
use Rattle.std.proofs.lemmas.List.{at_drop_more}
use Rattle.policy_tree.specs.declared.typed.Case.{Case}
use Rattle.policy_tree.specs.Meaning.{case_tree}
use Rattle.policy_tree.specs.Trees.{cond_tree}
use Rattle.obligations.specs.Counts.{reported}
use Rattle.obligations.specs.Tallies.{any_count, guards_of, pair_count}
use Rattle.obligations.proofs.Crowds.{pair_step}
use Rattle.obligations.proofs.Reported.{reported-small}
use Rattle.obligations.proofs.crowding.pair_count.Goals as goal

pub loop-case-preserved : goal.loop-case-preserved
loop-case-preserved c =
    let cases = c.args.cases.now in let i = c.loop-case.case-index in let own = c.case-item.result in
    let pairs = c.loop-case.pairs in let earlier = c.loop-case.earlier in
    let left : List Case → ℕ = λ more.
    pairs + (earlier * any_count (guards_of (map case_tree more)) + pair_count (guards_of (map case_tree more))) in
    let rest = drop (i + 1) cases in
    let more : left (own ∷ rest) ≡ left (drop i cases) =
    ap (λ x. left (x ∷ rest)) c.case-item.is ∙ sym (at_drop_more left cases i own c.loop-case-test.true) in
    record {
      same =
          pair_step pairs earlier c.product.result c.sum-pairs.result c.sum-earlier.result c.count-own.result (cond_tree own.guard) (guards_of (map case_tree rest))
          c.product.ensures c.sum-pairs.ensures c.sum-earlier.ensures c.count-own.ensures
          ∙ (ap reported more ∙ c.loop-case.invariant.same);
      pairs = rw c.sum-pairs.ensures (reported-small (pairs + c.product.result));
      earlier = rw c.sum-earlier.ensures (reported-small (earlier + c.count-own.result));
    }
