-- The outermost of the links that are left goes round the copy.
use Rattle.std.proofs.Common.{◌≡◌, List, [], ◌∷◌, ◌++◌, ◌∙◌, sym, ap, arith, length}
use Rattle.std.proofs.lemmas.Grind.{common_steps}
use Rattle.policy_tree.specs.Chains.{chained}
use Rattle.policy_tree.specs.Trees.{cond_tree}
use Rattle.policy_tree.specs.declared.copies.Link.{Link}
use Rattle.policy_tree.proofs.ChainLemmas.{chained-push}
use Rattle.policy_tree.proofs.copies.+copies.Goals as goal

pub copy_of_cond-loop-link-preserved : goal.copy_of_cond-loop-link-preserved
copy_of_cond-loop-link-preserved t c =
    let left = cond_tree c.loop-link.copy in
    let all : c.loop-link.links.items ≡ c.pop.new.self.items ++ c.in-Some.link ∷ [] = c.in-Some.ensures.items in
    record {
      chain = rw c.in_ok-copy-2.ensures
          (sym (chained-push c.pop.new.self.items c.in-Some.link left) ∙ ap (λ (links : List Link). chained links left) (sym all) ∙ c.loop-link.invariant.chain);
      links = λ k d within. let here = c.loop-link.invariant.links k d in let every = ap length all in grind (arith, common_steps, here, every);
    }
