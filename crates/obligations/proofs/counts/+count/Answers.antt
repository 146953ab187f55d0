-- One more link of the chain.
use Rattle.std.proofs.Common.{◌≡◌, ap, arith, sym, ◌∙◌}
use Rattle.policy_tree.specs.Chains.{nodes_of}
use Rattle.policy_tree.specs.Trees.{both, cond_tree, either}
use Rattle.obligations.specs.Counts.{count_of, reported}
use Rattle.obligations.specs.Tallies.{worth}
use Rattle.obligations.proofs.Reported.{count_of_both, count_of_either}
use Rattle.obligations.proofs.counts.+count.Goals as goal

pub loop-rest-preserved-in-And : goal.loop-rest-preserved-in-And
loop-rest-preserved-in-And t c =
    let outcome = c.args.outcome in
    let left = cond_tree c.deref-rest.result.now in let right = cond_tree c.deref-in-And.result.now in
    let split : cond_tree c.loop-rest.rest.now ≡ both left right = rw (c.deref-in-And.ensures, c.deref-rest.ensures) (ap cond_tree c.in-And.is) in
    let nodes = ap nodes_of split in
    let count = count_of_both outcome left right ∙ ap (count_of outcome) (sym split) in
    record {
      same =
          c.linked-tally.ensures.worth (count_of outcome left) (count_of outcome right) c.count-in-And.ensures
          ∙ (ap (λ k. reported (worth c.loop-rest.tally k)) count ∙ c.loop-rest.invariant.same);
      shallow = omega arith;
      small = c.linked-tally.ensures.small;
    }

pub loop-rest-preserved : goal.loop-rest-preserved
loop-rest-preserved t c =
    let outcome = c.args.outcome in
    let left = cond_tree c.deref-rest-in-Or.result.now in let right = cond_tree c.deref-in-Or.result.now in
    let split : cond_tree c.loop-rest.rest.now ≡ either left right = rw (c.deref-in-Or.ensures, c.deref-rest-in-Or.ensures) (ap cond_tree c.in-Or.is) in
    let nodes = ap nodes_of split in
    let count = count_of_either outcome left right ∙ ap (count_of outcome) (sym split) in
    record {
      same =
          c.linked-tally-in-Or.ensures.worth (count_of outcome left) (count_of outcome right) c.count-in-Or.ensures
          ∙ (ap (λ k. reported (worth c.loop-rest.tally k)) count ∙ c.loop-rest.invariant.same);
      shallow = omega arith;
      small = c.linked-tally-in-Or.ensures.small;
    }
