-- One more link.
use Rattle.std.proofs.Common.{arith}
use Rattle.policy_tree.specs.Chains.{nodes_of}
use Rattle.policy_tree.specs.Trees.{cond_tree}
use Rattle.obligations.specs.Cases.{cases_of}
use Rattle.obligations.specs.ChainCases.{IsBelow, IsLinearLink}
use Rattle.obligations.proofs.ChainSteps.{all_pushed, chain_pushed}
use Rattle.obligations.proofs.building.chain_of.Goals as goal

pub loop-links-preserved : goal.loop-links-preserved
loop-links-preserved c =
    let splits = c.in-Some.ensures in
    let was = c.loop-links.invariant in
    let pushed = c.in_ok-push-in-Some.ensures.items in
    let whole = cond_tree c.args.cond.now in
    let nodes = splits.nodes in let below = was.nodes in
    record {
      chain = λ load. chain_pushed load c.args.outcome (cases_of load c.args.outcome whole) c.loop-links.links.items c.push.new.self.items c.in-Some.link c.loop-links.end.now c.in-Some.left.now
          pushed splits (was.chain load);
      nodes = omega (arith, nodes, below);
      linear = splits.left_linear was.linear;
      below = all_pushed (IsBelow (nodes_of whole)) c.loop-links.links.items c.push.new.self.items c.in-Some.link pushed was.below (omega (arith, nodes, below));
      links = all_pushed IsLinearLink c.loop-links.links.items c.push.new.self.items c.in-Some.link pushed was.links (splits.right_linear was.linear);
    }
