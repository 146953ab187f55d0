-- One more link of the chain.
use Rattle.std.proofs.Common.{◌≡◌, ap, arith}
use Rattle.policy_tree.specs.Chains.{nodes_of}
use Rattle.policy_tree.specs.Trees.{cond_tree, both, either}
use Rattle.policy_tree.specs.declared.copies.Link.TheVariants as link
use Rattle.policy_tree.proofs.ChainLemmas.{links_pushed, link_pushed}
use Rattle.policy_tree.proofs.copies.chain_of.Goals as goal

pub loop-end-preserved-in-And : goal.loop-end-preserved-in-And
loop-end-preserved-in-And c =
    let split : cond_tree c.loop-end.end.now ≡ both (cond_tree c.deref-end.result.now) (cond_tree c.deref.result.now)
    = rw (c.deref.ensures, c.deref-end.ensures) (ap cond_tree c.in-And.is) in
    let nodes = ap nodes_of split in
    record {
      chain = link_pushed (cond_tree c.args.cond.now) c.loop-end.links.items c.push.new.self.items (link.And c.deref.result)
          (cond_tree c.loop-end.end.now) (cond_tree c.deref-end.result.now) c.in_ok-push-in-And.ensures.items split c.loop-end.invariant.chain;
      nodes = omega arith;
      links = links_pushed (nodes_of (cond_tree c.args.cond.now)) c.loop-end.links.items c.push.new.self.items (link.And c.deref.result)
          c.in_ok-push-in-And.ensures.items c.loop-end.invariant.links (omega arith);
    }

pub loop-end-preserved : goal.loop-end-preserved
loop-end-preserved c =
    let split : cond_tree c.loop-end.end.now ≡ either (cond_tree c.deref-end-in-Or.result.now) (cond_tree c.deref-in-Or.result.now)
    = rw (c.deref-in-Or.ensures, c.deref-end-in-Or.ensures) (ap cond_tree c.in-Or.is) in
    let nodes = ap nodes_of split in
    record {
      chain = link_pushed (cond_tree c.args.cond.now) c.loop-end.links.items c.push-in-Or.new.self.items (link.Or c.deref-in-Or.result)
          (cond_tree c.loop-end.end.now) (cond_tree c.deref-end-in-Or.result.now) c.in_ok-push-in-Or.ensures.items split c.loop-end.invariant.chain;
      nodes = omega arith;
      links = links_pushed (nodes_of (cond_tree c.args.cond.now)) c.loop-end.links.items c.push-in-Or.new.self.items (link.Or c.deref-in-Or.result)
          c.in_ok-push-in-Or.ensures.items c.loop-end.invariant.links (omega arith);
    }
