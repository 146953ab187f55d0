use Rattle.std.proofs.Common.{◌+◌, List, Option, set, Some, None, sym, ap, subst, ◌∙◌, arith}
use Rattle.std.proofs.lemmas.List.{map-set}
use Rattle.node_pool.specs.declared.Held.{Held}
use Rattle.node_pool.specs.declared.Node.{Node}
use Rattle.node_pool.specs.declared.Node.TheVariants.{Taken}
use Rattle.node_pool.specs.FreeLine.{IsLined, held_of, nodes_of}
use Rattle.node_pool.specs.Nodes.{IsTaken}
use Rattle.node_pool.proofs.FreeLines.{lined_few, lined_given, read_is, taken_inside}
use Rattle.node_pool.proofs.Pool.give.Goals as goal

pub overflow_add-self : goal.overflow_add-self
overflow_add-self g c =
    let nodes = c.self.inside.nodes.items in let first = c.self.inside.first in let at = c.args.at in
    let inside = taken_inside nodes at (subst (λ all. IsTaken all at) (sym c.self.view_is) c.requires) in
    let is = read_is nodes at (Taken c.in-Taken.held) c.index_mut.result.now c.in-Taken.ensures.value c.index_mut.ensures.value in
    let lined = lined_given nodes at first c.self.inside.free c.in-Taken.held inside is c.self.invariant in
    let few = lined.few in
    let all = lined_few _ _ _ lined in
    omega arith

pub invariant_of-self : goal.invariant_of-self
invariant_of-self g c =
    let nodes = c.self.inside.nodes.items in let at = c.args.at in
    let inside = taken_inside nodes at (subst (λ all. IsTaken all at) (sym c.self.view_is) c.requires) in
    let is = read_is nodes at (Taken c.in-Taken.held) c.index_mut.result.now c.in-Taken.ensures.value c.index_mut.ensures.value in
    subst (λ (node : Node g.row.T.Denot). IsLined (set nodes at node) (Some at) (c.self.inside.free + 1)) (sym c.replace.ensures.after)
    (lined_given nodes at c.self.inside.first c.self.inside.free c.in-Taken.held inside is c.self.invariant)

pub returns-clause-frees : goal.returns-clause-frees
returns-clause-frees g c =
    let nodes = c.self.inside.nodes.items in let at = c.args.at in
    map-set held_of nodes at c.replace.new.dest ∙ (ap (λ (node : Node g.row.T.Denot). set (nodes_of nodes) at (held_of node)) c.replace.ensures.after
    ∙ ap (λ (all : List (Option (Held g.row.T.Denot))). set all at None) c.self.view_is)
