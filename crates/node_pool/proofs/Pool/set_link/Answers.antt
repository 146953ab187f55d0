use Rattle.std.proofs.Common.{set, None, option_map, sym, ap, subst, ◌∙◌}
use Rattle.std.proofs.lemmas.List.{map-set}
use Rattle.node_pool.specs.declared.Held.{Held}
use Rattle.node_pool.specs.declared.Node.TheVariants.{Taken}
use Rattle.node_pool.specs.FreeLine.{held_of, nodes_of}
use Rattle.node_pool.specs.Nodes.{IsTaken, with_link}
use Rattle.node_pool.proofs.FreeLines.{lined_changed, read_is, seen_at, taken_inside}
use Rattle.node_pool.proofs.Pool.set_link.Goals as goal

pub invariant_of-self : goal.invariant_of-self
invariant_of-self g c =
    let nodes = c.self.inside.nodes.items in let at = c.args.at in
    let inside = taken_inside nodes at (subst (λ all. IsTaken all at) (sym c.self.view_is) c.requires) in
    let is = read_is nodes at (Taken c.in-Taken.held) c.index_mut.result.now (sym c.in-Taken.is) c.index_mut.ensures.value in
    lined_changed nodes at c.self.inside.first c.self.inside.free c.in-Taken.held _ inside is c.self.invariant

pub returns : goal.returns
returns g c =
    let nodes = c.self.inside.nodes.items in let at = c.args.at in
    let inside = taken_inside nodes at (subst (λ all. IsTaken all at) (sym c.self.view_is) c.requires) in
    let is = read_is nodes at (Taken c.in-Taken.held) c.index_mut.result.now (sym c.in-Taken.is) c.index_mut.ensures.value in
    map-set held_of nodes at _
    ∙ (ap (λ o. set (nodes_of nodes) at (option_map (λ (held : Held g.row.T.Denot). record held { link = c.args.next }) o)) (sym (seen_at nodes at held_of _ None inside is))
    ∙ ap (λ all. with_link all at c.args.next) c.self.view_is)
