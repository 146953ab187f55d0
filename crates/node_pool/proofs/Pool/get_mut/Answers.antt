use Rattle.std.proofs.Common.{set, None, option_map, is_some, refl, sym, ap, subst, ◌∙◌}
use Rattle.std.proofs.lemmas.List.{map-set}
use Rattle.node_pool.specs.declared.Held.{Held}
use Rattle.node_pool.specs.FreeLine.{held_of, nodes_of, valued}
use Rattle.node_pool.specs.Nodes.{IsTaken, value_at, with_value}
use Rattle.node_pool.proofs.FreeLines.{held_of-valued, lined_valued, seen_at, taken_inside}
use Rattle.node_pool.proofs.Pool.get_mut.Goals as goal

pub invariant_of-self-lent : goal.invariant_of-self-lent
invariant_of-self-lent g c w =
    let nodes = c.self.inside.nodes.items in let at = c.args.at in let now = c.index_mut.result.now in
    let is_taken = subst (λ all. IsTaken all at) (sym c.self.view_is) c.requires in
    let inside = taken_inside nodes at is_taken in
    let seen = seen_at nodes at held_of now None inside c.index_mut.ensures.value in
    lined_valued nodes at c.self.inside.first c.self.inside.free now w inside c.index_mut.ensures.value (ap is_some (sym seen) ∙ is_taken) c.self.invariant

pub returns : goal.returns
returns g c =
    let nodes = c.self.inside.nodes.items in let at = c.args.at in let now = c.index_mut.result.now in
    let inside = taken_inside nodes at (subst (λ all. IsTaken all at) (sym c.self.view_is) c.requires) in
    let seen = seen_at nodes at held_of now None inside c.index_mut.ensures.value in (
      (
        refl,
        λ w.
            map-set held_of nodes at (valued now w)
            ∙ (ap (set (nodes_of nodes) at) (held_of-valued now w ∙ ap (option_map (λ (held : Held g.row.T.Denot). record held { value = w })) (sym seen))
            ∙ ap (λ all. with_value all at w) c.self.view_is),
      ),
      record {
        writes_back = tt;
        value = ap (λ all. value_at all at) (sym c.self.view_is) ∙ (ap (option_map (λ (held : Held g.row.T.Denot). held.value)) seen ∙ c.value_mut.ensures.value);
      },
    )
