use Rattle.std.proofs.Common.{◌≡◌, ℕ, suc, ◌+◌, List, ◌++◌, ◌∷◌, [], map, length, Option, Some, None, subst, sym, ap, ◌∙◌, arith}
use Rattle.std.proofs.lemmas.List.{length-map, map-append, replicate-append-replicate}
use Rattle.node_pool.specs.declared.Held.{Held}
use Rattle.node_pool.specs.declared.Node.{Node}
use Rattle.node_pool.specs.declared.Node.TheVariants.{Free}
use Rattle.node_pool.specs.FreeLine.{IsFreeLine, held_of, next_of, nodes_of}
use Rattle.node_pool.proofs.FreeLines.{line_grows}
use Rattle.node_pool.proofs.Pool.with_room.Goals as goal

pub loop-at-preserved : goal.loop-at-preserved
loop-at-preserved g c =
    let nodes = c.loop-at.nodes.items in let at = c.loop-at.at in let first = c.loop-at.first in
    let items = c.push_reserved.ensures.items in
    let next : suc at ≡ at + 1 = omega arith in
    let end : at ≡ length (map next_of nodes) = sym (length-map nodes next_of ∙ (sym c.loop-at.nodes.ok.0 ∙ c.loop-at.invariant.len)) in
    record {
      len = let was = c.loop-at.invariant.len in let len = c.push_reserved.ensures.len in omega arith;
      room = c.push_reserved.ensures.capacity ∙ c.loop-at.invariant.room;
      line = subst (λ (all : List (Node g.row.T.Denot)). IsFreeLine (map next_of all) (Some at) (at + 1)) (sym items)
          (subst (λ (all : List (Option (Option ℕ))). IsFreeLine all (Some at) (at + 1)) (sym (map-append next_of nodes (Free first ∷ [])))
          (subst (λ n. IsFreeLine (map next_of nodes ++ Some first ∷ []) (Some at) n) next
          (line_grows (map next_of nodes) first at at end c.loop-at.invariant.line)));
      free = ap nodes_of items ∙ (map-append held_of nodes (Free first ∷ [])
          ∙ (ap (λ (all : List (Option (Held g.row.T.Denot))). all ++ None ∷ []) c.loop-at.invariant.free ∙ replicate-append-replicate at 1 None));
    }
