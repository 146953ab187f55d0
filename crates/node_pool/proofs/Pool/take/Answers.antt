use Rattle.std.proofs.Common.{◌≡◌, ◌-◌, ◌<◌, List, Option, length, set, Some, None, option_map, refl, sym, ap, subst, ◌∙◌, arith}
use Rattle.std.proofs.lemmas.List.{length-map, map-set}
use Rattle.std.proofs.lemmas.Option.{slice_get-map, slice_get_read}
use Rattle.node_pool.specs.declared.Held.{Held}
use Rattle.node_pool.specs.declared.Node.{Node}
use Rattle.node_pool.specs.declared.Node.TheVariants.{Free}
use Rattle.node_pool.specs.FreeLine.{IsLined, held_of, next_of, nodes_of}
use Rattle.node_pool.specs.Nodes.{IsFree, free_of}
use Rattle.node_pool.proofs.Counts.{found_inside}
use Rattle.node_pool.proofs.FreeLines.{line_begins, lined_free, lined_taken, read_is}
use Rattle.node_pool.proofs.Pool.take.Goals as goal

pub invariant_of-self : goal.invariant_of-self
invariant_of-self g c =
    let nodes = c.self.inside.nodes.items in let at = c.in-Some.at in let free = c.self.inside.free in
    let lined = subst (λ first. IsLined nodes first free) c.in-Some.is c.self.invariant in
    let found = found_inside _ at (line_begins _ at free lined.line).found in
    let inside : at < length nodes = omega (arith, length-map nodes (next_of {T = g.row.T.Denot})) in
    let is = read_is nodes at (Free c.in-Free.next) c.index_mut.result.now c.in-Free.ensures.value c.index_mut.ensures.value in
    subst (λ (node : Node g.row.T.Denot). IsLined (set nodes at node) c.in-Free.next (free - 1)) (sym c.replace.ensures.after)
    (lined_taken nodes at free c.in-Free.next _ inside is lined)

pub returns-clause-was_free : goal.returns-clause-was_free
returns-clause-was_free g c =
    let nodes = c.self.inside.nodes.items in let at = c.in-Some.at in let free = c.self.inside.free in
    let lined = subst (λ first. IsLined nodes first free) c.in-Some.is c.self.invariant in
    let found = found_inside _ at (line_begins _ at free lined.line).found in
    let inside : at < length nodes = omega (arith, length-map nodes (next_of {T = g.row.T.Denot})) in
    let is = read_is nodes at (Free c.in-Free.next) c.index_mut.result.now c.in-Free.ensures.value c.index_mut.ensures.value in
    subst (λ all. IsFree all at) c.self.view_is
    (slice_get-map held_of nodes at ∙ ap (option_map held_of) (slice_get_read nodes (length nodes) at (Free c.in-Free.next) refl inside is))

pub returns-clause-holds : goal.returns-clause-holds
returns-clause-holds g c =
    let nodes = c.self.inside.nodes.items in let at = c.in-Some.at in
    map-set held_of nodes at c.replace.new.dest ∙ (ap (λ (node : Node g.row.T.Denot). set (nodes_of nodes) at (held_of node)) c.replace.ensures.after
    ∙ ap (λ (all : List (Option (Held g.row.T.Denot))). set all at (Some (record { value = c.args.value; link = None }))) c.self.view_is)

pub returns-clause-full : goal.returns-clause-full
returns-clause-full g c =
    let free = c.self.inside.free in let nodes = c.self.inside.nodes.items in
    let lined = subst (λ first. IsLined nodes first free) c.in-Some.is c.self.invariant in
    let some = (line_begins _ c.in-Some.at free lined.line).some in
    let count : free_of c.args.self.now ≡ free = ap free_of (sym c.self.view_is) ∙ lined_free nodes c.self.inside.first free c.self.invariant in
    (λ e. absurd (cc), λ e. absurd (omega arith))
