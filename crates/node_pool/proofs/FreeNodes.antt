-- The number of free nodes, after a node is taken, changed, or given back.
use Rattle.std.proofs.Common.{◌≡◌, ℕ, ◌+◌, set, Option, Some, None, is_none, not, refl, sym, ap}
use Rattle.std.proofs.lemmas.Option.{get_or_from_slice_get, slice_get_within}
use Rattle.node_pool.specs.declared.Held.{Held}
use Rattle.node_pool.specs.Nodes.{IsFree, IsTaken, Nodes, free_of, with_held}
use Rattle.node_pool.proofs.Counts.{count_by-set_fewer, count_by-set_more, count_by-set_same, found_inside}

-- a free node that is taken
pub free_of-with_held : {T : Type 0} (nodes : Nodes T) (at : ℕ) (value : T) (link : Option ℕ) → IsFree nodes at
    → free_of (with_held nodes at value link) + 1 ≡ free_of nodes
free_of-with_held nodes at value link is_free =
    count_by-set_fewer is_none nodes at (Some (record { value = value; link = link })) None (slice_get_within nodes at None is_free)
    (ap is_none (get_or_from_slice_get nodes at None None is_free)) refl

-- a taken node that stays taken
pub free_of-set_taken : {T : Type 0} (nodes : Nodes T) (at : ℕ) (held : Held T) → IsTaken nodes at → free_of (set nodes at (Some held)) ≡ free_of nodes
free_of-set_taken nodes at held is_taken =
    count_by-set_same is_none nodes at (Some held) None (found_inside nodes at is_taken) (ap not (sym is_taken))

-- a taken node that is given back
pub free_of-given : {T : Type 0} (nodes : Nodes T) (at : ℕ) → IsTaken nodes at → free_of (set nodes at None) ≡ free_of nodes + 1
free_of-given nodes at is_taken =
    count_by-set_more is_none nodes at None None (found_inside nodes at is_taken) (ap not is_taken) refl
