-- A pool as a contract sees it: its nodes by their indexes.
use Rattle.std.specs.Prelude.{◌≡◌, ℕ, List, Option, Some, None, IsSome, is_none, count_by, option_map, slice_get}
use Rattle.std.specs.Prelude.{slice_index_or, slice_set}
use Rattle.node_pool.specs.declared.Held.{Held}

-- the nodes by their indexes. A free node is None
abbrev pub Nodes : Type 0 → Type 0
Nodes T = List (Option (Held T))

-- what the node of that index holds. A free node holds nothing, nor does an index past the last
abbrev pub held_at : {T : Type 0} → Nodes T → ℕ → Option (Held T)
held_at nodes at = slice_index_or nodes at None

-- the value of the node
abbrev pub value_at : {T : Type 0} → Nodes T → ℕ → Option T
value_at nodes at = option_map (λ held. held.value) (held_at nodes at)

-- the link of the node, which may be none
abbrev pub link_at : {T : Type 0} → Nodes T → ℕ → Option (Option ℕ)
link_at nodes at = option_map (λ held. held.link) (held_at nodes at)

-- the node is taken
abbrev pub IsTaken : {T : Type 0} → Nodes T → ℕ → Type 0
IsTaken nodes at = IsSome (held_at nodes at)

-- there is such a node, and it is free
abbrev pub IsFree : {T : Type 0} → Nodes T → ℕ → Type 0
IsFree nodes at = slice_get nodes at ≡ Some None

-- how many nodes are free
abbrev pub free_of : {T : Type 0} → Nodes T → ℕ
free_of nodes = count_by is_none nodes

-- the nodes where that one holds the value and the link
abbrev pub with_held : {T : Type 0} → Nodes T → ℕ → T → Option ℕ → Nodes T
with_held nodes at value link = slice_set nodes at (Some (record { value = value; link = link }))

-- the nodes where that one, if it is taken, has that link
abbrev pub with_link : {T : Type 0} → Nodes T → ℕ → Option ℕ → Nodes T
with_link nodes at link =
    slice_set nodes at (option_map (λ (held : Held _). record held { link = link }) (held_at nodes at))

-- the nodes where that one, if it is taken, has that value
abbrev pub with_value : {T : Type 0} → Nodes T → ℕ → T → Nodes T
with_value nodes at value =
    slice_set nodes at (option_map (λ (held : Held _). record held { value = value }) (held_at nodes at))
