-- A line of nodes after one came to its end, and after one left it.
use Rattle.std.proofs.Common.{◌≡◌, ◌≢◌, ℕ, zero, suc, ◌+◌, ◌<◌, ◌≤◌, ◌^◌, List, [], ◌∷◌, length, drop, set, slice_get, Option, Some, None, is_some, option_map, unwrap_or, refl, sym, ap, subst, ◌∙◌, arith}
use Rattle.std.proofs.lemmas.List.{drop_all, get_or-set_other, get_or-set_same, length-set}
use Rattle.std.proofs.lemmas.Option.{same_Some, slice_get-map}
use Rattle.sched_base.specs.declared.task.Task.{Task}
use Rattle.node_pool.specs.declared.Held.{Held}
use Rattle.node_pool.specs.Nodes.{IsTaken, Nodes, free_of, held_at, link_at, value_at}
use Rattle.node_pool.proofs.Counts.{found_inside}
use Rattle.node_pool.proofs.FreeNodes.{free_of-set_taken}
use Rattle.run_queue.specs.declared.line.Spot.{Spot}
use Rattle.run_queue.specs.Code.Lines.{Cell, IsLaid, IsLinked, cells_from, node_at, node_before, relinked, spot_at, tasks_of}
use Rattle.run_queue.proofs.Places.{drop_here, item_at}

-- a spot is one of a cell
pub record IsSpotOf (cells : List Cell) (k : ℕ) (spot : Spot) : Type 0 where
  pub cell : Cell
  pub found : slice_get cells k ≡ Some cell
  pub node : spot.node ≡ cell.node
  pub before : spot.before ≡ node_before cells k

pub spot_cell : (cells : List Cell) (k : ℕ) (spot : Spot) → spot_at cells k ≡ Some spot → IsSpotOf cells k spot
spot_cell cells k spot is = found (slice_get cells k) refl
  where
    found : (o : Option Cell) → slice_get cells k ≡ o → IsSpotOf cells k spot
    found None none = let e = sym is ∙ ap (option_map (λ (cell : Cell). let s : Spot = record { before = node_before cells k; node = cell.node } in s)) none in absurd (cc)
    found (Some cell) some =
        let e : Some spot ≡ Some (record { before = node_before cells k; node = cell.node }) =
        sym is ∙ ap (option_map (λ (cell : Cell). let s : Spot = record { before = node_before cells k; node = cell.node } in s)) some in
        let same = same_Some spot (record { before = node_before cells k; node = cell.node }) e in
        record { cell = cell; found = some; node = ap (λ (s : Spot). s.node) same; before = ap (λ (s : Spot). s.before) same }

-- the node before a place is that of a cell
pub record IsBefore (cells : List Cell) (k node : ℕ) : Type 0 where
  pub place : ℕ
  pub cell : Cell
  pub next : suc place ≡ k
  pub found : slice_get cells place ≡ Some cell
  pub same : cell.node ≡ node

pub before_cell : (cells : List Cell) (k node : ℕ) → node_before cells k ≡ Some node → IsBefore cells k node
before_cell cells zero node is = absurd (cc)
before_cell cells (suc m) node is = of (slice_get cells m) refl is
  where
    of : (o : Option Cell) → slice_get cells m ≡ o → option_map (λ (cell : Cell). cell.node) o ≡ Some node → IsBefore cells (suc m) node
    of None none e = absurd (cc)
    of (Some cell) some e = record { place = m; cell = cell; next = refl; found = some; same = same_Some cell.node node e }

-- what a node holds
abbrev pub held_with : Task → Option ℕ → Held Task
held_with task link = record { value = task; link = link }

module _ (nodes : Nodes Task) (first last : Option ℕ) (cells : List Cell) (line : IsLinked nodes first last cells) where
  -- the node in a place is taken
  pub is_taken : (k : ℕ) (cell : Cell) → slice_get cells k ≡ Some cell → IsTaken nodes cell.node
  is_taken k cell is = ap is_some (line.held k cell is)

  -- so is the node before a place
  pub before_taken : (k node : ℕ) → node_before cells k ≡ Some node → IsTaken nodes node
  before_taken k node is =
      let of = before_cell cells k node is in subst (IsTaken nodes) of.same (is_taken of.place of.cell of.found)

  cells_along : (n k : ℕ) → k + n ≡ length cells → cells_from nodes (node_at cells k) n ≡ drop k cells
  cells_along zero k end = sym (drop_all k cells (omega arith))
  cells_along (suc n) k end =
      let here : (cell : Cell) × (slice_get cells k ≡ Some cell) = item_at cells k (omega arith) in
      let cell = here.0 in
      ap (λ (o : Option Cell). cells_from nodes (option_map (λ (c : Cell). c.node) o) (suc n)) here.1
      ∙ (ap (λ (o : Option (Held Task)). unwrap_or (option_map (λ (held : Held Task). record { node = cell.node; task = held.value } ∷ cells_from nodes held.link n) o) []) (line.held k cell here.1)
      ∙ (ap (λ (rest : List Cell). cell ∷ rest) (cells_along n (suc k) (omega arith)) ∙ sym (drop_here cells k cell here.1)))

  -- the links lead along the whole line
  pub cells_whole : cells_from nodes first (length cells) ≡ cells
  cells_whole = ap (λ at. cells_from nodes at (length cells)) line.begins ∙ cells_along (length cells) 0 (omega arith)

  -- so the nodes are laid, where no others are taken
  pub laid_line : (len : ℕ) → length cells ≡ len → free_of nodes + len ≡ length nodes → length nodes < 2 ^ 32
      → (IsLaid nodes first last len) × (cells_from nodes first len ≡ cells)
  laid_line len count free small =
      let whole : cells_from nodes first len ≡ cells = subst (λ n. cells_from nodes first n ≡ cells) count cells_whole in (
        record {
          count = ap length whole ∙ count;
          linked = subst (λ (all : List Cell). IsLinked nodes first last all) (sym whole) line;
          free = free;
          small = small;
        },
        whole,
      )

  -- other nodes that hold the same in the line's places
  pub framed : (others : Nodes Task) → ((k : ℕ) (cell : Cell) → slice_get cells k ≡ Some cell → held_at others cell.node ≡ held_at nodes cell.node)
      → IsLinked others first last cells
  framed others same = record {
    begins = line.begins;
    ends = line.ends;
    held = λ k cell is. same k cell is ∙ line.held k cell is;
    apart = line.apart;
  }

  module _ (next : Option ℕ) where
    relinked_at : (m : ℕ) (b : Cell) → slice_get cells m ≡ Some b → relinked nodes (node_before cells (suc m)) next ≡ set nodes b.node (Some (held_with b.task next))
    relinked_at m b is =
        ap (λ (o : Option Cell). relinked nodes (option_map (λ (c : Cell). c.node) o) next) is
        ∙ ap (λ (o : Option (Held Task)). set nodes b.node (option_map (λ (held : Held Task). record held { link = next }) o)) (line.held m b is)

    -- the node before the place has that link
    pub relinked_here : (m : ℕ) (b : Cell) → slice_get cells m ≡ Some b → held_at (relinked nodes (node_before cells (suc m)) next) b.node ≡ Some (held_with b.task next)
    relinked_here m b is =
        ap (λ (all : Nodes Task). held_at all b.node) (relinked_at m b is)
        ∙ get_or-set_same nodes b.node (Some (held_with b.task next)) None (found_inside nodes b.node (is_taken m b is))

    -- another node is as it was
    pub relinked_else : (k node : ℕ) → k ≤ length cells → ((m : ℕ) (b : Cell) → suc m ≡ k → slice_get cells m ≡ Some b → b.node ≢ node)
        → held_at (relinked nodes (node_before cells k) next) node ≡ held_at nodes node
    relinked_else zero node inside else = refl
    relinked_else (suc m) node inside else =
        let b : (cell : Cell) × (slice_get cells m ≡ Some cell) = item_at cells m (omega arith) in
        ap (λ (all : Nodes Task). held_at all node) (relinked_at m b.0 b.1)
        ∙ get_or-set_other nodes b.0.node node (Some (held_with b.0.task next)) None (λ same. else m b.0 refl b.1 (sym same))

    pub relinked_free : (k : ℕ) → k ≤ length cells → free_of (relinked nodes (node_before cells k) next) ≡ free_of nodes
    relinked_free zero inside = refl
    relinked_free (suc m) inside =
        let b : (cell : Cell) × (slice_get cells m ≡ Some cell) = item_at cells m (omega arith) in
        ap free_of (relinked_at m b.0 b.1) ∙ free_of-set_taken nodes b.0.node (held_with b.0.task next) (is_taken m b.0 b.1)

    pub relinked_length : (k : ℕ) → k ≤ length cells → length (relinked nodes (node_before cells k) next) ≡ length nodes
    relinked_length zero inside = refl
    relinked_length (suc m) inside =
        let b : (cell : Cell) × (slice_get cells m ≡ Some cell) = item_at cells m (omega arith) in
        ap (λ (all : Nodes Task). length all) (relinked_at m b.0 b.1) ∙ length-set nodes b.0.node (Some (held_with b.0.task next))

module _ (nodes : Nodes Task) (first last : Option ℕ) (cells : List Cell) (line : IsLinked nodes first last cells) (k : ℕ) (spot : Spot) (is : spot_at cells k ≡ Some spot) where
  pub spot_held : (cell : Cell) × (slice_get cells k ≡ Some cell) × (held_at nodes spot.node ≡ Some (held_with cell.task (node_at cells (suc k))))
  spot_held =
      let of = spot_cell cells k spot is in
      (of.cell, of.found, ap (λ node. held_at nodes node) of.node ∙ line.held k of.cell of.found)

  pub spot_taken : IsTaken nodes spot.node
  spot_taken = ap is_some spot_held.2

  pub spot_before : spot.before ≡ node_before cells k
  spot_before = (spot_cell cells k spot is).before

  pub spot_link : link_at nodes spot.node ≡ Some (node_at cells (suc k))
  spot_link = ap (option_map (λ (held : Held Task). held.link)) spot_held.2

  pub spot_task : slice_get (tasks_of cells) k ≡ value_at nodes spot.node
  spot_task =
      slice_get-map (λ (cell : Cell). cell.task) cells k
      ∙ (ap (option_map (λ (cell : Cell). cell.task)) spot_held.1 ∙ sym (ap (option_map (λ (held : Held Task). held.value)) spot_held.2))

  -- where no node is linked, the line ends
  pub spot_last : node_at cells (suc k) ≡ None → spot_at cells (suc k) ≡ None
  spot_last none = last_of (slice_get cells (suc k)) none
    where
      last_of : (o : Option Cell) → option_map (λ (cell : Cell). cell.node) o ≡ None
          → option_map (λ (cell : Cell). let s : Spot = record { before = node_at cells k; node = cell.node } in s) o ≡ None
      last_of None e = refl
      last_of (Some cell) e = absurd (cc)

  -- the place of the node that is linked
  pub spot_after : (node : ℕ) → node_at cells (suc k) ≡ Some node → spot_at cells (suc k) ≡ Some (record { before = Some spot.node; node = node })
  spot_after node some =
      let of = spot_cell cells k spot is in
      let here : node_at cells k ≡ Some spot.node = ap (option_map (λ (cell : Cell). cell.node)) of.found ∙ ap (λ (n : ℕ). Some n) (sym of.node) in
      next_of (slice_get cells (suc k)) (node_at cells k) here some
    where
      next_of : (o : Option Cell) (before : Option ℕ) → before ≡ Some spot.node → option_map (λ (cell : Cell). cell.node) o ≡ Some node
          → option_map (λ (cell : Cell). let s : Spot = record { before = before; node = cell.node } in s) o ≡ Some (record { before = Some spot.node; node = node })
      next_of None before here e = absurd (cc)
      next_of (Some cell) before here e =
          let same : cell.node ≡ node = cc in
          ap (λ (n : ℕ). let s : Spot = record { before = before; node = n } in Some s) same
          ∙ ap (λ (b : Option ℕ). let s : Spot = record { before = b; node = node } in Some s) here
