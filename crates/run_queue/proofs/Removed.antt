-- A line after a task left it.
use Rattle.std.proofs.Common.{◌≡◌, ◌≢◌, ℕ, zero, suc, ◌+◌, ◌-◌, ◌<◌, ◌≤◌, ◌^◌, List, length, set, remove, slice_get, Option, Some, None, is_some, option_map, ⊎_elim, refl, sym, ap, ap₂, subst, ◌∙◌, arith}
use Rattle.std.proofs.lemmas.Bool.{cases_eq, cases_lt}
use Rattle.std.proofs.lemmas.List.{get_or-set_other, length-set}
use Rattle.std.proofs.lemmas.List.Edits.{length-remove}
use Rattle.std.proofs.lemmas.Option.{same_Some, slice_get_past, slice_get_within}
use Rattle.sched_base.specs.declared.task.Task.{Task}
use Rattle.node_pool.specs.declared.Held.{Held}
use Rattle.node_pool.specs.Nodes.{IsTaken, Nodes, free_of, held_at, link_at, value_at}
use Rattle.node_pool.proofs.FreeNodes.{free_of-given}
use Rattle.run_queue.specs.declared.line.Spot.{Spot}
use Rattle.run_queue.specs.Code.Lines.{Cell, IsLaid, IsLinked, cells_from, first_after, last_after, node_at, node_before, relinked, spot_at, tasks_of}
use Rattle.run_queue.proofs.Lines.{held_with, is_taken, laid_line, relinked_else, relinked_free, relinked_here, relinked_length, spot_before, spot_cell, spot_link, spot_task}
use Rattle.run_queue.proofs.Places.{item_at, place_before, place_before-apart, place_before-gone, place_before-less, place_before-more, slice_get-remove}

-- the node in a place after one was left out
node_at-remove : (cells : List Cell) (gone k place : ℕ) → place_before gone k ≡ place → node_at (remove cells gone) k ≡ node_at cells place
node_at-remove cells gone k place is = ap (option_map (λ (c : Cell). c.node)) (slice_get-remove cells gone k ∙ ap (slice_get cells) is)

-- the line begins where it did, or with the one behind
begins_removed : (cells : List Cell) (first : Option ℕ) (gone : ℕ) → first ≡ node_at cells 0 → gone < length cells
    → first_after first (node_before cells gone) (node_at cells (suc gone)) ≡ node_at (remove cells gone) 0
begins_removed cells first zero is inside = sym (node_at-remove cells 0 0 1 refl)
begins_removed cells first (suc m) is inside =
    let b : (cell : Cell) × (slice_get cells m ≡ Some cell) = item_at cells m (omega arith) in
    ap (λ (o : Option Cell). first_after first (option_map (λ (c : Cell). c.node) o) (node_at cells (suc (suc m)))) b.1
    ∙ (is ∙ sym (node_at-remove cells (suc m) 0 0 refl))

-- the last of the line left it
ends_before : (cells : List Cell) (gone : ℕ) → node_before cells gone ≡ node_before (remove cells gone) gone
ends_before cells zero = refl
ends_before cells (suc m) = sym (node_at-remove cells (suc m) m m (place_before-less (suc m) m (omega arith)))

-- the line ends where it did, or with the one before
ends_removed : (cells : List Cell) (last : Option ℕ) (gone : ℕ) → last ≡ node_before cells (length cells) → gone < length cells
    → last_after last (node_before cells gone) (node_at cells (suc gone)) ≡ node_before (remove cells gone) (length (remove cells gone))
ends_removed cells last gone is inside =
    let fewer = length-remove cells gone inside in
    ⊎_elim
    (λ (more : suc gone < length cells).
    let y : (cell : Cell) × (slice_get cells (suc gone) ≡ Some cell) = item_at cells (suc gone) more in
    let p : ℕ = length cells - 2 in
    let all : length cells ≡ suc (suc p) = omega arith in
    let rest : length (remove cells gone) ≡ suc p = omega arith in
    ap (λ (o : Option Cell). last_after last (node_before cells gone) (option_map (λ (c : Cell). c.node) o)) y.1
    ∙ (is ∙ (ap (node_before cells) all
    ∙ (sym (node_at-remove cells gone p (suc p) (place_before-more gone p (omega arith))) ∙ ap (node_before (remove cells gone)) (sym rest)))))
    (λ (end : length cells ≤ suc gone).
    let rest : length (remove cells gone) ≡ gone = omega arith in
    ap (λ (o : Option Cell). last_after last (node_before cells gone) (option_map (λ (c : Cell). c.node) o)) (slice_get_past cells (suc gone) end)
    ∙ (ends_before cells gone ∙ ap (node_before (remove cells gone)) (sym rest)))
    (cases_lt (suc gone) (length cells))

-- where the one behind it stood
behind_before : (gone k : ℕ) → suc (place_before gone k) ≢ gone → place_before gone (suc k) ≡ suc (place_before gone k)
behind_before gone k else =
    ⊎_elim
    (λ (less : k < gone).
    let here = place_before-less gone k less in
    let next = place_before-less gone (suc k) (let apart : suc k ≢ gone = λ same. else (ap suc here ∙ same) in omega arith) in omega arith)
    (λ (more : gone ≤ k). let here = place_before-more gone k more in let next = place_before-more gone (suc k) (omega arith) in omega arith)
    (cases_lt k gone)

-- the one behind the one before it
behind_gone : (gone k : ℕ) → suc (place_before gone k) ≡ gone → place_before gone (suc k) ≡ suc gone
behind_gone gone k is =
    ⊎_elim
    (λ (less : k < gone). let here = place_before-less gone k less in let next = place_before-more gone (suc k) (omega arith) in omega arith)
    (λ (more : gone ≤ k). let here = place_before-more gone k more in absurd (omega arith))
    (cases_lt k gone)

module _ (nodes : Nodes Task) (first last : Option ℕ) (cells : List Cell) (line : IsLinked nodes first last cells) (gone : ℕ) (x : Cell) (there : slice_get cells gone ≡ Some x) where
  next : Option ℕ
  next = node_at cells (suc gone)

  relaid : Nodes Task
  relaid = relinked nodes (node_before cells gone) next

  given : Nodes Task
  given = set relaid x.node None

  inside : gone < length cells
  inside = slice_get_within cells gone x there

  held_removed : (k : ℕ) (cell : Cell) → slice_get (remove cells gone) k ≡ Some cell → held_at given cell.node ≡ Some (held_with cell.task (node_at (remove cells gone) (suc k)))
  unfolding next relaid given
  held_removed k cell at =
      let place = place_before gone k in
      let is : slice_get cells place ≡ Some cell = sym (slice_get-remove cells gone k) ∙ at in
      get_or-set_other relaid x.node cell.node None None (line.apart place gone cell x (place_before-gone gone k) is there)
      ∙ ⊎_elim
      (λ (here : suc place ≡ gone).
      ap (λ n. held_at (relinked nodes (node_before cells n) next) cell.node) (sym here)
      ∙ (relinked_here nodes first last cells line next place cell is
      ∙ ap (λ link. Some (held_with cell.task link)) (sym (node_at-remove cells gone (suc k) (suc gone) (behind_gone gone k here)))))
      (λ (else : suc place ≢ gone).
      relinked_else nodes first last cells line next gone cell.node (let l = inside in omega arith)
      (λ m b end found. line.apart m place b cell (λ same. else (ap suc (sym same) ∙ end)) found is)
      ∙ (line.held place cell is
      ∙ ap (λ link. Some (held_with cell.task link)) (sym (node_at-remove cells gone (suc k) (suc place) (behind_before gone k else)))))
      (cases_eq (suc place) gone)

  line_removed : IsLinked given (first_after first (node_before cells gone) next) (last_after last (node_before cells gone) next) (remove cells gone)
  unfolding next
  line_removed = record {
    begins = begins_removed cells first gone line.begins inside;
    ends = ends_removed cells last gone line.ends inside;
    held = held_removed;
    apart = λ i j a b else at_i at_j.
        line.apart (place_before gone i) (place_before gone j) a b (place_before-apart gone i j else)
        (sym (slice_get-remove cells gone i) ∙ at_i) (sym (slice_get-remove cells gone j) ∙ at_j);
  }

  -- the node that is to be given back stays as it was until then
  pub relaid_held : held_at (relinked nodes (node_before cells gone) (node_at cells (suc gone))) x.node ≡ held_at nodes x.node
  relaid_held =
      relinked_else nodes first last cells line (node_at cells (suc gone)) gone x.node (let l = inside in omega arith)
      (λ m b end found. line.apart m gone b x (omega arith) found there)

  relaid_taken : IsTaken (relinked nodes (node_before cells gone) (node_at cells (suc gone))) x.node
  relaid_taken = ap is_some relaid_held ∙ is_taken nodes first last cells line gone x there

  -- the nodes after the task left
  pub laid_removed : (len : ℕ) → length cells ≡ len → free_of nodes + len ≡ length nodes → length nodes < 2 ^ 32
      → (after : Nodes Task) (begin end : Option ℕ)
      → after ≡ set (relinked nodes (node_before cells gone) (node_at cells (suc gone))) x.node None
      → begin ≡ first_after first (node_before cells gone) (node_at cells (suc gone))
      → end ≡ last_after last (node_before cells gone) (node_at cells (suc gone))
      → (IsLaid after begin end (len - 1)) × (cells_from after begin (len - 1) ≡ remove cells gone) × (length after ≡ length nodes)
  unfolding next relaid given
  laid_removed len count free_count small after begin end is_after is_begin is_end =
      let fewer = length-remove cells gone inside in
      let size : length given ≡ length nodes = length-set relaid x.node None ∙ relinked_length nodes first last cells line next gone (let l = inside in omega arith) in
      let frees : free_of given ≡ free_of nodes + 1 =
      free_of-given relaid x.node relaid_taken ∙ ap (λ n. n + 1) (relinked_free nodes first last cells line next gone (let l = inside in omega arith)) in
      let done = laid_line given _ _ (remove cells gone) line_removed (len - 1) (omega arith)
      (counted (free_of given) (free_of nodes) len (length nodes) (length given) frees free_count size (let l = inside in omega arith)) (subst (λ n. n < 2 ^ 32) (sym size) small) in
      subst (λ (all : Nodes Task). (IsLaid all begin end (len - 1)) × (cells_from all begin (len - 1) ≡ remove cells gone) × (length all ≡ length nodes)) (sym is_after)
      (subst (λ (at : Option ℕ). (IsLaid given at end (len - 1)) × (cells_from given at (len - 1) ≡ remove cells gone) × (length given ≡ length nodes)) (sym is_begin)
      (subst (λ (at : Option ℕ). let begin : Option ℕ = first_after first (node_before cells gone) next in (IsLaid given begin at (len - 1)) × (cells_from given begin (len - 1) ≡ remove cells gone) × (length given ≡ length nodes)) (sym is_end)
      (done.0, done.1, size)))
    where
      counted : (now was len all same : ℕ) → now ≡ was + 1 → was + len ≡ all → same ≡ all → 0 < len → now + (len - 1) ≡ same
      counted now was len all same one sum is some = omega arith

-- the same, as the code names the nodes: by the spot and the link that it read
module _ (nodes : Nodes Task) (first last : Option ℕ) (cells : List Cell) (line : IsLinked nodes first last cells) (k : ℕ) (spot : Spot) (is : spot_at cells k ≡ Some spot)
    (next : Option ℕ) (is_next : link_at nodes spot.node ≡ Some next) where
  link_is : next ≡ node_at cells (suc k)
  link_is = same_Some next (node_at cells (suc k)) (sym is_next ∙ spot_link nodes first last cells line k spot is)

  relinks : relinked nodes spot.before next ≡ relinked nodes (node_before cells k) (node_at cells (suc k))
  relinks = ap₂ (λ (b n : Option ℕ). relinked nodes b n) (spot_before nodes first last cells line k spot is) link_is

  -- what the spot's task is
  pub spot_value : value_at (relinked nodes spot.before next) spot.node ≡ slice_get (tasks_of cells) k
  spot_value =
      let of = spot_cell cells k spot is in
      ap (λ (all : Nodes Task). value_at all spot.node) relinks
      ∙ (ap (λ (node : ℕ). value_at (relinked nodes (node_before cells k) (node_at cells (suc k))) node) of.node
      ∙ (ap (option_map (λ (held : Held Task). held.value)) (relaid_held nodes first last cells line k of.cell of.found)
      ∙ (ap (λ (node : ℕ). value_at nodes node) (sym of.node) ∙ sym (spot_task nodes first last cells line k spot is))))

  pub laid_without : (len : ℕ) → length cells ≡ len → free_of nodes + len ≡ length nodes → length nodes < 2 ^ 32
      → (linked after : Nodes Task) (begin end : Option ℕ) → linked ≡ relinked nodes spot.before next → after ≡ set linked spot.node None
      → begin ≡ first_after first spot.before next → end ≡ last_after last spot.before next
      → (IsLaid after begin end (len - 1)) × (cells_from after begin (len - 1) ≡ remove cells k) × (length after ≡ length nodes)
  laid_without len count free small linked after begin end is_linked is_after is_begin is_end =
      let of = spot_cell cells k spot is in
      laid_removed nodes first last cells line k of.cell of.found len count free small after begin end
      (is_after ∙ ap₂ (λ (all : Nodes Task) (node : ℕ). set all node None) (is_linked ∙ relinks) of.node)
      (is_begin ∙ ap₂ (λ (b n : Option ℕ). first_after first b n) of.before link_is)
      (is_end ∙ ap₂ (λ (b n : Option ℕ). last_after last b n) of.before link_is)
