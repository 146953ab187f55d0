-- The heap of a line: its items by the nodes of the line.
use Rattle.std.proofs.Common.{◌≡◌, ◌≢◌, ℕ, zero, suc, ◌+◌, ◌<◌, ◌≤◌, ◌==◌, ◌⊎◌, ⊎_elim, Bool, true, false, cond, List, [], ◌∷◌, ◌++◌, All, Contains, IsPermutation, count_by, get_or, length, remove, slice_get, Option, Some, None, option_map, refl, sym, ap, ap₂, subst, ◌∙◌, arith, eq-eqb, ne_eqb}
use Rattle.std.proofs.lemmas.Bool.{cases_lt, eqb-true}
use Rattle.std.proofs.lemmas.List.{length_push}
use Rattle.std.proofs.lemmas.List.Edits.{length-remove}
use Rattle.std.proofs.lemmas.List.Elements.{All-contains, All-head, All-push, All-tail, Contains-get_or, Contains-push_cases}
use Rattle.std.proofs.lemmas.List.Sorted.{All-permutation, Contains-permutation, IsPermutation-sym, length_permutation, sum_by-IsPermutation}
use Rattle.std.proofs.lemmas.List.Sums.{sum_by-cons, sum_by-remove, sum_by_push}
use Rattle.std.proofs.lemmas.Option.{get_or_from_slice_get, same_Some, slice_get_within}
use Rattle.sched_base.specs.declared.task.Task.{Task}
use Rattle.policy_tree.specs.Meaning.{KeyTree}
use Rattle.run_queue.specs.declared.ranked.Ranked.{Ranked}
use Rattle.run_queue.specs.Code.Ahead.{AllNodes, AreApart, HasNode, ahead, is_sooner, task_at}
use Rattle.run_queue.specs.Code.Heaps.{IsHeap}
use Rattle.run_queue.specs.Code.Lines.{Cell, node_at, tasks_of}
use Rattle.run_queue.specs.Code.Queues.{CameBefore, IsRanked}
use Rattle.run_queue.specs.Tasks.{IsSeenTask, before}
use Rattle.run_queue.proofs.Counted.{contains_at, counted, counts, one_of, stands_at}
use Rattle.run_queue.proofs.Places.{place_before, place_before-apart, place_before-less, place_before-more, pushed_cases, slice_get-remove}

-- what stands for an item past the end of a heap
abbrev pub no_item : Ranked
no_item = record { node = 0; arrival = 0 }

-- a cell of the line that has the node
pub record HasCell (cells : List Cell) (node : ℕ) : Type 0 where
  pub place : ℕ
  pub cell : Cell
  pub at : slice_get cells place ≡ Some cell
  pub is : cell.node ≡ node

pub cell_of : (cells : List Cell) (node : ℕ) → HasNode cells node → HasCell cells node
cell_of cells node has = of (slice_get cells has.0) refl has.1
  where
    of : (o : Option Cell) → slice_get cells has.0 ≡ o → option_map (λ (cell : Cell). cell.node) o ≡ Some node → HasCell cells node
    of None none e = absurd (cc)
    of (Some cell) some e = record { place = has.0; cell = cell; at = some; is = same_Some cell.node node e }

pub has_node : (cells : List Cell) (k : ℕ) (cell : Cell) → slice_get cells k ≡ Some cell → HasNode cells cell.node
has_node cells k cell at = (k, ap (option_map (λ (c : Cell). c.node)) at)

-- the task of a node can be seen
pub seen_at : (cells : List Cell) (node : ℕ) → HasNode cells node → All IsSeenTask (tasks_of cells) → IsSeenTask (task_at cells node)
seen_at [] node has each = absurd (let e = has.1 in cc)
seen_at (x ∷ xs) node (k, is) each = with_head (x.node == node) refl k is (λ later. seen_at xs node later (All-tail IsSeenTask x.task (tasks_of xs) each))
  where
    with_head : (b : Bool) → (x.node == node) ≡ b → (k : ℕ) → node_at (x ∷ xs) k ≡ Some node → (HasNode xs node → IsSeenTask (task_at xs node))
        → IsSeenTask (cond (x.node == node) x.task (task_at xs node))
    with_head true same k is later = subst (λ b. IsSeenTask (cond b x.task (task_at xs node))) (sym same) (All-head IsSeenTask x.task (tasks_of xs) each)
    with_head false else zero is later = absurd (let one = same_Some x.node node is in let e = eq-eqb x.node node one in cc)
    with_head false else (suc k) is later = subst (λ b. IsSeenTask (cond b x.task (task_at xs node))) (sym else) (later (k, is))

apart_tail : (x : Cell) (xs : List Cell) → AreApart (x ∷ xs) → AreApart xs
apart_tail x xs apart = record { apart = λ i j a b else at_i at_j. apart.apart (suc i) (suc j) a b (λ same. else (omega arith)) at_i at_j }

-- the task of a node is that of its cell
pub task_at-is : (cells : List Cell) (k : ℕ) (cell : Cell) → AreApart cells → slice_get cells k ≡ Some cell → task_at cells cell.node ≡ cell.task
task_at-is [] k cell apart at = absurd (cc)
task_at-is (x ∷ xs) zero cell apart at =
    let same : x ≡ cell = same_Some x cell at in
    subst (λ (c : Cell). cond (x.node == c.node) x.task (task_at xs c.node) ≡ c.task) same (ap (λ b. cond b x.task (task_at xs x.node)) (eq-eqb x.node x.node refl))
task_at-is (x ∷ xs) (suc k) cell apart at =
    let else : x.node ≢ cell.node = apart.apart 0 (suc k) x cell (λ e. absurd (omega arith)) refl at in
    ap (λ b. cond b x.task (task_at xs cell.node)) (ne_eqb x.node cell.node else) ∙ task_at-is xs k cell (apart_tail x xs apart) at

module _ (cells : List Cell) (items : List Ranked) (ranked : IsRanked cells items) where
  -- the item of a cell
  pub item_of : (k : ℕ) (cell : Cell) → slice_get cells k ≡ Some cell → (a : Ranked) × Contains items a × (a.node ≡ cell.node)
  item_of k cell at =
      let some = counts (λ (c : Cell). c.node == cell.node) cells k cell at (eq-eqb cell.node cell.node refl) in
      let found = counted (λ (a : Ranked). a.node == cell.node) items (subst (λ n. 0 < n) (sym (ranked.once cell.node)) some) in
      (found.item, contains_at items found.place found.item found.at, eqb-true found.item.node cell.node found.passes)

  -- the cell of an item
  pub cell_of_item : (a : Ranked) → Contains items a → HasCell cells a.node
  cell_of_item a in' =
      let some = counts (λ (b : Ranked). b.node == a.node) items in'.0 a (stands_at items a in') (eq-eqb a.node a.node refl) in
      let found = counted (λ (c : Cell). c.node == a.node) cells (subst (λ n. 0 < n) (ranked.once a.node) some) in
      record { place = found.place; cell = found.item; at = found.at; is = eqb-true found.item.node a.node found.passes }

  pub node_of_item : (a : Ranked) → Contains items a → HasNode cells a.node
  node_of_item a in' = let of = cell_of_item a in' in subst (HasNode cells) of.is (has_node cells of.place of.cell of.at)

  pub nodes_of_items : AllNodes cells items
  nodes_of_items k d inside = node_of_item (get_or items k d) (Contains-get_or items k d inside)

  -- one more node at the line's end
  module _ (x : Cell) (a : Ranked) (next : ℕ) (more : List Ranked) (came : CameBefore next items) (fresh : HasNode cells x.node → ⊥)
      (node : a.node ≡ x.node) (arrival : a.arrival ≡ next) (moved : IsPermutation (items ++ a ∷ []) more) where
    cases_of : (b : Ranked) → Contains more b → Contains items b ⊎ (a ≡ b)
    cases_of b in' = Contains-push_cases items a b (Contains-permutation more (items ++ a ∷ []) b (IsPermutation-sym (items ++ a ∷ []) more moved) in')

    once_pushed : (n : ℕ) → count_by (λ (item : Ranked). item.node == n) more ≡ count_by (λ (cell : Cell). cell.node == n) (cells ++ x ∷ [])
    once_pushed n =
        sum_by-IsPermutation (λ (item : Ranked). one_of (item.node == n)) (items ++ a ∷ []) more moved
        ∙ (sum_by_push (λ (item : Ranked). one_of (item.node == n)) items a
        ∙ (ap₂ (λ m i. m + one_of (i == n)) (ranked.once n) node
        ∙ sym (sum_by_push (λ (cell : Cell). one_of (cell.node == n)) cells x)))

    rises_pushed : (i j : ℕ) (y z : Cell) (b c : Ranked) → i < j → slice_get (cells ++ x ∷ []) i ≡ Some y → slice_get (cells ++ x ∷ []) j ≡ Some z
        → Contains more b → Contains more c → b.node ≡ y.node → c.node ≡ z.node → b.arrival < c.arrival
    unfolding cases_of
    rises_pushed i j y z b c less at_i at_j in_b in_c is_b is_c =
        ⊎_elim
        (λ (hj : (j < length cells) × (slice_get cells j ≡ Some z)). old_end hj (pushed_cases cells x y i at_i) (cases_of b in_b) (cases_of c in_c))
        (λ (hj : (j ≡ length cells) × (x ≡ z)). new_end hj (pushed_cases cells x y i at_i) (cases_of b in_b) (cases_of c in_c))
        (pushed_cases cells x z j at_j)
      where
        -- the new item has no node of the line
        not_new : (k : ℕ) (w : Cell) (e : Ranked) → slice_get cells k ≡ Some w → e.node ≡ w.node → a ≡ e → ⊥
        not_new k w e at is same = fresh (subst (HasNode cells) (sym is ∙ (ap (λ (r : Ranked). r.node) (sym same) ∙ node)) (has_node cells k w at))

        old_end : (j < length cells) × (slice_get cells j ≡ Some z) → ((i < length cells) × (slice_get cells i ≡ Some y)) ⊎ ((i ≡ length cells) × (x ≡ y))
            → Contains items b ⊎ (a ≡ b) → Contains items c ⊎ (a ≡ c) → b.arrival < c.arrival
        old_end hj hi old_b old_c =
            ⊎_elim
            (λ (h : (i < length cells) × (slice_get cells i ≡ Some y)).
            ⊎_elim
            (λ (ib : Contains items b).
            ⊎_elim
            (λ (ic : Contains items c). ranked.rises i j y z b c less h.1 hj.1 ib ic is_b is_c)
            (λ (same : a ≡ c). absurd (not_new j z c hj.1 is_c same))
            old_c)
            (λ (same : a ≡ b). absurd (not_new i y b h.1 is_b same))
            old_b)
            (λ (h : (i ≡ length cells) × (x ≡ y)). let e = h.0 in let l = hj.0 in absurd (omega arith))
            hi

        new_end : (j ≡ length cells) × (x ≡ z) → ((i < length cells) × (slice_get cells i ≡ Some y)) ⊎ ((i ≡ length cells) × (x ≡ y))
            → Contains items b ⊎ (a ≡ b) → Contains items c ⊎ (a ≡ c) → b.arrival < c.arrival
        new_end hj hi old_b old_c =
            ⊎_elim
            (λ (h : (i < length cells) × (slice_get cells i ≡ Some y)).
            ⊎_elim
            (λ (ib : Contains items b).
            ⊎_elim
            (λ (ic : Contains items c). absurd (fresh (subst (HasNode cells) (is_c ∙ ap (λ (w : Cell). w.node) (sym hj.1)) (node_of_item c ic))))
            (λ (same : a ≡ c).
            let early = All-contains (λ (item : Ranked). item.arrival < next) items b came ib in
            let end : c.arrival ≡ next = ap (λ (r : Ranked). r.arrival) (sym same) ∙ arrival in
            omega arith)
            old_c)
            (λ (same : a ≡ b). absurd (not_new i y b h.1 is_b same))
            old_b)
            (λ (h : (i ≡ length cells) × (x ≡ y)). let e = h.0 in let l = hj.0 in absurd (omega arith))
            hi

    pub ranked_pushed : IsRanked (cells ++ x ∷ []) more
    ranked_pushed = record {
      count = length_permutation (items ++ a ∷ []) more moved ∙ (length_push items a ∙ (ap (λ n. n + 1) ranked.count ∙ sym (length_push cells x)));
      once = once_pushed;
      rises = rises_pushed;
    }

    pub came_pushed : CameBefore (next + 1) more
    came_pushed =
        All-permutation (λ (item : Ranked). item.arrival < next + 1) (items ++ a ∷ []) more moved
        (All-push (λ (item : Ranked). item.arrival < next + 1) items a (λ k d inside. let l = came k d inside in omega arith) (omega arith))

  -- without one of the nodes
  module _ (gone : ℕ) (x : Cell) (at : slice_get cells gone ≡ Some x) (a : Ranked) (node : a.node ≡ x.node) (rest : List Ranked) (moved : IsPermutation items (a ∷ rest)) where
    inside : gone < length cells
    inside = slice_get_within cells gone x at

    of_rest : (b : Ranked) → Contains rest b → Contains items b
    of_rest b in' = Contains-permutation (a ∷ rest) items b (IsPermutation-sym items (a ∷ rest) moved) (suc in'.0, (let l = in'.1 in omega arith), in'.2)

    once_removed : (n : ℕ) → count_by (λ (item : Ranked). item.node == n) rest ≡ count_by (λ (cell : Cell). cell.node == n) (remove cells gone)
    unfolding inside
    once_removed n =
        let all = sum_by-IsPermutation (λ (item : Ranked). one_of (item.node == n)) items (a ∷ rest) moved in
        let head = sum_by-cons (λ (item : Ranked). one_of (item.node == n)) a rest in
        let same : one_of (a.node == n) ≡ one_of (x.node == n) = ap (λ i. one_of (i == n)) node in
        let left = sum_by-remove (λ (cell : Cell). one_of (cell.node == n)) cells gone x inside in
        let here : one_of ((get_or cells gone x).node == n) ≡ one_of (x.node == n) = ap (λ (c : Cell). one_of (c.node == n)) (get_or_from_slice_get cells gone x x at) in
        let is = ranked.once n in
        omega arith

    pub ranked_removed : IsRanked (remove cells gone) rest
    unfolding inside
    ranked_removed = record {
      count = (
          let all = length_permutation items (a ∷ rest) moved in
          let left = length-remove cells gone inside in
          let is = ranked.count in
          omega arith
          );
      once = once_removed;
      rises = λ i j y z b c less at_i at_j in_b in_c is_b is_c.
          ranked.rises (place_before gone i) (place_before gone j) y z b c (rising i j less)
          (sym (slice_get-remove cells gone i) ∙ at_i) (sym (slice_get-remove cells gone j) ∙ at_j) (of_rest b in_b) (of_rest c in_c) is_b is_c;
    }
      where
        rising : (i j : ℕ) → i < j → place_before gone i < place_before gone j
        rising i j less =
            ⊎_elim
            (λ (hi : i < gone).
            ⊎_elim
            (λ (hj : j < gone). let a = place_before-less gone i hi in let b = place_before-less gone j hj in omega arith)
            (λ (hj : gone ≤ j). let a = place_before-less gone i hi in let b = place_before-more gone j hj in omega arith)
            (cases_lt j gone))
            (λ (hi : gone ≤ i). let a = place_before-more gone i hi in let b = place_before-more gone j (omega arith) in omega arith)
            (cases_lt i gone)

    pub came_removed : (next : ℕ) → CameBefore next items → CameBefore next rest
    came_removed next came =
        All-tail (λ (item : Ranked). item.arrival < next) a rest (All-permutation (λ (item : Ranked). item.arrival < next) items (a ∷ rest) moved came)

pub apart_pushed : (cells : List Cell) (x : Cell) → AreApart cells → (HasNode cells x.node → ⊥) → AreApart (cells ++ x ∷ [])
apart_pushed cells x apart fresh = record {
  apart = λ i j a b else at_i at_j.
      ⊎_elim
      (λ (h : (i < length cells) × (slice_get cells i ≡ Some a)).
      ⊎_elim
      (λ (k : (j < length cells) × (slice_get cells j ≡ Some b)). apart.apart i j a b else h.1 k.1)
      (λ (k : (j ≡ length cells) × (x ≡ b)). λ same. fresh (subst (HasNode cells) (same ∙ ap (λ (c : Cell). c.node) (sym k.1)) (has_node cells i a h.1)))
      (pushed_cases cells x b j at_j))
      (λ (h : (i ≡ length cells) × (x ≡ a)).
      ⊎_elim
      (λ (k : (j < length cells) × (slice_get cells j ≡ Some b)). λ same. fresh (subst (HasNode cells) (sym same ∙ ap (λ (c : Cell). c.node) (sym h.1)) (has_node cells j b k.1)))
      (λ (k : (j ≡ length cells) × (x ≡ b)). absurd (else (h.0 ∙ sym k.0)))
      (pushed_cases cells x b j at_j))
      (pushed_cases cells x a i at_i);
}

pub apart_removed : (cells : List Cell) (gone : ℕ) → AreApart cells → AreApart (remove cells gone)
apart_removed cells gone apart = record {
  apart = λ i j a b else at_i at_j.
      apart.apart (place_before gone i) (place_before gone j) a b (place_before-apart gone i j else)
      (sym (slice_get-remove cells gone i) ∙ at_i) (sym (slice_get-remove cells gone j) ∙ at_j);
}

-- a heap of other cells where the items' tasks are the same
pub heap_same : (keys : List KeyTree) (cells others : List Cell) (items : List Ranked) → ((a : Ranked) → Contains items a → task_at others a.node ≡ task_at cells a.node)
    → IsHeap (ahead keys cells) items → IsHeap (ahead keys others) items
heap_same keys cells others items same heap p c child inside d =
    let a = get_or items c d in let b = get_or items p d in
    ap₂ (λ (t u : Task). is_sooner (before keys) t a.arrival u b.arrival)
    (same a (Contains-get_or items c d inside)) (same b (Contains-get_or items p d (let l = child.low in omega arith)))
    ∙ heap p c child inside d

-- cells of one node that have one task
pub same_tasks : (cells others : List Cell) → AreApart cells → AreApart others → (i j : ℕ) (x : Cell) → slice_get cells i ≡ Some x → slice_get others j ≡ Some x
    → task_at others x.node ≡ task_at cells x.node
same_tasks cells others apart besides i j x at_i at_j = task_at-is others j x besides at_j ∙ sym (task_at-is cells i x apart at_i)
