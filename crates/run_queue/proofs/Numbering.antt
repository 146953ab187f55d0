-- A heap that is filled along a line.
use Rattle.std.proofs.Common.{◌≡◌, ℕ, zero, suc, ◌+◌, List, [], ◌∷◌, ◌++◌, IsPermutation, length, take, slice_get, Some, refl, sym, ap, subst, ◌∙◌, arith}
use Rattle.std.proofs.lemmas.List.{length-take, take_all, take_more}
use Rattle.std.proofs.lemmas.List.Elements.{All-push, All-weaker}
use Rattle.std.proofs.lemmas.Option.{get_or_from_slice_get, slice_get_within}
use Rattle.run_queue.specs.declared.line.Spot.{Spot}
use Rattle.run_queue.specs.declared.ranked.Ranked.{Ranked}
use Rattle.run_queue.specs.Code.Ahead.{AllNodes, AreApart, HasNode}
use Rattle.run_queue.specs.Code.Lines.{Cell, spot_at}
use Rattle.run_queue.specs.Code.Queues.{CameBefore, IsRanked}
use Rattle.run_queue.proofs.Lines.{spot_cell}
use Rattle.run_queue.proofs.Ranking.{came_pushed, cell_of, has_node, nodes_of_items, ranked_pushed}

-- the first items of a list by their places
slice_get-take : {X : Type 0} (xs : List X) (n k : ℕ) (x : X) → slice_get (take n xs) k ≡ Some x → slice_get xs k ≡ Some x
slice_get-take xs zero k x is = absurd (cc)
slice_get-take [] (suc n) k x is = absurd (cc)
slice_get-take (y ∷ ys) (suc n) zero x is = is
slice_get-take (y ∷ ys) (suc n) (suc k) x is = slice_get-take ys n k x is

has_whole : (cells : List Cell) (n node : ℕ) → HasNode (take n cells) node → HasNode cells node
has_whole cells n node has =
    let of = cell_of (take n cells) node has in
    subst (HasNode cells) of.is (has_node cells of.place of.cell (slice_get-take cells n of.place of.cell of.at))

-- no item of no line
pub ranked_none : (items : List Ranked) → items ≡ [] → IsRanked [] items
ranked_none items none = subst (IsRanked []) (sym none) (record { count = refl; once = λ node. refl; rises = λ i j x y a b less at_i at_j in_a in_b is_a is_b. absurd (cc) })

module _ (cells : List Cell) (apart : AreApart cells) (k : ℕ) (spot : Spot) (there : spot_at cells k ≡ Some spot) (items : List Ranked)
    (ranked : IsRanked (take k cells) items) (came : CameBefore k items) (a : Ranked) (node : a.node ≡ spot.node) (number : a.arrival ≡ k) where
  pub nodes_more : AllNodes cells (items ++ a ∷ [])
  nodes_more =
      let of = spot_cell cells k spot there in
      All-push (λ (item : Ranked). HasNode cells item.node) items a
      (All-weaker (λ (item : Ranked). HasNode (take k cells) item.node) (λ (item : Ranked). HasNode cells item.node) (λ item. has_whole cells k item.node) items
      (nodes_of_items (take k cells) items ranked))
      (subst (HasNode cells) (sym (node ∙ of.node)) (has_node cells k of.cell of.found))

  -- the node isn't one of those before it
  fresh : (x : Cell) → slice_get cells k ≡ Some x → HasNode (take k cells) x.node → ⊥
  fresh x at has =
      let of = cell_of (take k cells) x.node has in
      let inside = slice_get_within (take k cells) of.place of.cell of.at in
      let size = length-take k cells in
      apart.apart of.place k of.cell x (λ same. absurd (omega arith)) (slice_get-take cells k of.place of.cell of.at) at of.is

  pub ranked_more : (more : List Ranked) → IsPermutation (items ++ a ∷ []) more → IsRanked (take (k + 1) cells) more
  unfolding fresh
  ranked_more more moved =
      let of = spot_cell cells k spot there in
      let one : take (k + 1) cells ≡ take k cells ++ of.cell ∷ [] =
      take_more cells k of.cell (slice_get_within cells k of.cell of.found)
      ∙ ap (λ (x : Cell). take k cells ++ x ∷ []) (get_or_from_slice_get cells k of.cell of.cell of.found) in
      subst (λ (all : List Cell). IsRanked all more) (sym one)
      (ranked_pushed (take k cells) items ranked of.cell a k more came (fresh of.cell of.found) (node ∙ of.node) number moved)

  pub came_more : (more : List Ranked) → IsPermutation (items ++ a ∷ []) more → CameBefore (k + 1) more
  unfolding fresh
  came_more more moved =
      let of = spot_cell cells k spot there in
      came_pushed (take k cells) items ranked of.cell a k more came (fresh of.cell of.found) (node ∙ of.node) number moved

-- the whole line
pub ranked_whole : (cells : List Cell) (n : ℕ) (items : List Ranked) → n ≡ length cells → IsRanked (take n cells) items → IsRanked cells items
ranked_whole cells n items end = subst (λ (all : List Cell). IsRanked all items) (take_all n cells (omega arith))
