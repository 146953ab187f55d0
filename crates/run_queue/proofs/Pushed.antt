-- A line after a task came to its end.
use Rattle.std.proofs.Common.{◌≡◌, ◌≢◌, ℕ, suc, ◌+◌, ◌<◌, ◌^◌, List, [], ◌∷◌, ◌++◌, length, slice_get, Option, Some, None, true, false, is_some, option_map, ⊎_elim, refl, sym, ap, subst, ◌∙◌, arith}
use Rattle.std.proofs.lemmas.Bool.{cases_eq}
use Rattle.std.proofs.lemmas.List.{get_or-set_other, get_or-set_same, length-set, length_push}
use Rattle.std.proofs.lemmas.Option.{get_or_from_slice_get, slice_get_within}
use Rattle.sched_base.specs.declared.task.Task.{Task}
use Rattle.node_pool.specs.Nodes.{IsFree, IsTaken, Nodes, free_of, held_at, with_held}
use Rattle.node_pool.proofs.FreeNodes.{free_of-with_held}
use Rattle.run_queue.specs.Code.Lines.{Cell, IsLaid, IsLinked, cells_from, first_after, node_at, node_before, relinked}
use Rattle.run_queue.proofs.Lines.{before_taken, framed, held_with, is_taken, laid_line, relinked_else, relinked_free, relinked_here, relinked_length}
use Rattle.run_queue.proofs.Places.{item_at, pushed_cases, slice_get-append, slice_get-past_push, slice_get-push}

-- the line begins where it did, or with the one that came
begins_pushed : (cells : List Cell) (first : Option ℕ) (x : Cell) → first ≡ node_at cells 0
    → first_after first (node_before cells (length cells)) (Some x.node) ≡ node_at (cells ++ x ∷ []) 0
begins_pushed [] first x is = refl
begins_pushed (c ∷ cs) first x is =
    let end : (cell : Cell) × (slice_get (c ∷ cs) (length cs) ≡ Some cell) = item_at (c ∷ cs) (length cs) (omega arith) in
    ap (λ (o : Option Cell). first_after first (option_map (λ (cell : Cell). cell.node) o) (Some x.node)) end.1 ∙ is

module _ (nodes : Nodes Task) (first last : Option ℕ) (cells : List Cell) (line : IsLinked nodes first last cells) (x : Cell) (free : IsFree nodes x.node) where
  laid : Nodes Task
  laid = with_held nodes x.node x.task None

  inside : x.node < length nodes
  inside = slice_get_within nodes x.node None free

  -- no node of the line is free
  pub else_node : (k : ℕ) (cell : Cell) → slice_get cells k ≡ Some cell → cell.node ≢ x.node
  else_node k cell is same =
      let taken : is_some (held_at nodes cell.node) ≡ true = is_taken nodes first last cells line k cell is in
      let none : is_some (held_at nodes cell.node) ≡ false = ap (λ node. is_some (held_at nodes node)) same ∙ ap is_some (get_or_from_slice_get nodes x.node None None free) in
      cc

  line_laid : IsLinked laid first last cells
  unfolding laid
  line_laid = framed nodes first last cells line laid
      (λ k cell is. get_or-set_other nodes x.node cell.node (Some (record { value = x.task; link = None })) None (else_node k cell is))

  -- the node at the end is taken, now as before
  pub last_taken : (node : ℕ) → last ≡ Some node → IsTaken (with_held nodes x.node x.task None) node
  unfolding laid
  last_taken node is = before_taken laid first last cells line_laid (length cells) node (sym line.ends ∙ is)

  relaid : Nodes Task
  relaid = relinked laid (node_before cells (length cells)) (Some x.node)

  held_pushed : (k : ℕ) (cell : Cell) → slice_get (cells ++ x ∷ []) k ≡ Some cell → held_at relaid cell.node ≡ Some (held_with cell.task (node_at (cells ++ x ∷ []) (suc k)))
  unfolding laid relaid
  held_pushed k cell is =
      ⊎_elim
      (λ (h : (k < length cells) × (slice_get cells k ≡ Some cell)).
      ⊎_elim
      (λ (end : suc k ≡ length cells).
      ap (λ n. held_at (relinked laid (node_before cells n) (Some x.node)) cell.node) (sym end)
      ∙ (relinked_here laid first last cells line_laid (Some x.node) k cell h.1
      ∙ ap (λ link. Some (held_with cell.task link))
      (sym (ap (λ n. node_at (cells ++ x ∷ []) n) end ∙ ap (option_map (λ (c : Cell). c.node)) (slice_get-push cells x)))))
      (λ (else : suc k ≢ length cells).
      let less = h.0 in
      relinked_else laid first last cells line_laid (Some x.node) (length cells) cell.node (omega arith)
      (λ m b end there. line_laid.apart m k b cell (λ same. else (ap suc (sym same) ∙ end)) there h.1)
      ∙ (line_laid.held k cell h.1
      ∙ ap (λ (o : Option Cell). Some (held_with cell.task (option_map (λ (c : Cell). c.node) o))) (sym (slice_get-append cells (x ∷ []) (suc k) (omega arith)))))
      (cases_eq (suc k) (length cells)))
      (λ (h : (k ≡ length cells) × (x ≡ cell)).
      subst (λ (c : Cell). held_at relaid c.node ≡ Some (held_with c.task (node_at (cells ++ x ∷ []) (suc k)))) h.1
      (relinked_else laid first last cells line_laid (Some x.node) (length cells) x.node (omega arith) (λ m b end there. else_node m b there)
      ∙ (get_or-set_same nodes x.node (Some (record { value = x.task; link = None })) None inside
      ∙ ap (λ (o : Option Cell). Some (held_with x.task (option_map (λ (c : Cell). c.node) o)))
      (sym (ap (λ n. slice_get (cells ++ x ∷ []) (suc n)) h.0 ∙ slice_get-past_push cells x)))))
      (pushed_cases cells x cell k is)

  apart_pushed : (i j : ℕ) (a b : Cell) → i ≢ j → slice_get (cells ++ x ∷ []) i ≡ Some a → slice_get (cells ++ x ∷ []) j ≡ Some b → a.node ≢ b.node
  apart_pushed i j a b else at_i at_j =
      ⊎_elim
      (λ (h : (i < length cells) × (slice_get cells i ≡ Some a)).
      ⊎_elim
      (λ (k : (j < length cells) × (slice_get cells j ≡ Some b)). line.apart i j a b else h.1 k.1)
      (λ (k : (j ≡ length cells) × (x ≡ b)). λ same. else_node i a h.1 (same ∙ ap (λ (c : Cell). c.node) (sym k.1)))
      (pushed_cases cells x b j at_j))
      (λ (h : (i ≡ length cells) × (x ≡ a)).
      ⊎_elim
      (λ (k : (j < length cells) × (slice_get cells j ≡ Some b)). λ same. else_node j b k.1 (sym same ∙ ap (λ (c : Cell). c.node) (sym h.1)))
      (λ (k : (j ≡ length cells) × (x ≡ b)). absurd (else (h.0 ∙ sym k.0)))
      (pushed_cases cells x b j at_j))
      (pushed_cases cells x a i at_i)

  line_pushed : IsLinked relaid (first_after first (node_before cells (length cells)) (Some x.node)) (Some x.node) (cells ++ x ∷ [])
  line_pushed = record {
    begins = begins_pushed cells first x line.begins;
    ends = sym (ap (λ n. node_before (cells ++ x ∷ []) n) (length_push cells x ∙ (let more : length cells + 1 ≡ suc (length cells) = omega arith in more))
        ∙ ap (option_map (λ (c : Cell). c.node)) (slice_get-push cells x));
    held = held_pushed;
    apart = apart_pushed;
  }

  -- the nodes after the task came to the end
  pub laid_pushed : (len : ℕ) → length cells ≡ len → free_of nodes + len ≡ length nodes → length nodes < 2 ^ 32
      → (after : Nodes Task) (begin : Option ℕ) → after ≡ relinked (with_held nodes x.node x.task None) last (Some x.node) → begin ≡ first_after first last (Some x.node)
      → (IsLaid after begin (Some x.node) (len + 1)) × (cells_from after begin (len + 1) ≡ cells ++ x ∷ [])
  unfolding laid relaid
  laid_pushed len count free_count small after begin is_after is_begin =
      let same : after ≡ relaid = is_after ∙ ap (λ (o : Option ℕ). relinked laid o (Some x.node)) line.ends in
      let begins : begin ≡ first_after first (node_before cells (length cells)) (Some x.node) = is_begin ∙ ap (λ (o : Option ℕ). first_after first o (Some x.node)) line.ends in
      let size : length relaid ≡ length nodes =
      relinked_length laid first last cells line_laid (Some x.node) (length cells) (omega arith) ∙ length-set nodes x.node (Some (record { value = x.task; link = None })) in
      let frees : free_of relaid + 1 ≡ free_of nodes =
      ap (λ n. n + 1) (relinked_free laid first last cells line_laid (Some x.node) (length cells) (omega arith)) ∙ free_of-with_held nodes x.node x.task None free in
      let done = laid_line relaid _ (Some x.node) (cells ++ x ∷ []) line_pushed (len + 1) (length_push cells x ∙ ap (λ n. n + 1) count)
      (counted (free_of relaid) (free_of nodes) len (length nodes) (length relaid) frees free_count size) (subst (λ n. n < 2 ^ 32) (sym size) small) in
      subst (λ (all : Nodes Task). (IsLaid all begin (Some x.node) (len + 1)) × (cells_from all begin (len + 1) ≡ cells ++ x ∷ [])) (sym same)
      (subst (λ (at : Option ℕ). (IsLaid relaid at (Some x.node) (len + 1)) × (cells_from relaid at (len + 1) ≡ cells ++ x ∷ [])) (sym begins) done)
    where
      counted : (now was len all same : ℕ) → now + 1 ≡ was → was + len ≡ all → same ≡ all → now + (len + 1) ≡ same
      counted now was len all same one sum is = omega arith
