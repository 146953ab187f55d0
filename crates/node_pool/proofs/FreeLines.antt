-- The line of the free nodes, after a node is taken, given back, or added.
use Rattle.std.proofs.Common.{◌≡◌, ℕ, zero, suc, ◌+◌, ◌-◌, ◌<◌, ◌≤◌, cond, List, [], ◌∷◌, ◌++◌, length, map, set, get_or, count_by, Option, Some, None, IsSome, is_some, is_none, option_map, unwrap_or, refl, sym, ap, subst, ◌∙◌, arith}
use Rattle.std.proofs.lemmas.List.{get_or-map, get_or_append_left, get_or-set_same, set-append_left, set-get_or, length-append, length-map, length-set, map-set}
use Rattle.std.proofs.Math.Seq.{get_or-append_seam, map-set_same, set-append_seam}
use Rattle.std.proofs.lemmas.List.Sums.{count_by-le-length, sum_by-append, sum_by-cons}
use Rattle.node_pool.specs.declared.Held.{Held}
use Rattle.node_pool.specs.declared.Node.{Node}
use Rattle.node_pool.specs.declared.Node.TheVariants.{Free, Taken}
use Rattle.node_pool.specs.FreeLine.{IsFreeLine, IsLined, held_of, next_of, nodes_of, valued}
use Rattle.node_pool.specs.Nodes.{IsTaken, free_of}
use Rattle.node_pool.proofs.Counts.{count_by-set_fewer, found_inside}

-- the free nodes that a contract sees are those that the line may pass
pub free_of-nodes : {T : Type 0} (nodes : List (Node T)) → free_of (nodes_of nodes) ≡ count_by is_some (map next_of nodes)
free_of-nodes [] = refl
free_of-nodes (Free next ∷ nodes) =
    sum_by-cons (λ o. cond (is_none o) 1 0) None (nodes_of nodes) ∙ (ap (λ n. 1 + n) (free_of-nodes nodes)
    ∙ sym (sum_by-cons (λ o. cond (is_some o) 1 0) (Some next) (map next_of nodes)))
free_of-nodes (Taken held ∷ nodes) =
    sum_by-cons (λ o. cond (is_none o) 1 0) (Some held) (nodes_of nodes) ∙ (ap (λ n. 0 + n) (free_of-nodes nodes)
    ∙ sym (sum_by-cons (λ o. cond (is_some o) 1 0) None (map next_of nodes)))

-- the line passes each of them
pub line_count : (nexts : List (Option (Option ℕ))) (first : Option ℕ) (free : ℕ) → IsFreeLine nexts first free → count_by is_some nexts ≡ free
line_count nexts None zero line = line
line_count nexts None (suc free) line = absurd line
line_count nexts (Some at) zero line = absurd line
line_count nexts (Some at) (suc free) line =
    let rest = line_count (set nexts at None) (unwrap_or (get_or nexts at None) None) free line.1 in
    let fewer = count_by-set_fewer is_some nexts at None None (found_inside nexts at line.0) line.0 refl in
    omega arith

-- where the line begins, a node is free, and the line goes on from it
pub record Begins (nexts : List (Option (Option ℕ))) (at free : ℕ) : Type 0 where
  pub some : 0 < free
  pub found : IsSome (get_or nexts at None)
  pub rest : IsFreeLine (set nexts at None) (unwrap_or (get_or nexts at None) None) (free - 1)

pub line_begins : (nexts : List (Option (Option ℕ))) (at free : ℕ) → IsFreeLine nexts (Some at) free → Begins nexts at free
line_begins nexts at zero line = absurd line
line_begins nexts at (suc free) line = record {
  some = omega arith;
  found = line.0;
  rest = subst (λ n. IsFreeLine (set nexts at None) (unwrap_or (get_or nexts at None) None) n) (omega arith) line.1;
}

-- a node that is given back begins the line
pub line_given : (nexts : List (Option (Option ℕ))) (first : Option ℕ) (at free : ℕ) → at < length nexts → get_or nexts at None ≡ None
    → IsFreeLine nexts first free → IsFreeLine (set nexts at (Some first)) (Some at) (suc free)
line_given nexts first at free inside was line =
    let here : get_or (set nexts at (Some first)) at None ≡ Some first = get_or-set_same nexts at (Some first) None inside in (
      ap is_some here,
      subst (λ (rest : List (Option (Option ℕ))). IsFreeLine rest (unwrap_or (get_or (set nexts at (Some first)) at None) None) free)
          (sym (set-set nexts at (Some first) None ∙ (ap (set nexts at) (sym was) ∙ set-get_or nexts at None)))
          (subst (λ (o : Option (Option ℕ)). IsFreeLine nexts (unwrap_or o None) free) (sym here) line),
    )
  where
    set-set : (xs : List (Option (Option ℕ))) (i : ℕ) (x y : Option (Option ℕ)) → set (set xs i x) i y ≡ set xs i y
    set-set [] i x y = refl
    set-set (z ∷ xs) zero x y = refl
    set-set (z ∷ xs) (suc i) x y = ap (λ (ys : List (Option (Option ℕ))). z ∷ ys) (set-set xs i x y)

-- a taken node at the end changes no line
pub line_longer : (nexts : List (Option (Option ℕ))) (first : Option ℕ) (free : ℕ) → IsFreeLine nexts first free → IsFreeLine (nexts ++ None ∷ []) first free
line_longer nexts None zero line = sum_by-append (λ (o : Option (Option ℕ)). cond (is_some o) 1 0) nexts (None ∷ []) ∙ ap (λ n. n + 0) line ∙ omega arith
line_longer nexts None (suc free) line = absurd line
line_longer nexts (Some at) zero line = absurd line
line_longer nexts (Some at) (suc free) line =
    let inside = found_inside nexts at line.0 in
    let same : get_or (nexts ++ None ∷ []) at None ≡ get_or nexts at None = get_or_append_left nexts (None ∷ []) None at inside in (
      ap is_some same ∙ line.0,
      subst (λ (rest : List (Option (Option ℕ))). IsFreeLine rest (unwrap_or (get_or (nexts ++ None ∷ []) at None) None) free)
          (sym (set-append_left nexts (None ∷ []) at None inside))
          (subst (λ (o : Option (Option ℕ)). IsFreeLine (set nexts at None ++ None ∷ []) (unwrap_or o None) free) (sym same)
          (line_longer (set nexts at None) (unwrap_or (get_or nexts at None) None) free line.1)),
    )

-- a free node at the end begins the line
pub line_grows : (nexts : List (Option (Option ℕ))) (first : Option ℕ) (at free : ℕ) → at ≡ length nexts
    → IsFreeLine nexts first free → IsFreeLine (nexts ++ Some first ∷ []) (Some at) (suc free)
line_grows nexts first at free end line =
    let longer = line_given (nexts ++ None ∷ []) first at free (omega (arith, length-append nexts (None ∷ [])))
    (subst (λ n. get_or (nexts ++ None ∷ []) n None ≡ None) (sym end) (get_or-append_seam nexts None [] None)) (line_longer nexts first free line) in
    subst (λ (all : List (Option (Option ℕ))). IsFreeLine all (Some at) (suc free))
    (subst (λ n. set (nexts ++ None ∷ []) n (Some first) ≡ nexts ++ Some first ∷ []) (sym end) (set-append_seam nexts None [] (Some first))) longer

-- a node that is seen as taken
pub taken_node : {T : Type 0} (node : Node T) → IsSome (held_of node) → (held : Held T) × (node ≡ Taken held)
taken_node (Free next) is_taken = absurd (cc)
taken_node (Taken held) is_taken = (held, refl)

-- what is seen of a node with another value
pub held_of-valued : {T : Type 0} (node : Node T) (value : T)
    → held_of (valued node value) ≡ option_map (λ (held : Held T). record held { value = value }) (held_of node)
held_of-valued (Free next) value = refl
held_of-valued (Taken held) value = refl

module _ {T : Type 0} (nodes : List (Node T)) (at : ℕ) where
  -- what is seen of the node in that place
  pub seen_at : {Y : Type 0} (see : Node T → Y) (node : Node T) (d : Y) → at < length nodes → node ≡ get_or nodes at node → get_or (map see nodes) at d ≡ see node
  seen_at see node d inside is = get_or-map see nodes at node d inside ∙ ap see (sym is)

  -- the node that was read there
  pub read_is : (node now : Node T) → node ≡ now → now ≡ get_or nodes at now → node ≡ get_or nodes at node
  read_is node now is read = is ∙ (read ∙ ap (get_or nodes at) (sym is))

  -- a node that is seen as taken is one of the nodes
  pub taken_inside : IsTaken (nodes_of nodes) at → at < length nodes
  taken_inside is_taken = let inside = found_inside (nodes_of nodes) at is_taken in omega (arith, length-map nodes held_of)

  -- the line after its first node is taken
  pub lined_taken : (free : ℕ) (next : Option ℕ) (held : Held T) → at < length nodes → Free next ≡ get_or nodes at (Free next) → IsLined nodes (Some at) free
      → IsLined (set nodes at (Taken held)) next (free - 1)
  lined_taken free next held inside is lined =
      let rest = (line_begins (map next_of nodes) at free lined.line).rest in
      record {
        few = let few = lined.few in omega (arith, length-set nodes at (Taken held));
        line = subst (λ (nexts : List (Option (Option ℕ))). IsFreeLine nexts next (free - 1)) (sym (map-set next_of nodes at (Taken held)))
            (subst (λ (o : Option (Option ℕ)). IsFreeLine (set (map next_of nodes) at None) (unwrap_or o None) (free - 1)) (seen_at next_of (Free next) None inside is) rest);
      }

  -- the line after that node is given back
  pub lined_given : (first : Option ℕ) (free : ℕ) (held : Held T) → at < length nodes → Taken held ≡ get_or nodes at (Taken held) → IsLined nodes first free
      → IsLined (set nodes at (Free first)) (Some at) (free + 1)
  lined_given first free held inside is lined =
      let given = line_given (map next_of nodes) first at free (omega (arith, length-map nodes (next_of {T = T}))) (seen_at next_of (Taken held) None inside is) lined.line in
      record {
        few = let few = lined.few in omega (arith, length-set nodes at (Free first));
        line = subst (λ (nexts : List (Option (Option ℕ))). IsFreeLine nexts (Some at) (free + 1)) (sym (map-set next_of nodes at (Free first)))
            (let more : suc free ≡ free + 1 = omega arith in subst (λ n. IsFreeLine (set (map next_of nodes) at (Some first)) (Some at) n) more given);
      }

  -- the line after a taken node got another value or link
  pub lined_changed : (first : Option ℕ) (free : ℕ) (was held : Held T) → at < length nodes → Taken was ≡ get_or nodes at (Taken was) → IsLined nodes first free
      → IsLined (set nodes at (Taken held)) first free
  lined_changed first free was held inside is lined = record {
    few = let few = lined.few in omega (arith, length-set nodes at (Taken held));
    line = subst (λ (nexts : List (Option (Option ℕ))). IsFreeLine nexts first free)
        (sym (map-set_same next_of nodes at (Taken held) (Taken was) (ap next_of is))) lined.line;
  }

  -- the line after the value of a taken node changed
  pub lined_valued : (first : Option ℕ) (free : ℕ) (node : Node T) (value : T) → at < length nodes → node ≡ get_or nodes at node → IsSome (held_of node) → IsLined nodes first free
      → IsLined (set nodes at (valued node value)) first free
  lined_valued first free node value inside is is_taken lined =
      let held = taken_node node is_taken in
      subst (λ (now : Node T). IsLined (set nodes at (valued now value)) first free) (sym held.1)
      (lined_changed first free held.0 (record (held.0) { value = value }) inside (read_is (Taken held.0) node (sym held.1) is) lined)

-- no more nodes are free than there are
pub lined_few : {T : Type 0} (nodes : List (Node T)) (first : Option ℕ) (free : ℕ) → IsLined nodes first free → free ≤ length nodes
lined_few nodes first free lined =
    few (count_by is_some (map next_of nodes)) free (length (map next_of nodes)) (length nodes)
    (count_by-le-length is_some (map next_of nodes)) (line_count (map next_of nodes) first free lined.line) (length-map nodes next_of)
  where
    few : (count free seen all : ℕ) → count ≤ seen → count ≡ free → seen ≡ all → free ≤ all
    few count free seen all le is same = omega arith

-- the free nodes are as many as the line passes
pub lined_free : {T : Type 0} (nodes : List (Node T)) (first : Option ℕ) (free : ℕ) → IsLined nodes first free → free_of (nodes_of nodes) ≡ free
lined_free nodes first free lined = free_of-nodes nodes ∙ line_count (map next_of nodes) first free lined.line
