-- A heap in which one item is out of its place, and the steps that mend it.
use Rattle.std.proofs.Common.{◌≡◌, ◌≢◌, ℕ, zero, suc, ◌+◌, ◌*◌, ◌/◌, ◌<◌, ◌≤◌, Bool, true, false, List, [], ◌∷◌, ◌++◌, length, get_or, ⊎_elim, refl, sym, ap, ap₂, subst, ◌∙◌, arith}
use Rattle.std.specs.Cmp.{IsStrictWeakOrder}
use Rattle.std.specs.List.{SwappedAt}
use Rattle.std.proofs.lemmas.Bool.{cases_eq}
use Rattle.std.proofs.lemmas.List.{get_or_append_left, get_or_default, length_push}
use Rattle.run_queue.specs.Code.Heaps.{FollowsParent, IsChild, IsChildAhead, IsFirstChild, IsHeap, IsHeapBut, LeadsChildren, NotAhead}

-- a place has one parent
pub one_parent : (p q c : ℕ) → IsChild p c → IsChild q c → p ≡ q
one_parent p q c a b = omega arith

pub parent_before : (p c : ℕ) → IsChild p c → p < c
parent_before p c a = omega arith

module _ {X : Type 0} (ahead : X → X → Bool) (o : IsStrictWeakOrder ahead) where
  none_itself : (x : X) → ahead x x ≡ false
  none_itself x = only (ahead x x) (o.one_way x x)
    where
      only : (b : Bool) → (b ≡ true → b ≡ false) → b ≡ false
      only true either = either refl
      only false either = refl

  as_were : (a b x y : X) → a ≡ x → b ≡ y → ahead x y ≡ false → ahead a b ≡ false
  as_were a b x y e f not = ap₂ ahead e f ∙ not

  -- nothing is out of place
  pub mended : (xs : List X) (k : ℕ) → IsHeapBut ahead xs k → LeadsChildren ahead xs k → FollowsParent ahead xs k → IsHeap ahead xs
  mended xs k but leads follows p c child inside =
      ⊎_elim
      (λ (here : c ≡ k). subst (λ i. NotAhead ahead xs i p) (sym here) (follows p (subst (λ i. IsChild p i) here child)))
      (λ (other : c ≢ k).
      ⊎_elim
      (λ (here : p ≡ k). subst (λ i. NotAhead ahead xs c i) (sym here) (leads c (subst (λ i. IsChild i c) here child) inside))
      (λ (else : p ≢ k). but.others p c child inside else other)
      (cases_eq p k))
      (cases_eq c k)

  -- the first item comes before all others
  pub root_first : (xs : List X) → IsHeap ahead xs → (i : ℕ) → i < length xs → NotAhead ahead xs i 0
  root_first xs heap i inside = within (suc i) i (omega arith) inside
    where
      within : (n i : ℕ) → i < n → i < length xs → NotAhead ahead xs i 0
      within zero i less inside d = absurd (omega arith)
      within (suc n) zero less inside d = none_itself (get_or xs 0 d)
      within (suc n) (suc i) less inside d =
          let p : ℕ = i / 2 in
          let child : IsChild p (suc i) = record { low = omega arith; high = omega arith } in
          o.chain (get_or xs (suc i) d) (get_or xs p d) (get_or xs 0 d) (heap p (suc i) child inside d) (within n p (omega arith) (omega arith) d)

  -- the item in place k was ahead of its parent p, and they changed places
  module _ (xs ys : List X) (k p : ℕ) (parent : IsChild p k) (swapped : SwappedAt xs ys k p) (size : length ys ≡ length xs) (inside : k < length xs)
      (but : IsHeapBut ahead xs k) (test : (d : X) → ahead (get_or xs k d) (get_or xs p d) ≡ true) where
    above : p < k
    above = parent_before p k parent

    others_up : (q c : ℕ) → IsChild q c → c < length ys → q ≢ p → c ≢ p → NotAhead ahead ys c q
    unfolding above
    others_up q c child within else other d =
        let order = parent_before q c child in
        let less : c < length xs = subst (λ n. c < n) size within in
        let apart : c ≢ k = λ same. else (one_parent q p c child (subst (λ i. IsChild p i) (sym same) parent)) in
        let at_c = swapped.2 c d apart other in
        ⊎_elim
        (λ (here : q ≡ k). as_were _ _ _ _ at_c (ap (λ i. get_or ys i d) here ∙ swapped.0 d)
        (but.across p c parent (subst (λ i. IsChild i c) here child) less d))
        (λ (away : q ≢ k). as_were _ _ _ _ at_c (swapped.2 q d away else) (but.others q c child less away apart d))
        (cases_eq q k)

    across_up : (q c : ℕ) → IsChild q p → IsChild p c → c < length ys → NotAhead ahead ys c q
    unfolding above
    across_up q c over under within d =
        let top = parent_before q p over in
        let low = parent_before p c under in
        let up = above in
        let less : c < length xs = subst (λ n. c < n) size within in
        let at_q = swapped.2 q d (λ same. absurd (omega arith)) (λ same. absurd (omega arith)) in
        let first = but.others q p over (omega arith) (λ same. absurd (omega arith)) (λ same. absurd (omega arith)) d in
        ⊎_elim
        (λ (here : c ≡ k). as_were _ _ _ _ (ap (λ i. get_or ys i d) here ∙ swapped.0 d) at_q first)
        (λ (apart : c ≢ k). as_were _ _ _ _ (swapped.2 c d apart (λ same. absurd (omega arith))) at_q
        (o.chain _ _ _ (but.others p c under less (λ same. absurd (omega arith)) apart d) first))
        (cases_eq c k)

    pub moved_up : IsHeapBut ahead ys p
    moved_up = record { others = others_up; across = across_up }

    pub leads_up : LeadsChildren ahead ys p
    unfolding above
    leads_up c child within d =
        let low = parent_before p c child in
        let up = above in
        let less : c < length xs = subst (λ n. c < n) size within in
        let back = o.one_way _ _ (test d) in
        ⊎_elim
        (λ (here : c ≡ k). as_were _ _ _ _ (ap (λ i. get_or ys i d) here ∙ swapped.0 d) (swapped.1 d) back)
        (λ (apart : c ≢ k). as_were _ _ _ _ (swapped.2 c d apart (λ same. absurd (omega arith))) (swapped.1 d)
        (o.chain _ _ _ (but.others p c child less (λ same. absurd (omega arith)) apart d) back))
        (cases_eq c k)

  -- the child c of place k was ahead of it, and they changed places
  module _ (xs ys : List X) (k c : ℕ) (swapped : SwappedAt xs ys k c) (size : length ys ≡ length xs)
      (but : IsHeapBut ahead xs k) (best : IsChildAhead ahead xs k c) where
    below : k < c
    below = parent_before k c best.place.child

    others_down : (p j : ℕ) → IsChild p j → j < length ys → p ≢ c → j ≢ c → NotAhead ahead ys j p
    unfolding below
    others_down p j child within else other d =
        let order = parent_before p j child in
        let down = below in
        let less : j < length xs = subst (λ n. j < n) size within in
        ⊎_elim
        (λ (here : p ≡ k). as_were _ _ _ _ (swapped.2 j d (λ same. absurd (omega arith)) other) (ap (λ i. get_or ys i d) here ∙ swapped.0 d)
        (best.place.other j (subst (λ i. IsChild i j) here child) less d))
        (λ (away : p ≢ k).
        ⊎_elim
        (λ (here : j ≡ k). as_were _ _ _ _ (ap (λ i. get_or ys i d) here ∙ swapped.0 d) (swapped.2 p d away else)
        (but.across p c (subst (λ i. IsChild p i) here child) best.place.child best.place.inside d))
        (λ (apart : j ≢ k). as_were _ _ _ _ (swapped.2 j d apart other) (swapped.2 p d away else) (but.others p j child less away apart d))
        (cases_eq j k))
        (cases_eq p k)

    across_down : (p j : ℕ) → IsChild p c → IsChild c j → j < length ys → NotAhead ahead ys j p
    unfolding below
    across_down p j over under within d =
        let low = parent_before c j under in
        let down = below in
        let less : j < length xs = subst (λ n. j < n) size within in
        let same_parent = one_parent p k c over best.place.child in
        as_were _ _ _ _ (swapped.2 j d (λ same. absurd (omega arith)) (λ same. absurd (omega arith))) (ap (λ i. get_or ys i d) same_parent ∙ swapped.0 d)
        (but.others c j under less (λ same. absurd (omega arith)) (λ same. absurd (omega arith)) d)

    pub moved_down : IsHeapBut ahead ys c
    moved_down = record { others = others_down; across = across_down }

    pub follows_down : FollowsParent ahead ys c
    follows_down p child d =
        let same_parent = one_parent p k c child best.place.child in
        as_were _ _ _ _ (swapped.1 d) (ap (λ i. get_or ys i d) same_parent ∙ swapped.0 d) (o.one_way _ _ (best.first d))

  -- one more item at the end
  module _ (xs : List X) (x : X) (heap : IsHeap ahead xs) where
    pub pushed_but : IsHeapBut ahead (xs ++ x ∷ []) (length xs)
    pushed_but = record {
      others = λ p c child inside else other d.
          let order = parent_before p c child in
          let size = length_push xs x in
          let less : c < length xs = omega arith in
          as_were _ _ _ _ (get_or_append_left xs (x ∷ []) d c less) (get_or_append_left xs (x ∷ []) d p (omega arith)) (heap p c child less d);
      across = λ p c over under inside d. let order = parent_before (length xs) c under in let size = length_push xs x in absurd (omega arith);
    }

    pub pushed_leads : LeadsChildren ahead (xs ++ x ∷ []) (length xs)
    pushed_leads c child inside d = let order = parent_before (length xs) c child in let size = length_push xs x in absurd (omega arith)

  -- the last item took the place of one that left
  pub removed_but : (xs ys : List X) (k : ℕ) → IsHeap ahead xs → k < length xs → length ys + 1 ≡ length xs
      → ((j : ℕ) (d : X) → j ≢ k → j + 1 < length xs → get_or ys j d ≡ get_or xs j d) → IsHeapBut ahead ys k
  removed_but xs ys k heap inside size same = record {
    others = λ p c child within else other d.
        let order = parent_before p c child in
        as_were _ _ _ _ (same c d other (omega arith)) (same p d else (omega arith)) (heap p c child (omega arith) d);
    across = λ p c over under within d.
        let top = parent_before p k over in
        let low = parent_before k c under in
        as_were _ _ _ _ (same c d (λ e. absurd (omega arith)) (omega arith)) (same p d (λ e. absurd (omega arith)) (omega arith))
        (o.chain _ _ _ (heap k c under (omega arith) d) (heap p k over inside d));
  }

  -- what comes before its parent comes before its children too
  pub leads_if_ahead : (xs : List X) (k p : ℕ) → IsHeapBut ahead xs k → IsChild p k → ((d : X) → ahead (get_or xs k d) (get_or xs p d) ≡ true) → LeadsChildren ahead xs k
  leads_if_ahead xs k p but parent test c child inside d = o.chain _ _ _ (but.across p c parent child inside d) (o.one_way _ _ (test d))

  pub follows_at : (xs : List X) (k p : ℕ) → IsChild p k → NotAhead ahead xs k p → FollowsParent ahead xs k
  follows_at xs k p parent not q child d = subst (λ i. ahead (get_or xs k d) (get_or xs i d) ≡ false) (one_parent p q k parent child) (not d)

  pub follows_root : (xs : List X) → FollowsParent ahead xs 0
  follows_root xs p child d = let order = parent_before p 0 child in absurd (omega arith)

  -- where the last item left, none is out of place
  pub mended_at_end : (xs : List X) (k : ℕ) → IsHeapBut ahead xs k → k ≡ length xs → IsHeap ahead xs
  mended_at_end xs k but end p c child inside = but.others p c child inside (λ same. let l = parent_before p c child in absurd (omega arith)) (λ same. absurd (omega arith))

  -- the child of place k that the other isn't ahead of
  module _ (xs : List X) (k left : ℕ) (child : left ≡ 2 * k + 1) where
    pub first_alone : left < length xs → length xs ≤ left + 1 → IsFirstChild ahead xs k left
    first_alone inside end = record {
      child = record { low = omega arith; high = omega arith };
      inside = inside;
      other = λ j of within d. let here : j ≡ left = omega arith in subst (λ i. ahead (get_or xs i d) (get_or xs left d) ≡ false) (sym here) (none_itself (get_or xs left d));
    }

    pub first_left : left + 1 < length xs → NotAhead ahead xs (left + 1) left → IsFirstChild ahead xs k left
    first_left inside not = record {
      child = record { low = omega arith; high = omega arith };
      inside = omega arith;
      other = λ j of within d.
          ⊎_elim
          (λ (here : j ≡ left). subst (λ i. ahead (get_or xs i d) (get_or xs left d) ≡ false) (sym here) (none_itself (get_or xs left d)))
          (λ (else : j ≢ left). let right : j ≡ left + 1 = omega arith in subst (λ i. ahead (get_or xs i d) (get_or xs left d) ≡ false) (sym right) (not d))
          (cases_eq j left);
    }

    pub first_right : left + 1 < length xs → ((d : X) → ahead (get_or xs (left + 1) d) (get_or xs left d) ≡ true) → IsFirstChild ahead xs k (left + 1)
    first_right inside test = record {
      child = record { low = omega arith; high = omega arith };
      inside = inside;
      other = λ j of within d.
          ⊎_elim
          (λ (here : j ≡ left). subst (λ i. ahead (get_or xs i d) (get_or xs (left + 1) d) ≡ false) (sym here) (o.one_way (get_or xs (left + 1) d) (get_or xs left d) (test d)))
          (λ (else : j ≢ left). let right : j ≡ left + 1 = omega arith in subst (λ i. ahead (get_or xs i d) (get_or xs (left + 1) d) ≡ false) (sym right) (none_itself (get_or xs (left + 1) d)))
          (cases_eq j left);
    }

  pub leads_first : (xs : List X) (k c : ℕ) → IsFirstChild ahead xs k c → NotAhead ahead xs c k → LeadsChildren ahead xs k
  leads_first xs k c first not j child inside d = o.chain _ _ _ (first.other j child inside d) (not d)

-- two items that were read, whatever stands for items past the end
pub read_two : {X : Type 0} (test : X → X → Bool) (xs : List X) (i j : ℕ) (e : X) (answer : Bool) → i < length xs → j < length xs
    → test (get_or xs i e) (get_or xs j e) ≡ answer → (d : X) → test (get_or xs i d) (get_or xs j d) ≡ answer
read_two test xs i j e answer inside within is d = ap₂ test (get_or_default xs i d e inside) (get_or_default xs j d e within) ∙ is
