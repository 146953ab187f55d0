-- Each row of a list of elimination is the sum of the numbered rows, times its multipliers.
use Rattle.std.proofs.Common.{◌≡◌, ◌≢◌, ℕ, zero, suc, ◌+◌, ◌<◌, ◌≤◌, ◌==◌, if◌then◌else◌, Bool, true, false, List, [], ◌∷◌, length, map, filter, All, ℤ, pos, ◌+ℤ◌, ◌*ℤ◌, ◌≤ℤ◌, int_lt, inl, inr, subst, sym, ap, ◌∙◌, refl, arith}
use Rattle.std.specs.List.{flat_map, range_with_len}
use Rattle.std.proofs.lemmas.Bool.{cases_lt, cond_both, eq-eqb, ne_eqb}
use Rattle.std.proofs.lemmas.Int.{ints}
use Rattle.std.proofs.lemmas.List.Elements.{All-nil, All-cons, All-head, All-tail, All-append, All-filter, All-map}
use Rattle.std.proofs.lemmas.List.FromFn.{length-map-range_with_len, get_or-map-range_with_len}
use Rattle.linear_form.specs.declared.form.Row.{Row}
use Rattle.linear_form.specs.declared.form.Bound.{Bound}
use Rattle.linear_cert.specs.declared.rows.Column.{Column}
use Rattle.linear_cert.specs.declared.rows.Column.TheVariants.{Variable, RightSide}
use Rattle.linear_cert.proofs.Integers.{add-mul, mul_right_comm, mul_mono}
use Rattle.linear_solver.specs.declared.derived.Derived.{Derived}
use Rattle.linear_solver.specs.Sums.{added}
use Rattle.linear_solver.specs.Follows.{Follows, weighted}
use Rattle.linear_solver.specs.Elimination.{coef_of, first_list, first_row, kept, lacks, list_after, next_list, number_in, numbered_count, once, sum_of, sum_without, sums_in, sums_with}
use Rattle.linear_solver.proofs.Additions.{length-added, get_or-added}

module _ (bounds : List Bound) (rows : List Row) where
  -- of one row alone
  once-same : (number : ℕ) → once number number ≡ pos 1
  once-same number = rw (eq-eqb number number refl) refl

  once-other : (number other : ℕ) → other ≢ number → once number other ≡ pos 0
  once-other number other ne = rw (ne_eqb other number ne) refl

  weighted-past : (column : Column) (number from n : ℕ) → number < from → weighted bounds rows column from (map (once number) (range_with_len from n)) ≡ pos 0
  weighted-past column number from zero lt = refl
  weighted-past column number from (suc n) lt =
      let here = ap (λ m. m *ℤ number_in column bounds rows from) (once-other number from (omega arith)) in
      let one : from + 1 ≡ suc from = omega arith in
      let rest = subst (λ k. weighted bounds rows column k (map (once number) (range_with_len (from + 1) n)) ≡ pos 0) one (weighted-past column number (from + 1) n (omega arith)) in
      omega (arith, ints, here, rest)

  weighted-once : (column : Column) (number from n : ℕ) → from ≤ number → number < from + n → weighted bounds rows column from (map (once number) (range_with_len from n)) ≡ number_in column bounds rows number
  weighted-once column number from zero le lt = absurd (omega arith)
  weighted-once column number from (suc n) le lt = elim (cases_lt from number) [
    | inl below ↦
        let here = ap (λ m. m *ℤ number_in column bounds rows from) (once-other number from (omega arith)) in
        let one : from + 1 ≡ suc from = omega arith in
        let rest = subst (λ k. weighted bounds rows column k (map (once number) (range_with_len (from + 1) n)) ≡ number_in column bounds rows number) one (weighted-once column number (from + 1) n (omega arith) (omega arith)) in
        omega (arith, ints, here, rest)
    | inr above ↦
        let same : from ≡ number = omega arith in
        let here = ap (λ m. m *ℤ number_in column bounds rows from) (subst (λ k. once number k ≡ pos 1) (sym same) (once-same number)) in
        let value = ap (number_in column bounds rows) same in
        let one : from + 1 ≡ suc from = omega arith in
        let rest = subst (λ k. weighted bounds rows column k (map (once number) (range_with_len (from + 1) n)) ≡ pos 0) one (weighted-past column number (from + 1) n (omega arith)) in
        omega (arith, ints, here, rest, value)
  ]

  once_positive : (same : Bool) → pos 0 ≤ℤ (if same then pos 1 else pos 0)
  once_positive true = omega (arith, ints)
  once_positive false = omega (arith, ints)

  -- a numbered row is the sum of itself
  pub first_follows : (number : ℕ) → number < numbered_count bounds rows → Follows bounds rows (first_row bounds rows number)
  first_follows number lt = record {
    coefs_len = length-map-range_with_len (λ variable. number_in (Variable variable) bounds rows number) 0 (length bounds);
    mults_len = length-map-range_with_len (once number) 0 (numbered_count bounds rows);
    positive = All-map (λ (m : ℤ). pos 0 ≤ℤ m) (once number) (range_with_len 0 (numbered_count bounds rows)) (λ k d l. once_positive (_ == number));
    coefs = λ v l. get_or-map-range_with_len (λ variable. number_in (Variable variable) bounds rows number) 0 (length bounds) v v (pos 0) l (omega arith) ∙ sym (weighted-once (Variable v) number 0 (numbered_count bounds rows) (omega arith) (omega arith));
    bound = sym (weighted-once RightSide number 0 (numbered_count bounds rows) (omega arith) (omega arith));
  }

  -- sums of sums
  weighted-added : (column : Column) (x y number : ℕ) (left right : List ℤ) → length left ≡ length right → weighted bounds rows column number (added x y left right) ≡ weighted bounds rows column number left *ℤ pos x +ℤ weighted bounds rows column number right *ℤ pos y
  weighted-added column x y number [] [] same = omega (arith, ints)
  weighted-added column x y number [] (b ∷ right) same = absurd (omega arith)
  weighted-added column x y number (a ∷ left) [] same = absurd (omega arith)
  weighted-added column x y number (a ∷ left) (b ∷ right) same =
      let n = number_in column bounds rows number in
      let here = add-mul (a *ℤ pos x) (b *ℤ pos y) n in
      let of_a = mul_right_comm a (pos x) n in
      let of_b = mul_right_comm b (pos y) n in
      let whole_a = add-mul (a *ℤ n) (weighted bounds rows column (suc number) left) (pos x) in
      let whole_b = add-mul (b *ℤ n) (weighted bounds rows column (suc number) right) (pos y) in
      omega (arith, ints, here, of_a, of_b, whole_a, whole_b, weighted-added column x y (suc number) left right (omega arith))

  added_positive : (x y : ℕ) (left right : List ℤ) → All (λ (m : ℤ). pos 0 ≤ℤ m) left → All (λ (m : ℤ). pos 0 ≤ℤ m) right → All (λ (m : ℤ). pos 0 ≤ℤ m) (added x y left right)
  added_positive x y [] right hl hr = All-nil (λ (m : ℤ). pos 0 ≤ℤ m)
  added_positive x y (a ∷ left) [] hl hr = All-nil (λ (m : ℤ). pos 0 ≤ℤ m)
  added_positive x y (a ∷ left) (b ∷ right) hl hr =
      let of_a = mul_mono (pos 0) a x (All-head (λ (m : ℤ). pos 0 ≤ℤ m) a left hl) in
      let of_b = mul_mono (pos 0) b y (All-head (λ (m : ℤ). pos 0 ≤ℤ m) b right hr) in
      All-cons (λ (m : ℤ). pos 0 ≤ℤ m) _ (added x y left right) (omega (arith, ints, of_a, of_b))
      (added_positive x y left right (All-tail (λ (m : ℤ). pos 0 ≤ℤ m) a left hl) (All-tail (λ (m : ℤ). pos 0 ≤ℤ m) b right hr))

  pub sum_follows : (x y : ℕ) (p q : Derived) → Follows bounds rows p → Follows bounds rows q → Follows bounds rows (sum_of x y p q)
  sum_follows x y p q hp hq =
      let same = hp.mults_len ∙ sym hq.mults_len in
      record {
        coefs_len = length-added x y p.coefs q.coefs (hp.coefs_len ∙ sym hq.coefs_len) ∙ hp.coefs_len;
        mults_len = length-added x y p.mults q.mults same ∙ hp.mults_len;
        positive = added_positive x y p.mults q.mults hp.positive hq.positive;
        coefs = λ v lt.
            get_or-added x y p.coefs q.coefs v (pos 0) (pos 0) (pos 0) (omega (arith, hp.coefs_len)) (omega (arith, hq.coefs_len))
            ∙ ap (λ c. c *ℤ pos x +ℤ coef_of v q *ℤ pos y) (hp.coefs v lt) ∙ ap (λ c. weighted bounds rows (Variable v) 0 p.mults *ℤ pos x +ℤ c *ℤ pos y) (hq.coefs v lt)
            ∙ sym (weighted-added (Variable v) x y 0 p.mults q.mults same);
        bound = ap (λ c. c *ℤ pos x +ℤ q.bound *ℤ pos y) hp.bound ∙ ap (λ c. weighted bounds rows RightSide 0 p.mults *ℤ pos x +ℤ c *ℤ pos y) hq.bound ∙ sym (weighted-added RightSide x y 0 p.mults q.mults same);
      }

  all_flat_map : (P Q : Derived → Type 0) (f : Derived → List Derived) (xs : List Derived) → ((x : Derived) → P x → All Q (f x)) → All P xs → All Q (flat_map f xs)
  all_flat_map P Q f [] each all = All-nil Q
  all_flat_map P Q f (x ∷ xs) each all = All-append Q (f x) (flat_map f xs) (each x (All-head P x xs all)) (all_flat_map P Q f xs each (All-tail P x xs all))

  one : (P : Derived → Type 0) (x : Derived) → P x → All P (x ∷ [])
  one P x h = All-cons P x [] h (All-nil P)

  -- if every row of a list is such a sum, so is every row of the next one
  next_follows : (variable : ℕ) (list : List Derived) → All (Follows bounds rows) list → All (Follows bounds rows) (next_list variable list)
  next_follows variable list all =
      let of_pair = λ (p : Derived) (hp : Follows bounds rows p) (q : Derived) (hq : Follows bounds rows q).
      cond_both (int_lt (coef_of variable q) (pos 0)) (kept (sum_without variable p q)) [] (All (Follows bounds rows))
      (λ yes. cond_both _ [] (sum_without variable p q ∷ []) (All (Follows bounds rows)) (λ left_out. All-nil (Follows bounds rows)) (λ stays. one (Follows bounds rows) (sum_without variable p q) (sum_follows _ _ p q hp hq)))
      (λ no. All-nil (Follows bounds rows)) in
      let of_row = λ (p : Derived) (hp : Follows bounds rows p).
      cond_both (int_lt (pos 0) (coef_of variable p)) (sums_with variable list p) [] (All (Follows bounds rows))
      (λ yes. all_flat_map (Follows bounds rows) (Follows bounds rows) _ list (of_pair p hp) all)
      (λ no. All-nil (Follows bounds rows)) in
      All-append (Follows bounds rows) (filter (lacks variable) list) (sums_in variable list) (All-filter (lacks variable) (Follows bounds rows) list all) (all_flat_map (Follows bounds rows) (Follows bounds rows) _ list of_row all)

  first_list_follows : All (Follows bounds rows) (first_list bounds rows)
  first_list_follows = λ k d lt.
      let count = numbered_count bounds rows in
      let known : k < count = omega (arith, lt, length-map-range_with_len (first_row bounds rows) 0 count) in
      subst (Follows bounds rows) (sym (get_or-map-range_with_len (first_row bounds rows) 0 count k k d known (omega arith))) (first_follows k known)

  -- every row of every list is such a sum
  pub after_follows : (k : ℕ) → All (Follows bounds rows) (list_after bounds rows k)
  unfolding list_after
  after_follows zero = first_list_follows
  after_follows (suc k) = next_follows k (list_after bounds rows k) (after_follows k)
