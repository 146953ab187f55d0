-- How many of some rounds are bad, with a round more.
use Rattle.std.proofs.Common.{◌≡◌, ℕ, zero, suc, ◌+◌, ◌<◌, ◌≤◌, ◌&&◌, Bool, true, false, cond, List, [], ◌∷◌, Some, length, get_or, refl, sym, ap, ap₂, ◌∙◌, ◌⊎◌, inl, inr, arith}
use Rattle.std.specs.Prelude.{nat_le, slice_get}
use Rattle.std.proofs.lemmas.Bool.Decides.{nat_tests}
use Rattle.std.proofs.lemmas.Bool.{cases_lt}
use Rattle.std.proofs.lemmas.List.Sums.{sum_by-cons}
use Rattle.sched_report.specs.RoundRows.{bad_within, is_bad, is_bad_within}
use Rattle.sched_report.specs.Code.Runs.{bad_of}
use Rattle.sched_report.specs.declared.rows.RoundRow.{RoundRow}

-- what a row adds to the count of the rounds first to last
abbrev pub share : ℕ → ℕ → RoundRow → ℕ
share first last row = cond (is_bad_within first last row) 1 0

-- the rows are those of the rounds behind k
abbrev pub NumberedFrom : ℕ → List RoundRow → Type 0
NumberedFrom k rows = (j : ℕ) (d : RoundRow) → j < length rows → (get_or rows j d).number ≡ suc (k + j)

abbrev one_if : Bool → ℕ
one_if b = cond b 1 0

none_of : (b c : Bool) → one_if (b && (c && false)) ≡ 0
none_of true true = refl
none_of true false = refl
none_of false c = refl

none_before : (b c : Bool) → one_if (b && (false && c)) ≡ 0
none_before true c = refl
none_before false c = refl

all_of : (b : Bool) → one_if (b && (true && true)) ≡ one_if b
all_of true = refl
all_of false = refl

pub not_le : (a b : ℕ) → b < a → nat_le a b ≡ false
not_le a b less = grind (arith, nat_tests)

pub is_le : (a b : ℕ) → a ≤ b → nat_le a b ≡ true
is_le a b less = grind (arith, nat_tests)

module _ (first last : ℕ) (row : RoundRow) where
  past_last : last < row.number → share first last row ≡ 0
  past_last less = ap (λ b. one_if (is_bad row && (nat_le first row.number && b))) (not_le row.number last less) ∙ none_of (is_bad row) (nat_le first row.number)

  before_first : row.number < first → share first last row ≡ 0
  before_first less = ap (λ b. one_if (is_bad row && (b && nat_le row.number last))) (not_le first row.number less) ∙ none_before (is_bad row) (nat_le row.number last)

  within : first ≤ row.number → row.number ≤ last → share first last row ≡ bad_of row
  within low high =
      ap₂ (λ (a b : Bool). one_if (is_bad row && (a && b))) (is_le first row.number low) (is_le row.number last high) ∙ all_of (is_bad row)

  same_share : (other : ℕ) → row.number ≤ last → row.number ≤ other → share first last row ≡ share first other row
  same_share other high higher =
      ap (λ b. one_if (is_bad row && (nat_le first row.number && b))) (is_le row.number last high ∙ sym (is_le row.number other higher))

pub rest_numbered : (k : ℕ) (row : RoundRow) (rows : List RoundRow) → NumberedFrom k (row ∷ rows) → NumberedFrom (suc k) rows
rest_numbered k row rows numbered j d inside = let next = numbered (suc j) d (omega arith) in omega arith

-- behind the last there is none
none_behind : (k first last : ℕ) (rows : List RoundRow) → NumberedFrom k rows → last ≤ k → bad_within rows first last ≡ 0
none_behind k first last [] numbered early = refl
none_behind k first last (row ∷ rows) numbered early =
    let number = numbered 0 row (omega arith) in
    omega (arith, sum_by-cons (share first last) row rows, past_last first last row (omega arith), none_behind (suc k) first last rows (rest_numbered k row rows numbered) (omega arith))

-- up to a last one before the first there is none
pub none_within : (first last : ℕ) (rows : List RoundRow) → last < first → bad_within rows first last ≡ 0
none_within first last [] less = refl
none_within first last (row ∷ rows) less = by_order (none_within first last rows less) (cases_lt last row.number)
  where
    by_order : bad_within rows first last ≡ 0 → (last < row.number) ⊎ (row.number ≤ last) → bad_within (row ∷ rows) first last ≡ 0
    by_order rest (inl past) = omega (arith, sum_by-cons (share first last) row rows, past_last first last row past, rest)
    by_order rest (inr before) = omega (arith, sum_by-cons (share first last) row rows, before_first first last row (omega arith), rest)

-- with a round more at the end
more_from : (k m n first : ℕ) (rows : List RoundRow) (y : RoundRow) → NumberedFrom k rows → n ≡ k + m → slice_get rows m ≡ Some y → first ≤ suc n
    → bad_within rows first (suc n) ≡ bad_within rows first n + bad_of y
more_from k m n first [] y numbered is there low = absurd (cc)
more_from k zero n first (row ∷ rows) y numbered is there low =
    let same : row ≡ y = cc in
    let number = numbered 0 row (omega arith) in
    let numbered_rest = rest_numbered k row rows numbered in
    let bad : bad_of row ≡ bad_of y = ap bad_of same in
    omega (
      arith,
      sum_by-cons (share first (suc n)) row rows,
      sum_by-cons (share first n) row rows,
      within first (suc n) row (omega arith) (omega arith),
      past_last first n row (omega arith),
      none_behind (suc k) first (suc n) rows numbered_rest (omega arith),
      none_behind (suc k) first n rows numbered_rest (omega arith),
      bad,
    )
more_from k (suc m) n first (row ∷ rows) y numbered is there low =
    let number = numbered 0 row (omega arith) in
    omega (
      arith,
      sum_by-cons (share first (suc n)) row rows,
      sum_by-cons (share first n) row rows,
      same_share first (suc n) row n (omega arith) (omega arith),
      more_from (suc k) m n first rows y (rest_numbered k row rows numbered) (omega arith) there low,
    )

pub one_more_bad : (n first : ℕ) (rows : List RoundRow) (y : RoundRow) → ((k : ℕ) (d : RoundRow) → k < length rows → (get_or rows k d).number ≡ suc k)
    → slice_get rows n ≡ Some y → first ≤ suc n → bad_within rows first (suc n) ≡ bad_within rows first n + bad_of y
one_more_bad n first rows y numbered there low = more_from 0 n n first rows y (λ j d inside. let here = numbered j d inside in omega arith) (omega arith) there low
