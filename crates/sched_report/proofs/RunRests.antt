-- The first rest of some rounds, with a round more.
use Rattle.std.proofs.Common.{◌≡◌, ℕ, zero, suc, ◌+◌, ◌<◌, ◌≤◌, ◌&&◌, Bool, true, false, cond, List, [], ◌∷◌, Option, None, Some, length, get_or, refl, sym, ap, ap₂, ◌∙◌, ◌⊎◌, inl, inr, arith}
use Rattle.std.specs.Prelude.{nat_le, slice_get}
use Rattle.std.specs.Option.{option_or}
use Rattle.std.proofs.lemmas.Bool.{cases_lt}
use Rattle.sched_report.specs.Rests.{first_rest, rest_told, rest_within}
use Rattle.sched_report.specs.declared.rows.RestRow.{RestRow}
use Rattle.sched_report.specs.declared.rows.RoundRow.{RoundRow}
use Rattle.sched_report.proofs.RunCounts.{NumberedFrom, is_le, not_le, rest_numbered}

abbrev some_if : Bool → Option RestRow → Option RestRow
some_if b o = cond b o None

none_if : (b : Bool) (o : Option RestRow) → some_if (b && false) o ≡ None
none_if true o = refl
none_if false o = refl

or_none : (o : Option RestRow) → option_or o None ≡ o
or_none None = refl
or_none (Some rest) = refl

or_later : (a b c : Option RestRow) → option_or a (option_or b c) ≡ option_or (option_or a b) c
or_later None b c = refl
or_later (Some rest) b c = refl

module _ (first last : ℕ) (row : RoundRow) where
  past_last : last < row.number → rest_within first last row ≡ None
  past_last less = ap (λ b. some_if (nat_le first row.number && b) (rest_told row)) (not_le row.number last less) ∙ none_if (nat_le first row.number) (rest_told row)

  before_first : row.number < first → rest_within first last row ≡ None
  before_first less = ap (λ b. some_if (b && nat_le row.number last) (rest_told row)) (not_le first row.number less)

  within : first ≤ row.number → row.number ≤ last → rest_within first last row ≡ rest_told row
  within low high = ap₂ (λ (a b : Bool). some_if (a && b) (rest_told row)) (is_le first row.number low) (is_le row.number last high)

  same_within : (other : ℕ) → row.number ≤ last → row.number ≤ other → rest_within first last row ≡ rest_within first other row
  same_within other high higher =
      ap (λ b. some_if (nat_le first row.number && b) (rest_told row)) (is_le row.number last high ∙ sym (is_le row.number other higher))

-- behind the last there is none
none_behind : (k first last : ℕ) (rows : List RoundRow) → NumberedFrom k rows → last ≤ k → first_rest rows first last ≡ None
none_behind k first last [] numbered early = refl
none_behind k first last (row ∷ rows) numbered early =
    let number = numbered 0 row (omega arith) in
    ap₂ option_or (past_last first last row (omega arith)) (none_behind (suc k) first last rows (rest_numbered k row rows numbered) (omega arith))

-- up to a last one before the first there is none
pub no_rest_within : (first last : ℕ) (rows : List RoundRow) → last < first → first_rest rows first last ≡ None
no_rest_within first last [] less = refl
no_rest_within first last (row ∷ rows) less = ap₂ option_or (by_order (cases_lt last row.number)) (no_rest_within first last rows less)
  where
    by_order : (last < row.number) ⊎ (row.number ≤ last) → rest_within first last row ≡ None
    by_order (inl past) = past_last first last row past
    by_order (inr before) = before_first first last row (omega arith)

-- with a round more at the end
more_from : (k m n first : ℕ) (rows : List RoundRow) (y : RoundRow) → NumberedFrom k rows → n ≡ k + m → slice_get rows m ≡ Some y → first ≤ suc n
    → first_rest rows first (suc n) ≡ option_or (first_rest rows first n) (rest_told y)
more_from k m n first [] y numbered is there low = absurd (cc)
more_from k zero n first (row ∷ rows) y numbered is there low =
    let same : row ≡ y = cc in
    let number = numbered 0 row (omega arith) in
    let numbered_rest = rest_numbered k row rows numbered in
    let long = ap₂ option_or (within first (suc n) row (omega arith) (omega arith)) (none_behind (suc k) first (suc n) rows numbered_rest (omega arith)) in
    let short = ap₂ option_or (past_last first n row (omega arith)) (none_behind (suc k) first n rows numbered_rest (omega arith)) in
    long ∙ (or_none (rest_told row) ∙ (ap rest_told same ∙ ap (λ o. option_or o (rest_told y)) (sym short)))
more_from k (suc m) n first (row ∷ rows) y numbered is there low =
    let number = numbered 0 row (omega arith) in
    let rest = more_from (suc k) m n first rows y (rest_numbered k row rows numbered) (omega arith) there low in
    ap₂ option_or (same_within first (suc n) row n (omega arith) (omega arith)) rest
    ∙ or_later (rest_within first n row) (first_rest rows first n) (rest_told y)

pub one_more_rest : (n first : ℕ) (rows : List RoundRow) (y : RoundRow) → ((k : ℕ) (d : RoundRow) → k < length rows → (get_or rows k d).number ≡ suc k)
    → slice_get rows n ≡ Some y → first ≤ suc n → first_rest rows first (suc n) ≡ option_or (first_rest rows first n) (rest_told y)
one_more_rest n first rows y numbered there low = more_from 0 n n first rows y (λ j d inside. let here = numbered j d inside in omega arith) (omega arith) there low
