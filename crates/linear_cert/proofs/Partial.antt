-- The partial sums of a column, one multiplier after another.
use Rattle.std.proofs.Common.{◌≡◌, ℕ, ◌+◌, ◌<◌, List, length, take, get_or, ℤ, ◌+ℤ◌, ap, sym, ◌∙◌}
use Rattle.linear_form.specs.declared.form.Row.{Row}
use Rattle.linear_form.specs.declared.form.Bound.{Bound}
use Rattle.linear_form.proofs.Sums.{sum_over_more}
use Rattle.linear_cert.specs.declared.cert.Mult.{Mult}
use Rattle.linear_cert.specs.declared.rows.Column.{Column}
use Rattle.linear_cert.specs.Columns.{column_sum, entry, times}

-- a partial sum and what the next multiplier adds
pub next_sum : (column : Column) (bounds : List Bound) (rows : List Row) (mults : List Mult) (i : ℕ) (d : Mult) (sum : ℤ) → i < length mults → sum ≡ column_sum column bounds rows (take i mults) → sum +ℤ times (entry column) bounds rows (get_or mults i d) ≡ column_sum column bounds rows (take (i + 1) mults)
next_sum column bounds rows mults i d sum lt value =
    let next = times (entry column) bounds rows in
    ap (λ s. s +ℤ next (get_or mults i d)) value ∙ sym (sum_over_more next mults i d lt)
