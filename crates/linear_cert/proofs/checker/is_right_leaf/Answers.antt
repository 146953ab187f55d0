use Rattle.std.proofs.Common.{sym, ◌∙◌}
use Rattle.std.proofs.lemmas.Bool.{false≢true}
use Rattle.linear_cert.proofs.checker.is_right_leaf.Goals as goal
use Rattle.linear_cert.proofs.checker.is_right_leaf.Goals.{then-names_rows, else-names_rows}

pub returns-then-no_term_is_left : goal.returns-then-no_term_is_left
returns-then-no_term_is_left c = elim c.if-names_rows.branch [
  | then-names_rows w ↦
      let no_term = w.no_term_is_left.ensures.0 (sym w.value-is ∙ c.if-no_term_is_left.true) in
      let named = c.names_rows.ensures.0 w.if-names_rows.true in (
        λ holds. record { named = named; no_term = no_term; negative = c.bound_is_negative.ensures.0 holds },
        λ right. c.bound_is_negative.ensures.1 right.negative,
      )
  | else-names_rows w ↦
      absurd (false≢true (sym w.if-names_rows.false ∙ sym w.value-is ∙ c.if-no_term_is_left.true))
]
