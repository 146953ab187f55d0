use Rattle.std.proofs.Common.{◌≡◌, eqb, length, take}
use Rattle.std.specs.List.{list_any}
use Rattle.linear_form.specs.declared.form.Term.{Term}
use Rattle.obligations.specs.Marks.{IsMarked}
use Rattle.obligations.proofs.marking.mark_row.Given as goal

abbrev pub invariant-loop-term : goal.invariant-loop-term
invariant-loop-term l = record {
  marked : IsMarked l.initial.marks l.marks (λ v. list_any (λ (term : Term). eqb term.var v) (take l.term-index l.row.terms));
  long : length l.marks ≡ 30;
}
