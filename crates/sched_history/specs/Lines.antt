-- The entries of a history, each with the form of its line.
use Rattle.std.specs.Prelude.{ℕ, suc, cond, List, [], ◌∷◌}
use Rattle.round_model.specs.declared.entry.Entry.{Entry}
use Rattle.round_model.specs.Kinds.{is_round}
use Rattle.round_model.specs.Reads.{start_from}
use Rattle.sched_history.specs.declared.forms.LineForm.{LineForm}
use Rattle.sched_history.specs.declared.forms.LineForm.TheVariants as form

-- The form of the line behind an entry with which there are `count` entries. In the second format a Round begins a
-- round that starts just behind it.
abbrev pub form_behind : ℕ → Entry → LineForm → LineForm
form_behind count e form.First = form.First
form_behind count e (form.Second cores start) = form.Second cores (cond (is_round e) count start)

-- an entry and the form of its line
pub record EntryLine : Type 0 where
  pub form : LineForm
  pub entry : Entry

-- these entries, the first of which stands at position k and has a line of this form
abbrev pub entry_lines : ℕ → LineForm → List Entry → List EntryLine
entry_lines k f [] = []
entry_lines k f (e ∷ es) = record { form = f; entry = e } ∷ entry_lines (suc k) (form_behind (suc k) e f) es

-- the form of the line behind these entries
abbrev pub form_after : ℕ → LineForm → List Entry → LineForm
form_after k form.First es = form.First
form_after k (form.Second cores start) es = form.Second cores (start_from k start es)
