-- The lines of a history, one by one: the form of each, and one more at their end.
use Rattle.std.proofs.Common.{◌≡◌, ℕ, zero, suc, ◌+◌, ◌<◌, cond, List, [], ◌∷◌, ◌++◌, length, take, get_or, ap, ap₂, refl, sym, ◌∙◌, arith}
use Rattle.round_model.specs.declared.entry.Entry.{Entry}
use Rattle.round_model.specs.Kinds.{is_round}
use Rattle.sched_history.specs.declared.forms.LineForm.{LineForm}
use Rattle.sched_history.specs.declared.forms.LineForm.TheVariants as form
use Rattle.sched_history.specs.Lines.{EntryLine, entry_lines, form_after, form_behind}

pub form_after-nil : (k : ℕ) (f : LineForm) → form_after k f [] ≡ f
form_after-nil k form.First = refl
form_after-nil k (form.Second cores start) = refl

pub form_after-cons : (k : ℕ) (f : LineForm) (e : Entry) (es : List Entry) → form_after (suc k) (form_behind (suc k) e f) es ≡ form_after k f (e ∷ es)
form_after-cons k form.First e es = refl
form_after-cons k (form.Second cores start) e es = refl

pub length-lines : (k : ℕ) (f : LineForm) (es : List Entry) → length (entry_lines k f es) ≡ length es
length-lines k f [] = refl
length-lines k f (e ∷ es) = ap suc (length-lines (suc k) (form_behind (suc k) e f) es)

-- the line in that place
pub line_at : (k : ℕ) (f : LineForm) (es : List Entry) (at : ℕ) (e : Entry) (x : EntryLine) → at < length es
    → get_or (entry_lines k f es) at x ≡ record { form = form_after k f (take at es); entry = get_or es at e }
line_at k f [] at e x inside = absurd (omega arith)
line_at k f (y ∷ es) zero e x inside = ap (λ (g : LineForm). record { form = g; entry = y }) (sym (form_after-nil k f))
line_at k f (y ∷ es) (suc at) e x inside =
    line_at (suc k) (form_behind (suc k) y f) es at e x (omega arith)
    ∙ ap (λ (g : LineForm). record { form = g; entry = get_or es at e }) (form_after-cons k f y (take at es))

-- one entry more
pub lines_push : (k : ℕ) (f : LineForm) (es : List Entry) (e : Entry)
    → entry_lines k f (es ++ e ∷ []) ≡ entry_lines k f es ++ record { form = form_after k f es; entry = e } ∷ []
lines_push k f [] e = ap (λ (g : LineForm). record { form = g; entry = e } ∷ []) (sym (form_after-nil k f))
lines_push k f (y ∷ es) e =
    ap (λ (lines : List EntryLine). record { form = f; entry = y } ∷ lines)
    (lines_push (suc k) (form_behind (suc k) y f) es e
    ∙ ap (λ (g : LineForm). entry_lines (suc k) (form_behind (suc k) y f) es ++ record { form = g; entry = e } ∷ []) (form_after-cons k f y es))

pub form_after-push : (k : ℕ) (f : LineForm) (es : List Entry) (e : Entry) → form_after k f (es ++ e ∷ []) ≡ form_behind (k + length es + 1) e (form_after k f es)
form_after-push k f [] e = by f
  where
    by : (f : LineForm) → form_after k f (e ∷ []) ≡ form_behind (k + 0 + 1) e (form_after k f [])
    by form.First = refl
    by (form.Second cores start) = ap (λ (n : ℕ). form.Second cores (cond (is_round e) n start)) (omega arith)
form_after-push k f (y ∷ es) e =
    sym (form_after-cons k f y (es ++ e ∷ []))
    ∙ (form_after-push (suc k) (form_behind (suc k) y f) es e
    ∙ ap₂ (λ (n : ℕ) (g : LineForm). form_behind n e g) (omega arith) (form_after-cons k f y es))
