-- One entry more behind those of which a text is the lines, and the form of the line behind them.
use Rattle.std.proofs.Common.{◌≡◌, ◌⊎◌, ℕ, ◌+◌, ◌<◌, ◌≤◌, List, [], ◌∷◌, ◌++◌, All, codes, length, append_assoc, length-append, ap, sym, subst, ◌∙◌, refl, arith}
use Rattle.std.specs.List.{flat_map}
use Rattle.std.proofs.lemmas.List.{flat_map_more}
use Rattle.std.proofs.lemmas.List.Elements.{All-push}
use Rattle.sched_base.specs.declared.limits.TheConstants.{MAX_ENTRIES}
use Rattle.round_model.specs.declared.entry.Entry.{Entry}
use Rattle.round_model.specs.Reads.{start_from}
use Rattle.round_model.proofs.Longer.{start_within}
use Rattle.sched_history.specs.declared.forms.LineForm.{LineForm}
use Rattle.sched_history.specs.declared.forms.LineForm.TheVariants as form
use Rattle.sched_history.specs.Lines.{EntryLine, entry_lines, form_after}
use Rattle.sched_history.specs.Ranges.{ArePrintable, IsPrintable, IsPrintableLine}
use Rattle.sched_history.specs.Spelling.{line_in, line_of, text_in, words_in}
use Rattle.sched_history.proofs.EntryLines.{lines_push}
use Rattle.history_reader.specs.Code.Kinds.{IsFirstForm, IsRightForm}
use Rattle.history_reader.specs.Reading.{BeginsWith, BeginsWithNone, IsFirstBadOf}

text_push : (f : LineForm) (front : List Entry) (e : Entry) → text_in f (front ++ e ∷ []) ≡ text_in f front ++ line_in (form_after 0 f front) e
text_push f front e =
    ap (λ (lines : List EntryLine). flat_map line_of lines) (lines_push 0 f front e)
    ∙ sym (flat_map_more line_of [] (entry_lines 0 f front) (record { form = form_after 0 f front; entry = e }))

-- what was read, and one entry more
pub read_push : (f : LineForm) (lines rest behind : List ℕ) (front : List Entry) (e : Entry) → lines ≡ text_in f front ++ rest
    → BeginsWith (form_after 0 f front) rest e behind → lines ≡ text_in f (front ++ e ∷ []) ++ behind
read_push f lines rest behind front e read (printable, is) =
    read
    ∙ (ap (λ xs. text_in f front ++ xs) is
    ∙ (sym (append_assoc (text_in f front) (line_in (form_after 0 f front) e) behind)
    ∙ ap (λ xs. xs ++ behind) (sym (text_push f front e))))

pub printable_push : (f : LineForm) (front : List Entry) (e : Entry) → length front < MAX_ENTRIES → ArePrintable f front
    → IsPrintable (form_after 0 f front) e → ArePrintable f (front ++ e ∷ [])
printable_push f front e room are is = record {
  lines = subst (λ (lines : List EntryLine). All IsPrintableLine lines) (sym (lines_push 0 f front e))
      (All-push IsPrintableLine (entry_lines 0 f front) (record { form = form_after 0 f front; entry = e }) are.lines is);
  few = omega (arith, room, length-append front (e ∷ []));
}

-- a line takes a byte
pub line_some : (f : LineForm) (e : Entry) (tail : List ℕ) → length tail < length (line_in f e ++ tail)
line_some f e tail = omega (arith, length-append (line_in f e) tail, length-append (words_in f e) (codes "\n"))

-- a round starts within the history
pub right_after : (f : LineForm) (es : List Entry) → IsFirstForm f → length es ≤ MAX_ENTRIES → IsRightForm (form_after 0 f es)
right_after form.First es is few = tt
right_after (form.Second cores start) es (count, zero) few =
    let within = start_within es in
    (count, subst (λ (n : ℕ). start_from 0 n es ≤ MAX_ENTRIES) (sym zero) (omega (arith, within, few)))

-- behind these entries no more can be read
pub bad_behind : (f : LineForm) (lines rest : List ℕ) (front : List Entry) → lines ≡ text_in f front ++ rest → ArePrintable f front
    → 0 < length rest → (length front ≡ MAX_ENTRIES) ⊎ BeginsWithNone (form_after 0 f front) rest → IsFirstBadOf f lines (length front + 1)
bad_behind f lines rest front read are some why = record {
  front = front;
  rest = rest;
  text_is = read;
  printable = are;
  number = refl;
  some = λ none. omega (arith, some, ap length none);
  bad = why;
}
