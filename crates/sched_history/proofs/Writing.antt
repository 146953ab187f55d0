-- A history's text in the second format, line after line: what is written where, and that each entry can be.
use Rattle.std.proofs.Common.{◌≡◌, All, ℕ, suc, ◌+◌, ◌<◌, cond, List, [], ◌∷◌, ◌++◌, length, take, get_or, ap, subst, ◌∙◌, arith}
use Rattle.std.proofs.lemmas.List.{get_or-map, length-map, length-take, take_more}
use Rattle.round_model.specs.declared.entry.Entry.{Entry}
use Rattle.round_model.specs.Kinds.{is_round}
use Rattle.round_model.specs.Reads.{round_start}
use Rattle.sched_history.specs.declared.forms.LineForm.{LineForm}
use Rattle.sched_history.specs.declared.forms.LineForm.TheVariants as form
use Rattle.sched_history.specs.Lines.{EntryLine, entry_lines}
use Rattle.sched_history.specs.Ranges.{IsPrintableFrom, IsPrintableLine}
use Rattle.sched_history.specs.Spelling.{line_from, line_of, lines_of_history, second_form}
use Rattle.sched_history.proofs.EntryLines.{form_after-push, length-lines, line_at}

abbrev start_in : LineForm → ℕ
start_in form.First = 0
start_in (form.Second cores start) = start

-- where the round of the next entry starts
start_push : (h : List Entry) (e : Entry) → round_start (h ++ e ∷ []) ≡ cond (is_round e) (length h + 1) (round_start h)
start_push h e =
    ap start_in (form_after-push 0 (form.Second 0 0) h e)
    ∙ ap (λ (n : ℕ). cond (is_round e) n (round_start h)) (omega arith)

pub start_next : (h : List Entry) (at : ℕ) (e : Entry) → at < length h
    → round_start (take (at + 1) h) ≡ cond (is_round (get_or h at e)) (at + 1) (round_start (take at h))
start_next h at e inside =
    ap round_start (take_more h at e inside)
    ∙ (start_push (take at h) (get_or h at e)
    ∙ ap (λ (n : ℕ). cond (is_round (get_or h at e)) n (round_start (take at h))) (omega (arith, length-take at h)))

module _ (cores : ℕ) (h : List Entry) where
  abbrev lines : List EntryLine
  lines = entry_lines 0 (second_form cores) h

  pub count_lines : length (lines_of_history cores h) ≡ length h + 1
  count_lines = omega (arith, length-map lines line_of, length-lines 0 (second_form cores) h)

  module _ (at : ℕ) (e : Entry) (inside : at < length h) where
    abbrev first : EntryLine
    first = record { form = second_form cores; entry = e }

    -- the line of the entry in that place, behind the header
    pub written_line : get_or (lines_of_history cores h) (at + 1) [] ≡ line_from (round_start (take at h)) (get_or h at e)
    written_line =
        let next : at + 1 ≡ suc at = omega arith in
        ap (λ (n : ℕ). get_or (lines_of_history cores h) n []) next
        ∙ (get_or-map line_of lines at first [] (omega (arith, inside, length-lines 0 (second_form cores) h))
        ∙ ap line_of (line_at 0 (second_form cores) h at e first inside))

    pub printable_at : All IsPrintableLine lines → IsPrintableFrom (round_start (take at h)) (get_or h at e)
    printable_at each = (
      cores,
      subst IsPrintableLine (line_at 0 (second_form cores) h at e first inside)
          (each at first (omega (arith, inside, length-lines 0 (second_form cores) h))),
    )
