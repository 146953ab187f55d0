-- Each text spells a history or has a first bad line.
use Rattle.std.proofs.Common.{◌≡◌, ◌⊎◌, inl, inr, ℕ, zero, suc, ◌+◌, ◌<◌, ◌≤◌, List, [], ◌∷◌, ◌++◌, codes, get_or, length, ap, sym, ◌∙◌, refl, arith}
use Rattle.std.specs.List.{flat_map}
use Rattle.std.proofs.lemmas.Bool.{cases_lt}
use Rattle.std.proofs.lemmas.List.{append-nil}
use Rattle.std.proofs.lemmas.List.Elements.{All-nil}
use Rattle.sched_base.specs.declared.limits.TheConstants.{MAX_ENTRIES}
use Rattle.round_model.specs.declared.entry.Did.TheVariants as did
use Rattle.round_model.specs.declared.entry.Entry.{Entry}
use Rattle.round_model.specs.declared.entry.Entry.TheVariants as entry
use Rattle.sched_history.specs.declared.forms.LineForm.{LineForm}
use Rattle.sched_history.specs.declared.forms.LineForm.TheVariants as form
use Rattle.sched_history.specs.Lines.{entry_lines, form_after}
use Rattle.sched_history.specs.Ranges.{ArePrintable, CanBePrinted, IsCoreCount, IsPrintableLine}
use Rattle.sched_history.specs.Spelling.{header, line_in, line_of, second_form, spaced_number, text_in, text_of_history}
use Rattle.history_reader.specs.Laws.{BadHeaderLaw, OneReading}
use Rattle.history_reader.specs.Reading.{BeginsWith, BeginsWithNone, HasHeader, HasNoHeader, IsFirstBadLine, IsFirstBadOf, SpellsHistory, SpellsLines, bad_first, bad_second, in_first, in_second}
use Rattle.history_reader.proofs.Decision.{Begins, Decided, begins, first_line, is_core_count}
use Rattle.history_reader.proofs.Pushes.{bad_behind, line_some, printable_push, read_push}
use Rattle.history_reader.proofs.WholeTexts.{not_both, one_bad_line, one_history}

none_printable : (f : LineForm) → ArePrintable f []
none_printable f = record { lines = All-nil IsPrintableLine; few = omega arith }

module _ (f : LineForm) (lines : List ℕ) where
  abbrev LinesAnswer : Type 0
  LinesAnswer = ((history : List Entry) × SpellsLines f lines history) ⊎ ((line : ℕ) × IsFirstBadOf f lines line)

  -- the lines as those that were read, and the rest
  record Read (front : List Entry) (rest : List ℕ) : Type 0 where
    text_is : lines ≡ text_in f front ++ rest
    printable : ArePrintable f front

  spells : (front : List Entry) → Read front [] → LinesAnswer
  spells front now = inl (front, record { text_is = now.text_is ∙ append-nil (text_in f front); printable = now.printable })

  bad : (front : List Entry) (rest : List ℕ) → Read front rest → 0 < length rest →
      (length front ≡ MAX_ENTRIES) ⊎ BeginsWithNone (form_after 0 f front) rest → LinesAnswer
  bad front rest now some why = inr (length front + 1, bad_behind f lines rest front now.text_is now.printable some why)

  -- by the length of the rest
  answer : (steps : ℕ) (front : List Entry) (rest : List ℕ) → length rest ≤ steps → Read front rest → LinesAnswer
  answer steps front [] enough now = spells front now
  answer zero front (x ∷ rest) enough now = absurd (omega (arith, enough))
  answer (suc steps) front (x ∷ rest) enough now =
      by (cases_lt (length front) MAX_ENTRIES) (first_line (form_after 0 f front) (x ∷ rest)) (answer steps)
    where
      by : (length front < MAX_ENTRIES) ⊎ (MAX_ENTRIES ≤ length front) →
          ((e : Entry) × (behind : List ℕ) × BeginsWith (form_after 0 f front) (x ∷ rest) e behind) ⊎ BeginsWithNone (form_after 0 f front) (x ∷ rest)
          → ((more : List Entry) (behind : List ℕ) → length behind ≤ steps → Read more behind → LinesAnswer) →
          LinesAnswer
      by (inr full) first again = bad front (x ∷ rest) now (omega arith) (inl (omega (arith, full, now.printable.few)))
      by (inl room) (inr none) again = bad front (x ∷ rest) now (omega arith) (inr none)
      by (inl room) (inl (e, behind, is)) again =
          let shorter = line_some (form_after 0 f front) e behind in
          again (front ++ e ∷ []) behind (omega (arith, enough, shorter, ap length is.1))
          (record { text_is = read_push f lines (x ∷ rest) behind front e now.text_is is; printable = printable_push f front e room now.printable is.0 })

  lines_answer : LinesAnswer
  lines_answer = answer (length lines) [] lines (omega arith) (record { text_is = refl; printable = none_printable f })

-- whether the text begins with the header
has_header : (cores : ℕ) (text : List ℕ) → ((lines : List ℕ) × HasHeader cores text lines) ⊎ HasNoHeader cores text
has_header cores text = by (is_core_count cores) (begins (header cores) text)
  where
    by : Decided (IsCoreCount cores) → Decided (Begins (header cores) text) → ((lines : List ℕ) × HasHeader cores text lines) ⊎ HasNoHeader cores text
    by (inr none) other = inr (λ lines has. none has.count)
    by (inl count) (inr none) = inr (λ lines has. none (lines, has.text_is))
    by (inl count) (inl (lines, is)) = inl (lines, record { count = count; text_is = is })

abbrev front_byte : List ℕ → ℕ
front_byte xs = get_or xs 0 0

-- no entry's line begins as a header does
no_header : (f : LineForm) (behind : List ℕ) (e : Entry) (tail : List ℕ) → codes "history" ++ behind ≡ line_in f e ++ tail → ⊥
no_header f behind (entry.Round number) tail same = omega (arith, ap front_byte same)
no_header f behind (entry.Enter thread by at reads) tail same = omega (arith, ap front_byte same)
no_header f behind (entry.Wake thread by at reads) tail same = omega (arith, ap front_byte same)
no_header f behind (entry.Work by did.Nothing) tail same = omega (arith, ap front_byte same)
no_header f behind (entry.Work by (did.Kept thread)) tail same = omega (arith, ap front_byte same)
no_header f behind (entry.Work by (did.Queued thread)) tail same = omega (arith, ap front_byte same)
no_header f behind (entry.Work by (did.Blocked thread)) tail same = omega (arith, ap front_byte same)
no_header f behind (entry.Work by (did.Ended thread)) tail same = omega (arith, ap front_byte same)
no_header f behind (entry.Steal by from threads reads) tail same = omega (arith, ap front_byte same)
no_header f behind (entry.Fail by from reads) tail same = omega (arith, ap front_byte same)
no_header f behind (entry.Pass by reads) tail same = omega (arith, ap front_byte same)

-- so a text of the first format has no header
first_has_none : (cores : ℕ) (history : List Entry) → HasNoHeader cores (text_in form.First history)
first_has_none cores [] lines has = let same = has.text_is in cc same
first_has_none cores (e ∷ es) lines has = no_header form.First ((codes " 2 cores" ++ (spaced_number cores ++ codes "\n")) ++ lines) e (flat_map line_of (entry_lines 1 form.First es)) (sym has.text_is)

module _ (cores : ℕ) where
  some : (text : List ℕ) → ((history : List Entry) × SpellsHistory cores text history) ⊎ ((line : ℕ) × IsFirstBadLine cores text line)
  some text = by (has_header cores text)
    where
      in_lines : (lines : List ℕ) → HasHeader cores text lines → LinesAnswer (second_form cores) lines
          → ((history : List Entry) × SpellsHistory cores text history) ⊎ ((line : ℕ) × IsFirstBadLine cores text line)
      in_lines lines has (inl (history, is)) = inl (history, in_second lines has is)
      in_lines lines has (inr (line, is)) = inr (line + 1, bad_second lines line has is refl)

      in_text : HasNoHeader cores text → LinesAnswer form.First text
          → ((history : List Entry) × SpellsHistory cores text history) ⊎ ((line : ℕ) × IsFirstBadLine cores text line)
      in_text none (inl (history, is)) = inl (history, in_first none is)
      in_text none (inr (line, is)) = inr (line, bad_first none is)

      by : ((lines : List ℕ) × HasHeader cores text lines) ⊎ HasNoHeader cores text
          → ((history : List Entry) × SpellsHistory cores text history) ⊎ ((line : ℕ) × IsFirstBadLine cores text line)
      by (inl (lines, has)) = in_lines lines has (lines_answer (second_form cores) lines)
      by (inr none) = in_text none (lines_answer form.First text)

  a_text : (history : List Entry) → CanBePrinted cores history → SpellsHistory cores (text_of_history cores history) history
  a_text history can =
      in_second (text_in (second_form cores) history) (record { count = can.count; text_is = refl })
      (record { text_is = refl; printable = can.printable })

  pub one_reading : OneReading cores
  one_reading = record {
    some = some;
    one_history = one_history cores;
    one_bad_line = one_bad_line cores;
    not_both = not_both cores;
    a_text = a_text;
    one_text = λ text lines history has is. has.text_is ∙ ap (λ xs. header cores ++ xs) is.text_is;
    a_first_text = λ history can. in_first (first_has_none cores history) (record { text_is = refl; printable = can });
    one_first_text = λ text history none is. is.text_is;
  }

no_header_line : (f : LineForm) (behind : List ℕ) → BeginsWithNone f (codes "history" ++ behind)
no_header_line f behind e tail is = no_header f behind e tail is.1

pub bad_header : BadHeaderLaw
bad_header cores behind none = bad_first none (record {
  front = [];
  rest = codes "history" ++ behind;
  text_is = refl;
  printable = none_printable form.First;
  number = refl;
  some = λ same. cc same;
  bad = inr (no_header_line form.First behind);
})
