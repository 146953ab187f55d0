-- Lines are read in one way: they spell one history at most, or have one first bad line, and not both.
use Rattle.std.proofs.Common.{◌≡◌, ◌⊎◌, inl, inr, ℕ, suc, ◌≤◌, List, [], ◌∷◌, ◌++◌, All, length, append_assoc, length-append, ap, ap₂, sym, subst, ◌∙◌, refl, arith}
use Rattle.std.specs.List.{flat_map}
use Rattle.std.proofs.lemmas.List.{append-nil}
use Rattle.std.proofs.lemmas.List.Elements.{All-head, All-tail}
use Rattle.sched_base.specs.declared.limits.TheConstants.{MAX_ENTRIES}
use Rattle.round_model.specs.declared.entry.Entry.{Entry}
use Rattle.sched_history.specs.declared.forms.LineForm.{LineForm}
use Rattle.sched_history.specs.Lines.{entry_lines, form_after, form_behind}
use Rattle.sched_history.specs.Ranges.{IsPrintable, IsPrintableLine}
use Rattle.sched_history.specs.Spelling.{line_in, line_of}
use Rattle.sched_history.proofs.EntryLines.{form_after-cons, form_after-nil}
use Rattle.history_reader.specs.Reading.{BeginsWithNone, IsFirstBadOf, SpellsLines}
use Rattle.history_reader.proofs.OneLine.{same_line}
use Rattle.history_reader.proofs.Pushes.{line_some}

abbrev text_at : ℕ → LineForm → List Entry → List ℕ
text_at k f es = flat_map line_of (entry_lines k f es)

-- behind these entries the text begins with the line of that one
record Further (k : ℕ) (f : LineForm) (front : List Entry) (rest : List ℕ) (e : Entry) (tail : List ℕ) : Type 0 where
  printable : IsPrintable (form_after k f front) e
  text_is : rest ≡ line_in (form_after k f front) e ++ tail

-- of two fronts of a text that are lines of entries one is a front of the other
data Fronts (k : ℕ) (f : LineForm) (one : List Entry) (rest : List ℕ) (two : List Entry) (behind : List ℕ) : Type 0 where
  same_fronts : one ≡ two → rest ≡ behind → Fronts k f one rest two behind
  first_shorter : (e : Entry) (more : List Entry) (tail : List ℕ) → two ≡ one ++ e ∷ more → Further k f one rest e tail → Fronts k f one rest two behind
  first_longer : (e : Entry) (more : List Entry) (tail : List ℕ) → one ≡ two ++ e ∷ more → Further k f two behind e tail → Fronts k f one rest two behind

-- a front of no entry
none_before : (k : ℕ) (f : LineForm) (e : Entry) (es : List Entry) (rest behind : List ℕ) → All IsPrintableLine (entry_lines k f (e ∷ es))
    → rest ≡ text_at k f (e ∷ es) ++ behind → Further k f [] rest e (text_at (suc k) (form_behind (suc k) e f) es ++ behind)
none_before k f e es rest behind are same = record {
  printable = subst (λ (g : LineForm). IsPrintable g e) (sym (form_after-nil k f))
      (All-head IsPrintableLine (record { form = f; entry = e }) (entry_lines (suc k) (form_behind (suc k) e f) es) are);
  text_is = same
      ∙ (append_assoc (line_in f e) (text_at (suc k) (form_behind (suc k) e f) es) behind
      ∙ ap (λ (g : LineForm). line_in g e ++ (text_at (suc k) (form_behind (suc k) e f) es ++ behind)) (sym (form_after-nil k f)));
}

-- a front with one entry more before it
longer : (k : ℕ) (f : LineForm) (x y : Entry) (front : List Entry) (rest : List ℕ) (e : Entry) (tail : List ℕ) → x ≡ y
    → Further (suc k) (form_behind (suc k) x f) front rest e tail → Further k f (y ∷ front) rest e tail
longer k f x y front rest e tail first further =
    let form_is = ap (λ (z : Entry). form_after (suc k) (form_behind (suc k) z f) front) first ∙ form_after-cons k f y front in
    record {
      printable = subst (λ (g : LineForm). IsPrintable g e) form_is further.printable;
      text_is = further.text_is ∙ ap (λ (g : LineForm). line_in g e ++ tail) form_is;
    }

fronts : (k : ℕ) (f : LineForm) (one two : List Entry) (rest behind : List ℕ) → All IsPrintableLine (entry_lines k f one)
    → All IsPrintableLine (entry_lines k f two) → text_at k f one ++ rest ≡ text_at k f two ++ behind → Fronts k f one rest two behind
fronts k f [] [] rest behind is_one is_two same = same_fronts refl same
fronts k f [] (y ∷ two) rest behind is_one is_two same =
    first_shorter y two (text_at (suc k) (form_behind (suc k) y f) two ++ behind) refl (none_before k f y two rest behind is_two same)
fronts k f (x ∷ one) [] rest behind is_one is_two same =
    first_longer x one (text_at (suc k) (form_behind (suc k) x f) one ++ rest) refl (none_before k f x one behind rest is_one (sym same))
fronts k f (x ∷ one) (y ∷ two) rest behind is_one is_two same =
    let later : Entry → List Entry → List ℕ = λ z es. text_at (suc k) (form_behind (suc k) z f) es in
    let whole = sym (append_assoc (line_in f x) (later x one) rest) ∙ same ∙ append_assoc (line_in f y) (later y two) behind in
    let parts = same_line f x y (later x one ++ rest) (later y two ++ behind)
    (All-head IsPrintableLine (record { form = f; entry = x }) (entry_lines (suc k) (form_behind (suc k) x f) one) is_one)
    (All-head IsPrintableLine (record { form = f; entry = y }) (entry_lines (suc k) (form_behind (suc k) y f) two) is_two) whole in
    let tail_one = All-tail IsPrintableLine (record { form = f; entry = x }) (entry_lines (suc k) (form_behind (suc k) x f) one) is_one in
    let tail_two = subst (λ (z : Entry). All IsPrintableLine (entry_lines (suc k) (form_behind (suc k) z f) two)) (sym parts.0)
    (All-tail IsPrintableLine (record { form = f; entry = y }) (entry_lines (suc k) (form_behind (suc k) y f) two) is_two) in
    let behind_first = subst (λ (z : Entry). later x one ++ rest ≡ later z two ++ behind) (sym parts.0) parts.1 in
    by parts.0 (fronts (suc k) (form_behind (suc k) x f) one two rest behind tail_one tail_two behind_first)
  where
    by : x ≡ y → Fronts (suc k) (form_behind (suc k) x f) one rest two behind → Fronts k f (x ∷ one) rest (y ∷ two) behind
    by first (same_fronts is rest_is) = same_fronts (ap₂ (λ z zs. z ∷ zs) first is) rest_is
    by first (first_shorter e more tail is further) =
        first_shorter e more tail (ap₂ (λ z zs. z ∷ zs) (sym first) is) (longer k f x x one rest e tail refl further)
    by first (first_longer e more tail is further) =
        first_longer e more tail (ap₂ (λ z zs. z ∷ zs) first is) (longer k f x y two behind e tail first further)

module _ (f : LineForm) where
  -- behind a bad line's front no further entry is read
  no_more : (front whole : List Entry) (rest : List ℕ) (e : Entry) (more : List Entry) (tail : List ℕ) → length whole ≤ MAX_ENTRIES
      → (length front ≡ MAX_ENTRIES) ⊎ BeginsWithNone (form_after 0 f front) rest → whole ≡ front ++ e ∷ more → Further 0 f front rest e tail → ⊥
  no_more front whole rest e more tail few (inl full) is further =
      omega (arith, few, full, ap length is, length-append front (e ∷ more))
  no_more front whole rest e more tail few (inr none) is further = none e tail (further.printable, further.text_is)

  -- where nothing is left, no entry is
  nothing_left : (front : List Entry) (e : Entry) (tail : List ℕ) → Further 0 f front [] e tail → ⊥
  nothing_left front e tail further =
      let some = line_some (form_after 0 f front) e tail in
      omega (arith, some, ap length further.text_is)

  pub one_spelling : (lines : List ℕ) (one two : List Entry) → SpellsLines f lines one → SpellsLines f lines two → one ≡ two
  one_spelling lines one two is_one is_two =
      by (fronts 0 f one two [] [] is_one.printable.lines is_two.printable.lines
      (append-nil (text_at 0 f one) ∙ (sym is_one.text_is ∙ (is_two.text_is ∙ sym (append-nil (text_at 0 f two))))))
    where
      by : Fronts 0 f one [] two [] → one ≡ two
      by (same_fronts is rest_is) = is
      by (first_shorter e more tail is further) = absurd (nothing_left one e tail further)
      by (first_longer e more tail is further) = absurd (nothing_left two e tail further)

  pub one_first_bad : (lines : List ℕ) (one two : ℕ) → IsFirstBadOf f lines one → IsFirstBadOf f lines two → one ≡ two
  one_first_bad lines one two is_one is_two =
      by (fronts 0 f is_one.front is_two.front is_one.rest is_two.rest is_one.printable.lines is_two.printable.lines
      (sym is_one.text_is ∙ is_two.text_is))
    where
      by : Fronts 0 f is_one.front is_one.rest is_two.front is_two.rest → one ≡ two
      by (same_fronts is rest_is) = omega (arith, ap length is, is_one.number, is_two.number)
      by (first_shorter e more tail is further) =
          absurd (no_more is_one.front is_two.front is_one.rest e more tail is_two.printable.few is_one.bad is further)
      by (first_longer e more tail is further) =
          absurd (no_more is_two.front is_one.front is_two.rest e more tail is_one.printable.few is_two.bad is further)

  pub spelled_or_bad : (lines : List ℕ) (history : List Entry) (line : ℕ) → SpellsLines f lines history → IsFirstBadOf f lines line → ⊥
  spelled_or_bad lines history line spells bad =
      by (fronts 0 f bad.front history bad.rest [] bad.printable.lines spells.printable.lines
      (sym bad.text_is ∙ (spells.text_is ∙ sym (append-nil (text_at 0 f history)))))
    where
      by : Fronts 0 f bad.front bad.rest history [] → ⊥
      by (same_fronts is rest_is) = bad.some rest_is
      by (first_shorter e more tail is further) = no_more bad.front history bad.rest e more tail spells.printable.few bad.bad is further
      by (first_longer e more tail is further) = nothing_left history e tail further
