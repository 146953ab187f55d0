-- Texts that spell histories, and the first bad line of those that don't.
use Rattle.std.specs.Prelude.{◌≡◌, ◌≢◌, ◌⊎◌, ℕ, ◌+◌, List, [], ◌++◌, length}
use Rattle.sched_base.specs.declared.limits.TheConstants.{MAX_ENTRIES}
use Rattle.round_model.specs.declared.entry.Entry.{Entry}
use Rattle.sched_history.specs.declared.forms.LineForm.{LineForm}
use Rattle.sched_history.specs.declared.forms.LineForm.TheVariants as form
use Rattle.sched_history.specs.Lines.{form_after}
use Rattle.sched_history.specs.Ranges.{ArePrintable, IsCoreCount, IsPrintable}
use Rattle.sched_history.specs.Spelling.{header, line_in, second_form, text_in}

-- The text begins with the header for so many cores, and the lines behind it are these.
pub record HasHeader (cores : ℕ) (text lines : List ℕ) : Type 0 where
  pub count : IsCoreCount cores
  pub text_is : text ≡ header cores ++ lines

abbrev pub HasNoHeader : ℕ → List ℕ → Type 0
HasNoHeader cores text = (lines : List ℕ) → HasHeader cores text lines → ⊥

-- The lines are those of the history, where the first is spelled so.
pub record SpellsLines (f : LineForm) (lines : List ℕ) (history : List Entry) : Type 0 where
  pub text_is : lines ≡ text_in f history
  pub printable : ArePrintable f history

-- A text that begins with the header for so many cores spells a history in the second format, any other in the first.
pub data SpellsHistory (cores : ℕ) (text : List ℕ) (history : List Entry) : Type 0 where
  in_first : HasNoHeader cores text → SpellsLines form.First text history → SpellsHistory cores text history
  in_second : (lines : List ℕ) → HasHeader cores text lines → SpellsLines (second_form cores) lines history
      → SpellsHistory cores text history

-- the lines begin with the line of that entry, its line feed included
abbrev pub BeginsWith : LineForm → List ℕ → Entry → List ℕ → Type 0
BeginsWith f lines e behind = IsPrintable f e × (lines ≡ line_in f e ++ behind)

-- the lines begin with the line of no entry: the first line has another form, or lacks its line feed
abbrev pub BeginsWithNone : LineForm → List ℕ → Type 0
BeginsWithNone f lines = (e : Entry) (behind : List ℕ) → BeginsWith f lines e behind → ⊥

-- Behind the lines of as many entries as stand before that line something is left, and it begins with the line of no
-- entry, or one more would be too many.
pub record IsFirstBadOf (f : LineForm) (lines : List ℕ) (line : ℕ) : Type 0 where
  pub front : List Entry
  pub rest : List ℕ
  pub text_is : lines ≡ text_in f front ++ rest
  pub printable : ArePrintable f front
  pub number : line ≡ length front + 1
  pub some : rest ≢ []
  pub bad : (length front ≡ MAX_ENTRIES) ⊎ BeginsWithNone (form_after 0 f front) rest

-- the same of a whole text, whose header is a line too
pub data IsFirstBadLine (cores : ℕ) (text : List ℕ) (line : ℕ) : Type 0 where
  bad_first : HasNoHeader cores text → IsFirstBadOf form.First text line → IsFirstBadLine cores text line
  bad_second : (lines : List ℕ) (behind : ℕ) → HasHeader cores text lines →
      IsFirstBadOf (second_form cores) lines behind → line ≡ behind + 1 → IsFirstBadLine cores text line
