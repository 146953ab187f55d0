-- What the definitions are meant to give, as laws over all texts.
use Rattle.std.specs.Prelude.{◌≡◌, ◌⊎◌, ℕ, List, ◌++◌, codes}
use Rattle.round_model.specs.declared.entry.Entry.{Entry}
use Rattle.sched_history.specs.declared.forms.LineForm.TheVariants as form
use Rattle.sched_history.specs.Ranges.{ArePrintable, CanBePrinted}
use Rattle.sched_history.specs.Spelling.{second_form, text_in, text_of_history}
use Rattle.history_reader.specs.Reading.{HasHeader, HasNoHeader, IsFirstBadLine, SpellsHistory, SpellsLines}

-- Each text spells one history or has one first bad line, and not both. So no two histories have the same text of one
-- format and number of cores. And each history that a format can spell has just one text of it.
pub record OneReading (cores : ℕ) : Type 0 where
  pub some : (text : List ℕ) → ((history : List Entry) × SpellsHistory cores text history) ⊎
      ((line : ℕ) × IsFirstBadLine cores text line)
  pub one_history : (text : List ℕ) (one two : List Entry) → SpellsHistory cores text one →
      SpellsHistory cores text two → one ≡ two
  pub one_bad_line : (text : List ℕ) (one two : ℕ) → IsFirstBadLine cores text one → IsFirstBadLine cores text two →
      one ≡ two
  pub not_both : (text : List ℕ) (history : List Entry) (line : ℕ) → SpellsHistory cores text history →
      IsFirstBadLine cores text line → ⊥
  pub a_text : (history : List Entry) → CanBePrinted cores history →
      SpellsHistory cores (text_of_history cores history) history
  pub one_text : (text lines : List ℕ) (history : List Entry) → HasHeader cores text lines →
      SpellsLines (second_form cores) lines history → text ≡ text_of_history cores history
  pub a_first_text : (history : List Entry) → ArePrintable form.First history →
      SpellsHistory cores (text_in form.First history) history
  pub one_first_text : (text : List ℕ) (history : List Entry) → HasNoHeader cores text →
      SpellsLines form.First text history → text ≡ text_in form.First history

-- Where the first word of a text is `history`, and its first line isn't the header for so many cores, that line is bad.
abbrev pub BadHeaderLaw : Type 0
BadHeaderLaw = (cores : ℕ) (behind : List ℕ) → HasNoHeader cores (codes "history" ++ behind) →
    IsFirstBadLine cores (codes "history" ++ behind) 1
