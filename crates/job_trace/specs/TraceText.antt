-- The traces that texts spell.
use Rattle.std.specs.Prelude.{◌≡◌, ℕ, ◌≤◌, true, false, List, [], ◌∷◌, ◌++◌, length}
use Rattle.text_forms.specs.Lines.{lines_of}
use Rattle.text_forms.specs.Scans.{Scans}
use Rattle.job_trace.specs.declared.trace.TraceLine.{TraceLine}
use Rattle.job_trace.specs.declared.trace.Numbered.{Numbered}
use Rattle.job_trace.specs.Words.{words, is_skipped}
use Rattle.job_trace.specs.Forms.{SpellsLine}
use Rattle.job_trace.specs.Rules.{MayFollow}

abbrev pub numbered : ℕ → TraceLine → Numbered
numbered number line = record { number = number; line = line }

-- a line is skipped, or adds what it says to the front of a trace
pub data Takes (front : List Numbered) (number : ℕ) (line : List ℕ) : List Numbered → Type 0 where
  takes_nothing : is_skipped (words line) ≡ true → Takes front number line front
  takes_line : (form : TraceLine) → is_skipped (words line) ≡ false → SpellsLine (words line) form →
      MayFollow front form →
      Takes front number line (front ++ numbered number form ∷ [])

-- the trace that the text spells: the lines that aren't skipped, each with its number, cores and rounds among them
pub record SpellsTrace (text : List ℕ) (trace : List Numbered) : Type 0 where
  pub reads : Scans Takes [] 1 (lines_of text) trace
  pub whole : 2 ≤ length trace
