-- The text of a history: a line for each entry, in the order of the entries, in the second format behind a header.
use Rattle.std.specs.Prelude.{ℕ, ◌-◌, List, [], ◌∷◌, ◌++◌, codes, decimal, map}
use Rattle.std.specs.List.{flat_map}
use Rattle.round_model.specs.declared.entry.Did.{Did}
use Rattle.round_model.specs.declared.entry.Did.TheVariants as did
use Rattle.round_model.specs.declared.entry.Entry.{Entry}
use Rattle.round_model.specs.declared.entry.Entry.TheVariants as entry
use Rattle.sched_history.specs.Lines.{EntryLine, entry_lines}
use Rattle.sched_history.specs.declared.forms.LineForm.{LineForm}
use Rattle.sched_history.specs.declared.forms.LineForm.TheVariants as form

-- a number in decimal, with one space before it
abbrev pub spaced_number : ℕ → List ℕ
spaced_number number = codes " " ++ decimal number

-- numbers one behind another, each with one space before it
unfoldable pub spaced : List ℕ → List ℕ
spaced numbers = flat_map spaced_number numbers

-- the words of a unit of work: the core, and what became of its current thread
abbrev pub words_of_work : ℕ → Did → List ℕ
words_of_work by did.Nothing = codes "work" ++ spaced (by ∷ []) ++ codes " -"
words_of_work by (did.Kept thread) = codes "work" ++ spaced (by ∷ thread ∷ []) ++ codes " keep"
words_of_work by (did.Queued thread) = codes "work" ++ spaced (by ∷ thread ∷ []) ++ codes " queue"
words_of_work by (did.Blocked thread) = codes "work" ++ spaced (by ∷ thread ∷ []) ++ codes " block"
words_of_work by (did.Ended thread) = codes "work" ++ spaced (by ∷ thread ∷ []) ++ codes " end"

-- the words of an entry before its reads, which are the same in both formats
abbrev pub head_of : Entry → List ℕ
head_of (entry.Round number) = codes "round" ++ spaced (number ∷ [])
head_of (entry.Enter thread by at reads) = codes "enter" ++ spaced (thread ∷ by ∷ at ∷ [])
head_of (entry.Wake thread by at reads) = codes "wake" ++ spaced (thread ∷ by ∷ at ∷ [])
head_of (entry.Work by what) = words_of_work by what
head_of (entry.Steal by from threads reads) = codes "steal" ++ spaced (by ∷ from ∷ threads)
head_of (entry.Fail by from reads) = codes "fail" ++ spaced (by ∷ from ∷ [])
head_of (entry.Pass by reads) = codes "pass" ++ spaced (by ∷ [])

-- the distances of positions from the start of their round: the start and a distance make the position
unfoldable pub distances : ℕ → List ℕ → List ℕ
distances start reads = map (λ position. position - start) reads

-- numbers behind a colon
abbrev pub behind_colon : List ℕ → List ℕ
behind_colon numbers = codes " :" ++ spaced numbers

-- the reads in the second format, as distances from the start; where there are none there is no colon
abbrev pub reads_from : ℕ → List ℕ → List ℕ
reads_from start [] = []
reads_from start (read ∷ reads) = behind_colon (distances start (read ∷ reads))

-- the reads behind the head of an entry, from core 0 on: one for each core that was read
abbrev pub reads_in : LineForm → List ℕ → List ℕ
reads_in form.First = behind_colon
reads_in (form.Second cores start) = reads_from start

-- the words of an entry whose reads are written so; a Round and a unit of work read nothing
abbrev pub words_with : (List ℕ → List ℕ) → Entry → List ℕ
words_with written (entry.Round number) = head_of (entry.Round number)
words_with written (entry.Enter thread by at reads) = head_of (entry.Enter thread by at reads) ++ written reads
words_with written (entry.Wake thread by at reads) = head_of (entry.Wake thread by at reads) ++ written reads
words_with written (entry.Work by what) = head_of (entry.Work by what)
words_with written (entry.Steal by from threads reads) = head_of (entry.Steal by from threads reads) ++ written reads
words_with written (entry.Fail by from reads) = head_of (entry.Fail by from reads) ++ written reads
words_with written (entry.Pass by reads) = head_of (entry.Pass by reads) ++ written reads

-- the words of an entry
abbrev pub words_in : LineForm → Entry → List ℕ
words_in f e = words_with (reads_in f) e

-- the line of an entry, with its line feed
abbrev pub line_in : LineForm → Entry → List ℕ
line_in f e = words_in f e ++ codes "\n"

-- the same in the second format, in a round that starts there. How many cores there are doesn't show
abbrev pub line_from : ℕ → Entry → List ℕ
line_from start e = words_with (reads_from start) e ++ codes "\n"

abbrev pub line_of : EntryLine → List ℕ
line_of line = line_in line.form line.entry

-- the lines of the entries, the first of which is spelled so
abbrev pub text_in : LineForm → List Entry → List ℕ
text_in f entries = flat_map line_of (entry_lines 0 f entries)

-- the form of the first line behind the header
abbrev pub second_form : ℕ → LineForm
second_form cores = form.Second cores 0

-- the first line of a text of the second format
abbrev pub header : ℕ → List ℕ
header cores = codes "history 2 cores" ++ spaced_number cores ++ codes "\n"

-- the lines of a history's text in the second format, of a machine of so many cores
abbrev pub lines_of_history : ℕ → List Entry → List (List ℕ)
lines_of_history cores entries = header cores ∷ map line_of (entry_lines 0 (second_form cores) entries)

-- that text
abbrev pub text_of_history : ℕ → List Entry → List ℕ
text_of_history cores entries = header cores ++ text_in (second_form cores) entries
