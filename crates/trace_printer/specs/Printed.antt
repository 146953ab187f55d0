-- The printed text of a trace, and what it spells.
use Rattle.std.specs.Prelude.{ℕ, ◌+◌, List, [], ◌∷◌, ◌++◌, codes, decimal, map}
use Rattle.std.specs.Fmt.{signed_decimal}
use Rattle.std.specs.List.{flat_map, join_with_byte}
use Rattle.round_model.specs.declared.plan.Burst.{Burst}
use Rattle.round_model.specs.declared.plan.Ending.{Ending}
use Rattle.round_model.specs.declared.plan.Ending.TheVariants as ending
use Rattle.job_trace.specs.declared.trace.NamedConst.{NamedConst}
use Rattle.job_trace.specs.declared.trace.Numbered.{Numbered}
use Rattle.job_trace.specs.declared.trace.TraceLine.{TraceLine}
use Rattle.job_trace.specs.declared.trace.TraceLine.TheVariants.{Cores, Rounds, Entries, Core, Thread, Order}
use Rattle.job_trace.specs.Rules.{KeepsRules}
use Rattle.job_trace.specs.TraceText.{SpellsTrace, numbered}

-- the words of so many units that end so
abbrev pub words_ending : ℕ → Ending → List (List ℕ)
words_ending units ending.Yield = codes "run" ∷ decimal units ∷ codes "yield" ∷ []
words_ending units (ending.Block rounds) = codes "run" ∷ decimal units ∷ codes "block" ∷ decimal rounds ∷ []
words_ending units ending.End = codes "run" ∷ decimal units ∷ []
words_ending units ending.Forever = codes "forever" ∷ []

-- the words of a stretch of a program
abbrev pub words_of_burst : Burst → List (List ℕ)
words_of_burst b = words_ending b.units b.ending

-- the words of a constant: its name and its value
abbrev pub words_of_const : NamedConst → List (List ℕ)
words_of_const given = given.name ∷ signed_decimal given.value ∷ []

-- the words of a line
abbrev pub words_of_line : TraceLine → List (List ℕ)
words_of_line (Cores number) = codes "cores" ∷ decimal number ∷ []
words_of_line (Rounds number) = codes "rounds" ∷ decimal number ∷ []
words_of_line (Entries number) = codes "entries" ∷ decimal number ∷ []
words_of_line (Core given) = codes "core" ∷ decimal given.core ∷ flat_map words_of_const given.consts
words_of_line (Thread thread) =
    codes "thread" ∷ decimal thread.id ∷ codes "core" ∷ decimal thread.core ∷ codes "round" ∷ decimal thread.round
    ∷ codes "weight" ∷ decimal thread.weight ∷ flat_map words_of_burst thread.bursts
words_of_line (Order order) = codes "order" ∷ decimal order.round ∷ map decimal order.cores

-- a line: one space between its words, and a line feed at its end
abbrev pub line_text : TraceLine → List ℕ
line_text line = join_with_byte 32 (words_of_line line) ++ 10 ∷ []

abbrev pub numbered_text : Numbered → List ℕ
numbered_text n = line_text n.line

-- the text of a trace: its lines in their order
abbrev pub trace_text : List Numbered → List ℕ
trace_text trace = flat_map numbered_text trace

-- the same lines, numbered from that number on
abbrev pub renumbered : ℕ → List Numbered → List Numbered
renumbered number [] = []
renumbered number (n ∷ rest) = numbered number n.line ∷ renumbered (number + 1) rest

-- the text of a trace spells it again, but for the numbers of its lines
abbrev pub IsReadAgain : Type 0
IsReadAgain = (trace : List Numbered) → KeepsRules trace → SpellsTrace (trace_text trace) (renumbered 1 trace)
