-- What the arguments of the process ask for.
use Rattle.std.specs.Prelude.{ℕ, List, [], drop, Option, None, Result, Ok, Err, String}
use Rattle.std.specs.Vec.Iter.{into_iter_items}
use Rattle.std.specs.declared.vec.IntoIter.{IntoIter}
use Rattle.sched_io.specs.Shown.{Shown}
use Rattle.command_words.specs.Command.{words_of}

-- the words behind the program's name; arguments that couldn't be read as texts are as no words
abbrev pub words_given : {A E : Type 0} → Result (IntoIter (String A) A) E → List (List ℕ)
words_given (Ok args) = words_of (drop 1 (into_iter_items args))
words_given (Err error) = []

-- everyone has passed the gate of the process, which is always open
abbrev pub Anyone : ℕ → ℕ → Type 0
Anyone core round = Unit {0}

-- what is told of a writer's bytes, as a sink tells it of which so many puts have failed
abbrev pub shown_by : Option (List ℕ) → ℕ → Shown
shown_by bytes failed = record { written = bytes; offered = None; faults = failed }
