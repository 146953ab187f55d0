-- What stands in the words of a table.
use Rattle.std.specs.Prelude.{ℕ, ◌+◌, ◌/◌, ◌%◌, ◌^◌}
use mathlib.Core.Option.{Option, none, some}
use Rattle.round_model.specs.declared.state.CountAndLoad.{CountAndLoad}
use Rattle.load_words.specs.declared.packing.TheConstants.{LOAD_BITS, NR_BITS}
use Rattle.load_words.specs.Packed.{packed}

-- the highest bit of a word: what the word is about is out with a seat
abbrev pub out_mark : ℕ
out_mark = 9223372036854775808

-- the mark by the seat that has the core, if one has
abbrev pub mark_of : Option ℕ → ℕ
mark_of none = 0
mark_of (some seat) = out_mark

-- the word that says what was seen of a core at that version of its log
abbrev pub word_of : ℕ → CountAndLoad → ℕ
word_of version seen = packed version seen.nr seen.load

-- the version that a word says, marked or not
abbrev pub version_in : ℕ → ℕ
version_in word = word % out_mark / 2 ^ (LOAD_BITS + NR_BITS)

-- the thread count and the load that a word says, marked or not
abbrev pub seen_in : ℕ → CountAndLoad
seen_in word = record {
  nr = word % out_mark / 2 ^ LOAD_BITS % 2 ^ NR_BITS;
  load = word % out_mark % 2 ^ LOAD_BITS;
}
