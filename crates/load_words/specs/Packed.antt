-- What a load word is.
use Rattle.std.specs.Prelude.{◌≡◌, ℕ, ◌+◌, ◌*◌, ◌^◌, ◌<◌}
use Rattle.load_words.specs.declared.packing.LoadWord.{LoadWord}
use Rattle.load_words.specs.declared.packing.TheConstants.{LOAD_BITS, NR_BITS}

-- the word of a version, a number of threads and a load
abbrev pub packed : (version nr load : ℕ) → ℕ
packed version nr load = version * 2 ^ (LOAD_BITS + NR_BITS) + nr * 2 ^ LOAD_BITS + load

-- a number of threads and a load each fit their part of a word
pub record FitsWord (said : LoadWord) : Type 0 where
  pub nr : said.nr < 2 ^ NR_BITS
  pub load : said.load < 2 ^ LOAD_BITS

-- the word was made of these three numbers, and of no others that fit
pub record IsGivenBack (word : ℕ) (found : LoadWord) : Type 0 where
  pub fits : FitsWord found
  pub same : (said : LoadWord) → FitsWord said → packed said.version said.nr said.load ≡ word → found ≡ said
