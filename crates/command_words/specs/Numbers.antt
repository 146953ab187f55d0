-- The numbers among the words of a call, and the limits of words.
use Rattle.std.specs.Prelude.{◌≡◌, ℕ, ◌^◌, Bool, ◌&&◌, List, length, Option, Some, None, nat_le, nat_lt}
use Rattle.std.specs.Prelude.{option_and_then, if◌then◌else◌}
use Rattle.std.specs.Char.{is_ascii_digit}
use Rattle.std.specs.List.{list_all}
use Rattle.sched_base.specs.declared.limits.TheConstants.{MAX_THREADS, MAX_WORKERS}
use Rattle.text_forms.specs.Numbers.{number_of}
use Rattle.command_words.specs.declared.numbers.TheConstants.{MAX_WORD_DIGITS}
use Rattle.command_words.specs.declared.words.TheConstants.{MAX_WORDS}

-- the limits of words, said a second time, so that none is changed by a slip
pub record WordLimitsAreSaid : Type 0 where
  pub digits : MAX_WORD_DIGITS ≡ 20
  pub words : MAX_WORDS ≡ 4

-- digits alone, one at least and not too many; zeros may lead
abbrev pub is_decimal : List ℕ → Bool
is_decimal word = nat_lt 0 (length word) && (nat_le (length word) MAX_WORD_DIGITS && list_all is_ascii_digit word)

-- the seed that a word is: a number of 64 bits
abbrev pub seed_in : List ℕ → Option ℕ
seed_in word = if is_decimal word && nat_lt (number_of word) (2 ^ 64) then Some (number_of word) else None

-- a made trace may have so many threads
abbrev pub is_size : ℕ → Bool
is_size size = nat_le 1 size && nat_le size MAX_THREADS

-- the number of threads that a word is
abbrev pub size_in : List ℕ → Option ℕ
size_in word = option_and_then (λ size. if is_size size then Some size else None) (seed_in word)

-- a crew may have so many workers
abbrev pub is_crew : ℕ → Bool
is_crew workers = nat_le 1 workers && nat_le workers MAX_WORKERS

-- the number of workers that a word is
abbrev pub workers_in : List ℕ → Option ℕ
workers_in word = option_and_then (λ workers. if is_crew workers then Some workers else None) (seed_in word)
