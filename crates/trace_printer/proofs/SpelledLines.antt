-- The printed words of a line spell it.
use Rattle.std.proofs.Common.{◌≡◌, ℕ, List, [], ◌∷◌, map, decimal, codes, refl, true, false, ◌&&◌}
use Rattle.std.specs.Fmt.{signed_decimal}
use Rattle.std.specs.List.{AllByRecursion, flat_map, list_all}
use Rattle.round_model.specs.declared.plan.Burst.{Burst}
use Rattle.text_forms.specs.Lines.{has_byte}
use Rattle.job_trace.specs.declared.trace.NamedConst.{NamedConst}
use Rattle.job_trace.specs.declared.trace.TraceLine.{TraceLine}
use Rattle.job_trace.specs.declared.trace.TraceLine.TheVariants.{Cores, Rounds, Entries, Core, Thread, Order}
use Rattle.job_trace.specs.Words.{is_skipped}
use Rattle.job_trace.specs.Forms.{SpellsConsts, SpellsLine, SpellsNumbers, SpellsProgram, SpellsWeight, next_const, no_const, no_weight, some_weight, no_number, next_number, run_block, run_end, run_forever, run_yield, cores_line, rounds_line, entries_line, core_line, thread_line, order_line}
use Rattle.trace_printer.specs.Printed.{words_of_burst, words_of_const, words_of_line}
use Rattle.trace_printer.proofs.WordLemmas.{IsWord, and-left, and-right, is_ink, name-word}
use Rattle.trace_printer.proofs.NumberLemmas.{IsSpelt, decimal-word, number-read, one-spelt, signed-read, signed-spelt, signed-word, spelt}

-- the words are words, and this holds of them
pub record Spells (ws : List (List ℕ)) (P : Type 0) : Type 0 where
  pub words : AllByRecursion IsWord ws
  pub is : P

-- a word that computes
keyword : (word : List ℕ) → (has_byte word && list_all is_ink word) ≡ true → IsWord word
keyword word e = record { some = and-left _ _ e; plain = and-right _ _ e }

program : (line : List (List ℕ)) (bursts : List Burst) → SpellsProgram line bursts →
    Spells (flat_map words_of_burst bursts) (SpellsProgram (flat_map words_of_burst bursts) bursts)
program line bursts (run_end n {units = units} s) =
    let few = spelt n units s in
    record {
      words = (keyword (codes "run") refl, (decimal-word units few, tt));
      is = run_end (decimal units) (number-read units few);
    }
program line bursts run_forever = record { words = (keyword (codes "forever") refl, tt); is = run_forever }
program line bursts (run_yield n {units = units} rest {bursts = more} s later) =
    let few = spelt n units s in
    let tail = program rest more later in
    record {
      words = (keyword (codes "run") refl, (decimal-word units few, (keyword (codes "yield") refl, tail.words)));
      is = run_yield (decimal units) (flat_map words_of_burst more) (number-read units few) tail.is;
    }
program line bursts (run_block n k {units = units} {rounds = rounds} rest {bursts = more} s t later) =
    let few = spelt n units s in
    let short = spelt k rounds t in
    let tail = program rest more later in
    record {
      words = (
        keyword (codes "run") refl,
        (
          decimal-word units few,
          (keyword (codes "block") refl, (decimal-word rounds short, tail.words)),
        ),
      );
      is = run_block (decimal units) (decimal rounds) (flat_map words_of_burst more) (number-read units few)
          (number-read rounds short) tail.is;
    }

consts : (line : List (List ℕ)) (given : List NamedConst) → SpellsConsts line given →
    Spells (flat_map words_of_const given) (SpellsConsts (flat_map words_of_const given) given)
consts line given no_const = record { words = tt; is = no_const }
consts line given (next_const name v rest {value = value} {consts = more} named s later) =
    let few = signed-spelt v value s in
    let tail = consts rest more later in
    record {
      words = (name-word name named, (signed-word value few, tail.words));
      is = next_const name (signed_decimal value) (flat_map words_of_const more) named (signed-read value few) tail.is;
    }

numbers : (line : List (List ℕ)) (ns : List ℕ) → SpellsNumbers line ns →
    Spells (map decimal ns) (SpellsNumbers (map decimal ns) ns)
numbers line ns no_number = record { words = tt; is = no_number }
numbers line ns (next_number n rest {number = number} {numbers = more} s later) =
    let few = spelt n number s in
    let tail = numbers rest more later in
    record {
      words = (decimal-word number few, tail.words);
      is = next_number (decimal number) (map decimal more) (number-read number few) tail.is;
    }

weight-spelt : (line : List (List ℕ)) (weight : ℕ) → SpellsWeight line weight → IsSpelt weight
weight-spelt line weight no_weight = one-spelt
weight-spelt line weight (some_weight w s) = spelt w weight s

-- there is an item
abbrev IsSome : {X : Type 0} → List X → Type 0
IsSome [] = ⊥
IsSome (x ∷ xs) = Unit {0}

some-consts : (line : List (List ℕ)) (given : List NamedConst) → SpellsConsts line given → IsSome line → IsSome given
some-consts line given no_const some = some
some-consts line given (next_const name v rest named s later) some = tt

some-numbers : (line : List (List ℕ)) (ns : List ℕ) → SpellsNumbers line ns → IsSome line → IsSome ns
some-numbers line ns no_number some = some
some-numbers line ns (next_number n rest s later) some = tt

-- the printed words of a line are words, and spell it
abbrev pub IsSpelled : TraceLine → Type 0
IsSpelled line = Spells (words_of_line line) (SpellsLine (words_of_line line) line)

core-spelled : (core : ℕ) → IsSpelt core → (given : List NamedConst) → IsSome given →
    Spells (flat_map words_of_const given) (SpellsConsts (flat_map words_of_const given) given) →
    IsSpelled (Core (record { core = core; consts = given }))
core-spelled core few [] some tail = absurd some
core-spelled core few (g ∷ given) some tail = record {
  words = (keyword (codes "core") refl, (decimal-word core few, tail.words));
  is = core_line (decimal core) g.name (signed_decimal g.value ∷ flat_map words_of_const given)
      (number-read core few) tail.is;
}

order-spelled : (round : ℕ) → IsSpelt round → (ns : List ℕ) → IsSome ns →
    Spells (map decimal ns) (SpellsNumbers (map decimal ns) ns) →
    IsSpelled (Order (record { round = round; cores = ns }))
order-spelled round few [] some tail = absurd some
order-spelled round few (n ∷ ns) some tail = record {
  words = (keyword (codes "order") refl, (decimal-word round few, tail.words));
  is = order_line (decimal round) (decimal n) (map decimal ns) (number-read round few) tail.is;
}

pub line-spelled : (ws : List (List ℕ)) (line : TraceLine) → SpellsLine ws line → IsSpelled line
line-spelled ws line (cores_line n {number = number} s) =
    let few = spelt n number s in
    record {
      words = (keyword (codes "cores") refl, (decimal-word number few, tt));
      is = cores_line (decimal number) (number-read number few);
    }
line-spelled ws line (rounds_line n {number = number} s) =
    let few = spelt n number s in
    record {
      words = (keyword (codes "rounds") refl, (decimal-word number few, tt));
      is = rounds_line (decimal number) (number-read number few);
    }
line-spelled ws line (entries_line n {number = number} s) =
    let few = spelt n number s in
    record {
      words = (keyword (codes "entries") refl, (decimal-word number few, tt));
      is = entries_line (decimal number) (number-read number few);
    }
line-spelled ws line (core_line c first rest {core = core} {consts = given} s each) =
    core-spelled core (spelt c core s) given (some-consts (first ∷ rest) given each tt)
    (consts (first ∷ rest) given each)
line-spelled ws line
    (thread_line t c r weighing words {id = id} {core = core} {round = round} {weight = weight} {bursts = bursts}
    ts cs rs wts ps) =
    let few = spelt t id ts in
    let at = spelt c core cs in
    let begins = spelt r round rs in
    let weighs = weight-spelt weighing weight wts in
    let tail = program words bursts ps in
    record {
      words = (
        keyword (codes "thread") refl,
        (
          decimal-word id few,
          (
            keyword (codes "core") refl,
            (
              decimal-word core at,
              (
                keyword (codes "round") refl,
                (
                  decimal-word round begins,
                  (keyword (codes "weight") refl, (decimal-word weight weighs, tail.words)),
                ),
              ),
            ),
          ),
        ),
      );
      is = thread_line (decimal id) (decimal core) (decimal round) (codes "weight" ∷ decimal weight ∷ [])
          (flat_map words_of_burst bursts) (number-read id few) (number-read core at) (number-read round begins)
          (some_weight (decimal weight) (number-read weight weighs)) tail.is;
    }
line-spelled ws line (order_line r first rest {round = round} {cores = ns} s each) =
    order-spelled round (spelt r round s) ns (some-numbers (first ∷ rest) ns each tt) (numbers (first ∷ rest) ns each)

-- no line is a comment
pub not-skipped : (line : TraceLine) → is_skipped (words_of_line line) ≡ false
not-skipped (Cores number) = refl
not-skipped (Rounds number) = refl
not-skipped (Entries number) = refl
not-skipped (Core given) = refl
not-skipped (Thread thread) = refl
not-skipped (Order order) = refl
