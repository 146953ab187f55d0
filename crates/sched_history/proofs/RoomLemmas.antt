-- How long the words of an entry are whose numbers are in their ranges.
use Rattle.std.proofs.Common.{◌≡◌, inl, inr, ℕ, ◌+◌, ◌-◌, ◌*◌, ◌<◌, ◌≤◌, List, [], ◌∷◌, ◌++◌, All, length, arith, append-nil, length-append, refl, sym}
use Rattle.std.specs.Prelude.{codes}
use Rattle.std.proofs.lemmas.Fmt.{length-decimal-le}
use Rattle.std.proofs.lemmas.List.Elements.{All-head, All-nil, All-tail}
use Rattle.sched_base.specs.declared.limits.TheConstants.{MAX_CORES, MAX_ENTRIES}
use Rattle.round_model.specs.declared.entry.Did.{Did}
use Rattle.round_model.specs.declared.entry.Did.TheVariants as did
use Rattle.round_model.specs.declared.entry.Entry.{Entry}
use Rattle.round_model.specs.declared.entry.Entry.TheVariants as entry
use Rattle.round_model.specs.Entries.{reads_of}
use Rattle.sched_history.specs.declared.forms.LineForm.TheVariants as form
use Rattle.sched_history.specs.Ranges.{AreOneEach, ArePlacementReads, AreStolen, IsCoreCount, IsPositionFrom, IsPrintable, IsRoundNumber, IsThreadNumber, NamesThread}
use Rattle.sched_history.specs.Spelling.{distances, head_of, reads_from, spaced, spaced_number, words_of_work, words_with}

-- one number behind a space, and more
length-spaced-cons : (n : ℕ) (rest : List ℕ) → length (spaced (n ∷ rest)) ≡ length (spaced_number n) + length (spaced rest)
unfolding spaced
length-spaced-cons n rest = length-append (spaced_number n) (spaced rest)

length-spaced-nil : length (spaced []) ≡ 0
unfolding spaced
length-spaced-nil = refl

length-spaced-one : (a : ℕ) → length (spaced (a ∷ [])) ≡ length (spaced_number a)
length-spaced-one a = let one = length-spaced-cons a [] in omega (arith, one, length-spaced-nil)

length-spaced-two : (a b : ℕ) → length (spaced (a ∷ b ∷ [])) ≡ length (spaced_number a) + length (spaced_number b)
length-spaced-two a b = let two = length-spaced-cons a (b ∷ []) in omega (arith, two, length-spaced-one b)

length-spaced-three : (a b c : ℕ) → length (spaced (a ∷ b ∷ c ∷ [])) ≡ length (spaced_number a) + length (spaced_number b) + length (spaced_number c)
length-spaced-three a b c = let three = length-spaced-cons a (b ∷ c ∷ []) in omega (arith, three, length-spaced-two b c)

-- what a number takes with its space
round-length : (number : ℕ) → IsRoundNumber number → length (spaced_number number) ≤ 5
round-length number is = let digits = length-decimal-le 4 number (omega arith) (omega (arith, is.1)) (omega (arith, is.1)) in omega (arith, digits)

core-length : (core : ℕ) → core < MAX_CORES → length (spaced_number core) ≤ 3
core-length core is = let digits = length-decimal-le 2 core (omega arith) (omega arith) (omega arith) in omega (arith, digits)

pub count-length : (cores : ℕ) → IsCoreCount cores → length (spaced_number cores) ≤ 3
count-length cores is = let digits = length-decimal-le 2 cores (omega arith) (omega (arith, is.1)) (omega (arith, is.1)) in omega (arith, digits)

thread-length : (thread : ℕ) → IsThreadNumber thread → length (spaced_number thread) ≤ 5
thread-length thread is = let digits = length-decimal-le 4 thread (omega arith) (omega (arith, is.1)) (omega (arith, is.1)) in omega (arith, digits)

distance-length : (position : ℕ) → position ≤ MAX_ENTRIES → length (spaced_number position) ≤ 6
distance-length position is = let digits = length-decimal-le 5 position (omega arith) (omega arith) (omega arith) in omega (arith, digits)

-- six bytes a distance, and so 384 for the most of them
distances-length : (start : ℕ) (reads : List ℕ) → All (IsPositionFrom start) reads → length (spaced (distances start reads)) ≤ 6 * length reads
unfolding distances
distances-length start [] is = omega (arith, length-spaced-nil)
distances-length start (read ∷ reads) is =
    let one = (All-head (IsPositionFrom start) read reads is).1 in
    let first = distance-length (read - start) (omega (arith, one)) in
    let rest = distances-length start reads (All-tail (IsPositionFrom start) read reads is) in
    omega (arith, first, rest, length-spaced-cons (read - start) (distances start reads))

-- five bytes a thread, and so 40 for the most of them
numbers-length : (threads : List ℕ) → All IsThreadNumber threads → length (spaced threads) ≤ 5 * length threads
numbers-length [] is = omega (arith, length-spaced-nil)
numbers-length (thread ∷ threads) is =
    let first = thread-length thread (All-head IsThreadNumber thread threads is) in
    let rest = numbers-length threads (All-tail IsThreadNumber thread threads is) in
    omega (arith, first, rest, length-spaced-cons thread threads)

threads-length : (threads : List ℕ) → AreStolen threads → length (spaced threads) ≤ 40
threads-length threads are = let each = numbers-length threads are.numbers in omega (arith, each, are.few)

-- the reads with their colon
none-length : (start : ℕ) → length (reads_from start []) ≡ 0
none-length start = refl

each-length : (cores start : ℕ) (reads : List ℕ) → AreOneEach cores start reads → length (reads_from start reads) ≤ 386
each-length cores start [] are = omega (arith, none-length start)
each-length cores start (read ∷ reads) are =
    let each = distances-length start (read ∷ reads) are.positions in
    let all = length-append (codes " :") (spaced (distances start (read ∷ reads))) in
    omega (arith, each, all, are.one_each, are.count.1)

placement-length : (cores start : ℕ) (reads : List ℕ) → ArePlacementReads (form.Second cores start) reads → length (reads_from start reads) ≤ 386
placement-length cores start reads (inl none) = rw none (omega (arith, none-length start))
placement-length cores start reads (inr are) = each-length cores start reads are

none_behind : (start : ℕ) → All (λ position. start ≤ position) []
none_behind start = All-nil (λ position. start ≤ position)

each_behind : (cores start : ℕ) (reads : List ℕ) → AreOneEach cores start reads → All (λ position. start ≤ position) reads
each_behind cores start reads are = λ k d inside. (are.positions k d inside).0

placed_behind : (cores start : ℕ) (reads : List ℕ) → ArePlacementReads (form.Second cores start) reads → All (λ position. start ≤ position) reads
placed_behind cores start reads (inl none) = rw none (none_behind start)
placed_behind cores start reads (inr are) = each_behind cores start reads are

pub reads-length : (cores start : ℕ) (e : Entry) → IsPrintable (form.Second cores start) e → length (reads_from start (reads_of e)) ≤ 386
reads-length cores start (entry.Round number) is = omega (arith, none-length start)
reads-length cores start (entry.Enter thread by at reads) is = placement-length cores start reads is.3
reads-length cores start (entry.Wake thread by at reads) is = placement-length cores start reads is.3
reads-length cores start (entry.Work by what) is = omega (arith, none-length start)
reads-length cores start (entry.Steal by from threads reads) is = each-length cores start reads is.3
reads-length cores start (entry.Fail by from reads) is = each-length cores start reads is.2
reads-length cores start (entry.Pass by reads) is = each-length cores start reads is.1

-- the core's number, the thread's and the last word
work-length : (by thread : ℕ) (last : List ℕ) → by < MAX_CORES → IsThreadNumber thread → length last ≤ 6 →
    length (codes "work" ++ spaced (by ∷ thread ∷ []) ++ last) ≤ 18
work-length by thread last core is short =
    let all = length-append (codes "work" ++ spaced (by ∷ thread ∷ [])) last in
    omega (arith, all, short, length-spaced-two by thread, core-length by core, thread-length thread is)

-- any unit of work
unit-length : (by : ℕ) (what : Did) → by < MAX_CORES × NamesThread what → length (words_of_work by what) ≤ 18
unit-length by did.Nothing is =
    let all = length-append (spaced (by ∷ [])) (codes " -") in omega (arith, all, length-spaced-one by, core-length by is.0)
unit-length by (did.Kept thread) is = work-length by thread (codes " keep") is.0 is.1 (omega arith)
unit-length by (did.Queued thread) is = work-length by thread (codes " queue") is.0 is.1 (omega arith)
unit-length by (did.Blocked thread) is = work-length by thread (codes " block") is.0 is.1 (omega arith)
unit-length by (did.Ended thread) is = work-length by thread (codes " end") is.0 is.1 (omega arith)

-- the longest head is that of a steal of all threads that one may move
pub length-head_of : (cores start : ℕ) (e : Entry) → IsPrintable (form.Second cores start) e → length (head_of e) ≤ 51
length-head_of cores start (entry.Round number) is =
    let all = length-append (codes "round") (spaced (number ∷ [])) in omega (arith, all, length-spaced-one number, round-length number is)
length-head_of cores start (entry.Enter thread by at reads) is =
    let all = length-append (codes "enter") (spaced (thread ∷ by ∷ at ∷ [])) in
    omega (arith, all, length-spaced-three thread by at, thread-length thread is.0, core-length by is.1, core-length at is.2)
length-head_of cores start (entry.Wake thread by at reads) is =
    let all = length-append (codes "wake") (spaced (thread ∷ by ∷ at ∷ [])) in
    omega (arith, all, length-spaced-three thread by at, thread-length thread is.0, core-length by is.1, core-length at is.2)
length-head_of cores start (entry.Work by what) is = let words = unit-length by what is in omega (arith, words)
length-head_of cores start (entry.Steal by from threads reads) is =
    let all = length-append (codes "steal") (spaced (by ∷ from ∷ threads)) in
    omega (
      arith,
      all,
      length-spaced-cons by (from ∷ threads),
      length-spaced-cons from threads,
      core-length by is.0,
      core-length from is.1,
      threads-length threads is.2,
    )
length-head_of cores start (entry.Fail by from reads) is =
    let all = length-append (codes "fail") (spaced (by ∷ from ∷ [])) in
    omega (arith, all, length-spaced-two by from, core-length by is.0, core-length from is.1)
length-head_of cores start (entry.Pass by reads) is =
    let all = length-append (codes "pass") (spaced (by ∷ [])) in omega (arith, all, length-spaced-one by, core-length by is.0)

-- the words in the second format are the head and the reads
pub words_parts : (start : ℕ) (e : Entry) → words_with (reads_from start) e ≡ head_of e ++ reads_from start (reads_of e)
words_parts start (entry.Round number) = sym (append-nil (head_of (entry.Round number)))
words_parts start (entry.Enter thread by at reads) = refl
words_parts start (entry.Wake thread by at reads) = refl
words_parts start (entry.Work by what) = sym (append-nil (head_of (entry.Work by what)))
words_parts start (entry.Steal by from threads reads) = refl
words_parts start (entry.Fail by from reads) = refl
words_parts start (entry.Pass by reads) = refl

-- no read stands before the start
pub reads_behind : (cores start : ℕ) (e : Entry) → IsPrintable (form.Second cores start) e → All (λ position. start ≤ position) (reads_of e)
reads_behind cores start (entry.Round number) is = none_behind start
reads_behind cores start (entry.Enter thread by at reads) is = placed_behind cores start reads is.3
reads_behind cores start (entry.Wake thread by at reads) is = placed_behind cores start reads is.3
reads_behind cores start (entry.Work by what) is = none_behind start
reads_behind cores start (entry.Steal by from threads reads) is = each_behind cores start reads is.3
reads_behind cores start (entry.Fail by from reads) is = each_behind cores start reads is.2
reads_behind cores start (entry.Pass by reads) is = each_behind cores start reads is.1
