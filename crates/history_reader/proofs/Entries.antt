-- The line of an entry: its first word and the rest, each of which no other entry has.
use Rattle.std.proofs.Common.{◌≡◌, ◌≢◌, ℕ, ◌+◌, ◌<◌, ◌^◌, List, [], ◌++◌, codes, decimal, get_or, append_assoc, ap, sym, subst, ◌∙◌, refl, arith}
use Rattle.std.proofs.lemmas.List.{append-nil}
use Rattle.std.proofs.lemmas.List.Elements.{All-append}
use Rattle.std.proofs.lemmas.Fmt.{decimal_nonempty}
use Rattle.round_model.specs.declared.entry.Did.{Did}
use Rattle.round_model.specs.declared.entry.Did.TheVariants as did
use Rattle.round_model.specs.declared.entry.Entry.{Entry}
use Rattle.round_model.specs.declared.entry.Entry.TheVariants as entry
use Rattle.sched_history.specs.declared.forms.LineForm.{LineForm}
use Rattle.sched_history.specs.declared.forms.LineForm.TheVariants as form
use Rattle.sched_history.specs.Ranges.{IsCoreNumber, IsPrintable, IsThreadNumber, NamesThread}
use Rattle.sched_history.specs.Spelling.{reads_in, spaced, spaced_number, words_in}
use Rattle.text_forms.specs.Cuts.{Lacks, StartsWith}
use Rattle.history_reader.specs.Code.Kinds.{kind_of, name_of, rest_of, rest_of_did}
use Rattle.history_reader.specs.declared.line.Kind.{Kind}
use Rattle.history_reader.specs.declared.line.Kind.TheVariants as kind
use Rattle.text_forms.proofs.Cutting.{same_cut}
use Rattle.history_reader.proofs.Digits.{decimal_lacks}
use Rattle.history_reader.proofs.Parts.{lacks_text}
use Rattle.history_reader.proofs.Threads.{threads_lack}
use Rattle.history_reader.proofs.Positions.{number_lacks}
use Rattle.history_reader.proofs.ReadsTexts.{placement_lacks, reads_lack}

-- the parts of words, however they are put together
bare : (name a : List ℕ) → name ++ (a ++ []) ≡ name ++ a
bare name a = simp (append-nil) refl

unit : (name a fate : List ℕ) → (name ++ (a ++ [])) ++ fate ≡ name ++ (a ++ fate)
unit name a fate = simp (append_assoc, append-nil) refl

unit_of : (name a b fate : List ℕ) → (name ++ (a ++ (b ++ []))) ++ fate ≡ name ++ (a ++ (b ++ fate))
unit_of name a b fate = simp (append_assoc, append-nil) refl

three : (name a b c reads : List ℕ) → (name ++ (a ++ (b ++ (c ++ [])))) ++ reads ≡ name ++ (a ++ (b ++ (c ++ reads)))
three name a b c reads = simp (append_assoc, append-nil) refl

three_and : (name a b c reads : List ℕ) → (name ++ (a ++ (b ++ c))) ++ reads ≡ name ++ (a ++ (b ++ (c ++ reads)))
three_and name a b c reads = simp (append_assoc) refl

two : (name a b reads : List ℕ) → (name ++ (a ++ (b ++ []))) ++ reads ≡ name ++ (a ++ (b ++ reads))
two name a b reads = simp (append_assoc, append-nil) refl

one : (name a reads : List ℕ) → (name ++ (a ++ [])) ++ reads ≡ name ++ (a ++ reads)
one name a reads = simp (append_assoc, append-nil) refl

-- the words of an entry are its first word and the rest
pub words_parts : (f : LineForm) (e : Entry) → words_in f e ≡ name_of (kind_of e) ++ rest_of f e
unfolding spaced
words_parts f (entry.Round number) = bare (codes "round") (spaced_number number)
words_parts f (entry.Enter thread by at reads) =
    three (codes "enter") (spaced_number thread) (spaced_number by) (spaced_number at) (reads_in f reads)
words_parts f (entry.Wake thread by at reads) =
    three (codes "wake") (spaced_number thread) (spaced_number by) (spaced_number at) (reads_in f reads)
words_parts f (entry.Work by did.Nothing) = unit (codes "work") (spaced_number by) (codes " -")
words_parts f (entry.Work by (did.Kept thread)) =
    unit_of (codes "work") (spaced_number by) (spaced_number thread) (codes " keep")
words_parts f (entry.Work by (did.Queued thread)) =
    unit_of (codes "work") (spaced_number by) (spaced_number thread) (codes " queue")
words_parts f (entry.Work by (did.Blocked thread)) =
    unit_of (codes "work") (spaced_number by) (spaced_number thread) (codes " block")
words_parts f (entry.Work by (did.Ended thread)) =
    unit_of (codes "work") (spaced_number by) (spaced_number thread) (codes " end")
words_parts f (entry.Steal by from threads reads) =
    three_and (codes "steal") (spaced_number by) (spaced_number from) (spaced threads) (reads_in f reads)
words_parts f (entry.Fail by from reads) = two (codes "fail") (spaced_number by) (spaced_number from) (reads_in f reads)
words_parts f (entry.Pass by reads) = one (codes "pass") (spaced_number by) (reads_in f reads)

-- no two kinds have the same first word
pub same_kind : (a b : Kind) → name_of a ≡ name_of b → a ≡ b
same_kind kind.Round kind.Round same = refl
same_kind kind.Enter kind.Enter same = refl
same_kind kind.Wake kind.Wake same = refl
same_kind kind.Work kind.Work same = refl
same_kind kind.Steal kind.Steal same = refl
same_kind kind.Fail kind.Fail same = refl
same_kind kind.Pass kind.Pass same = refl
same_kind a b same = absurd (omega (arith, ap (λ xs. get_or xs 0 0 + get_or xs 1 0) same))

-- neither a space nor a line feed stands in a first word
pub space_lacks : (a : Kind) → Lacks 32 (name_of a)
space_lacks kind.Round = lacks_text 32 (codes "round") refl
space_lacks kind.Enter = lacks_text 32 (codes "enter") refl
space_lacks kind.Wake = lacks_text 32 (codes "wake") refl
space_lacks kind.Work = lacks_text 32 (codes "work") refl
space_lacks kind.Steal = lacks_text 32 (codes "steal") refl
space_lacks kind.Fail = lacks_text 32 (codes "fail") refl
space_lacks kind.Pass = lacks_text 32 (codes "pass") refl

feed_lacks : (a : Kind) → Lacks 10 (name_of a)
feed_lacks kind.Round = lacks_text 10 (codes "round") refl
feed_lacks kind.Enter = lacks_text 10 (codes "enter") refl
feed_lacks kind.Wake = lacks_text 10 (codes "wake") refl
feed_lacks kind.Work = lacks_text 10 (codes "work") refl
feed_lacks kind.Steal = lacks_text 10 (codes "steal") refl
feed_lacks kind.Fail = lacks_text 10 (codes "fail") refl
feed_lacks kind.Pass = lacks_text 10 (codes "pass") refl

pub starts_rest : (f : LineForm) (e : Entry) → StartsWith 32 (rest_of f e)
starts_rest f (entry.Round number) = refl
starts_rest f e = refl

pub starts_did : (what : Did) → StartsWith 32 (rest_of_did what)
starts_did did.Nothing = refl
starts_did what = refl

-- the thread of a unit, where there is one, and its last word
abbrev pub thread_of : Did → ℕ
thread_of did.Nothing = 0
thread_of (did.Kept thread) = thread
thread_of (did.Queued thread) = thread
thread_of (did.Blocked thread) = thread
thread_of (did.Ended thread) = thread

abbrev pub fate_of : Did → List ℕ
fate_of did.Nothing = codes " -"
fate_of (did.Kept thread) = codes " keep"
fate_of (did.Queued thread) = codes " queue"
fate_of (did.Blocked thread) = codes " block"
fate_of (did.Ended thread) = codes " end"

-- a dash is no number
pub no_dash : (thread : ℕ) (more : List ℕ) → IsThreadNumber thread → StartsWith 32 more →
    codes " -" ≢ spaced_number thread ++ more
no_dash thread more is space same =
    let text : codes "-" ≡ decimal thread ++ more = cc same in
    let parts = same_cut 32 (codes "-") [] (decimal thread) more (lacks_text 32 (codes "-") refl)
    (decimal_lacks 32 thread (omega arith) (omega (arith, is.1))) tt space (append-nil (codes "-") ∙ text) in
    decimal_lacks 45 thread (omega arith) (omega (arith, is.1)) 0 0 (decimal_nonempty thread (omega (arith, is.1)))
    (sym (ap (λ xs. get_or xs 0 0) parts.0))

-- a word and what stands behind it are the first word of an entry and the rest
pub line_parts : (f : LineForm) (line word rest : List ℕ) (e : Entry) → line ≡ word ++ rest → Lacks 32 word → StartsWith 32 rest →
    line ≡ words_in f e → (word ≡ name_of (kind_of e)) × (rest ≡ rest_of f e)
line_parts f line word rest e whole lacks starts is =
    same_cut 32 word rest (name_of (kind_of e)) (rest_of f e) lacks (space_lacks (kind_of e)) starts (starts_rest f e)
    (sym whole ∙ is ∙ words_parts f e)

-- a core's number is small
pub small_core : (f : LineForm) (core : ℕ) → IsCoreNumber f core → core < 2 ^ 64
small_core form.First core is = omega (arith, is)
small_core (form.Second cores start) core is = omega (arith, is)

-- no line feed stands in the words of an entry
and_then : (front rest : List ℕ) → Lacks 10 front → Lacks 10 rest → Lacks 10 (front ++ rest)
and_then front rest one two = All-append (λ other. other ≢ 10) front rest one two

thread_lacks : (thread : ℕ) (rest : List ℕ) → IsThreadNumber thread → Lacks 10 rest →
    Lacks 10 (spaced_number thread ++ rest)
thread_lacks thread rest is lacks = and_then (spaced_number thread) rest
    (number_lacks 10 thread (omega arith) (omega (arith, is.1))) lacks

did_lacks : (what : Did) → NamesThread what → Lacks 10 (rest_of_did what)
did_lacks did.Nothing is = lacks_text 10 (codes " -") refl
did_lacks (did.Kept thread) is = thread_lacks thread _ is (lacks_text 10 (codes " keep") refl)
did_lacks (did.Queued thread) is = thread_lacks thread _ is (lacks_text 10 (codes " queue") refl)
did_lacks (did.Blocked thread) is = thread_lacks thread _ is (lacks_text 10 (codes " block") refl)
did_lacks (did.Ended thread) is = thread_lacks thread _ is (lacks_text 10 (codes " end") refl)

module _ (f : LineForm) where
  core_lacks : (core : ℕ) (rest : List ℕ) → IsCoreNumber f core → Lacks 10 rest → Lacks 10 (spaced_number core ++ rest)
  core_lacks core rest is lacks = and_then (spaced_number core) rest (number_lacks 10 core (omega arith) (small_core f core is))
      lacks

  rest_lacks : (e : Entry) → IsPrintable f e → Lacks 10 (rest_of f e)
  rest_lacks (entry.Round number) is = number_lacks 10 number (omega arith) (omega (arith, is.1))
  rest_lacks (entry.Enter thread by at reads) is =
      thread_lacks thread _ is.0 (core_lacks by _ is.1 (core_lacks at _ is.2 (placement_lacks f reads is.3)))
  rest_lacks (entry.Wake thread by at reads) is =
      thread_lacks thread _ is.0 (core_lacks by _ is.1 (core_lacks at _ is.2 (placement_lacks f reads is.3)))
  rest_lacks (entry.Work by what) is = core_lacks by _ is.0 (did_lacks what is.1)
  rest_lacks (entry.Steal by from threads reads) is =
      core_lacks by _ is.0 (core_lacks from _ is.1
      (and_then (spaced threads) (reads_in f reads) (threads_lack 10 threads (omega arith) is.2.numbers) (reads_lack f reads is.3)))
  rest_lacks (entry.Fail by from reads) is = core_lacks by _ is.0 (core_lacks from _ is.1 (reads_lack f reads is.2))
  rest_lacks (entry.Pass by reads) is = core_lacks by _ is.0 (reads_lack f reads is.1)

  pub words_lack_feed : (e : Entry) → IsPrintable f e → Lacks 10 (words_in f e)
  words_lack_feed e is = subst (Lacks 10) (sym (words_parts f e))
      (and_then (name_of (kind_of e)) (rest_of f e) (feed_lacks (kind_of e)) (rest_lacks e is))
