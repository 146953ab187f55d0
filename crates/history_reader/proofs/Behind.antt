-- What stands behind a number, and so what a kind's reader has to refuse.
use Rattle.std.proofs.Common.{◌≡◌, ◌≢◌, ℕ, ◌<◌, Option, None, Some, List, [], ◌∷◌, ◌++◌, MatchOption, codes, length, append_assoc, ap, ap₂, sym, ◌∙◌, refl, arith}
use Rattle.std.proofs.lemmas.List.{append-nil}
use Rattle.round_model.specs.declared.entry.Did.{Did}
use Rattle.round_model.specs.declared.entry.Did.TheVariants as did
use Rattle.round_model.specs.declared.entry.Entry.{Entry}
use Rattle.round_model.specs.declared.entry.Entry.TheVariants as entry
use Rattle.sched_history.specs.declared.forms.LineForm.{LineForm}
use Rattle.sched_history.specs.Ranges.{ArePlacementReads, AreReads, IsCoreNumber, IsRoundNumber, IsThreadNumber}
use Rattle.sched_history.specs.Spelling.{reads_in, spaced, spaced_number, words_in}
use Rattle.text_forms.specs.Cuts.{IsCut, Lacks, StartsWith}
use Rattle.history_reader.specs.Code.Kinds.{IsLineOf, IsLineOfNone, IsNoRestOf, IsRest, IsRestOf, IsRestOfDid, kind_of, name_of}
use Rattle.history_reader.specs.Code.Numbers.{BeginsWithNoNumber, BeginsWithNumber, BeginsWithThreads}
use Rattle.history_reader.specs.Reading.{BeginsWith}
use Rattle.history_reader.specs.declared.line.Kind.{Kind}
use Rattle.history_reader.specs.declared.line.Kind.TheVariants as kind
use Rattle.text_forms.proofs.Cutting.{same_cut}
use Rattle.history_reader.proofs.Entries.{line_parts, no_dash, same_kind, small_core, starts_did, words_lack_feed, words_parts}
use Rattle.history_reader.proofs.Parts.{same_number}
use Rattle.history_reader.proofs.ReadsTexts.{reads_no_thread, starts_reads}
use Rattle.history_reader.proofs.Threads.{starts_behind}

-- behind the number of a core, of a thread and of a round
pub after_core : (f : LineForm) (text rest : List ℕ) (core : ℕ) (more : List ℕ) (other : ℕ) →
    BeginsWithNumber (IsCoreNumber f) text core rest → IsCoreNumber f other → StartsWith 32 more →
    text ≡ spaced_number other ++ more → rest ≡ more
after_core f text rest core more other begins is space same =
    (same_number core other rest more (small_core f core begins.right) (small_core f other is) begins.space space
    (sym begins.text_is ∙ same)).1

pub after_thread : (text rest : List ℕ) (thread : ℕ) (more : List ℕ) (other : ℕ) →
    BeginsWithNumber IsThreadNumber text thread rest → IsThreadNumber other → StartsWith 32 more →
    text ≡ spaced_number other ++ more → rest ≡ more
after_thread text rest thread more other begins is space same =
    (same_number thread other rest more (omega (arith, begins.right.1)) (omega (arith, is.1)) begins.space space
    (sym begins.text_is ∙ same)).1

-- a round
pub no_round : (f : LineForm) (text : List ℕ) → BeginsWithNoNumber IsRoundNumber text → IsNoRestOf f kind.Round text
no_round f text none (entry.Round number) is =
    let whole = is.is_rest.1 ∙ sym (append-nil (spaced_number number)) in
    none number [] (record { right = is.is_rest.0; text_is = whole; space = tt })
no_round f text none e is = absurd (cc (is.same_kind))

pub more_behind : (f : LineForm) (text rest : List ℕ) (found : ℕ) → BeginsWithNumber IsRoundNumber text found rest → 0 < length rest →
    IsNoRestOf f kind.Round text
more_behind f text rest found begins some (entry.Round number) is =
    let whole = sym begins.text_is ∙ is.is_rest.1 ∙ sym (append-nil (spaced_number number)) in
    let nothing = (same_number found number rest [] (omega (arith, begins.right.1)) (omega (arith, is.is_rest.0.1))
    begins.space tt whole).1 in
    omega (arith, some, ap length nothing)
more_behind f text rest found begins some e is = absurd (cc (is.same_kind))

-- a steal
pub no_from : (f : LineForm) (text rest : List ℕ) (by : ℕ) → BeginsWithNumber (IsCoreNumber f) text by rest →
    BeginsWithNoNumber (IsCoreNumber f) rest → IsNoRestOf f kind.Steal text
no_from f text rest by begins none (entry.Steal core from threads reads) is =
    let (printable, whole) = is.is_rest in
    none from (spaced threads ++ reads_in f reads) (record {
      right = printable.1;
      text_is = after_core f text rest by _ core begins printable.0 refl whole;
      space = starts_behind threads (reads_in f reads) (starts_reads f reads);
    })
no_from f text rest by begins none e is = absurd (cc (is.same_kind))

-- the threads behind the two cores of a steal, and its reads
threads_behind : (f : LineForm) (text behind rest last : List ℕ) (by from core other : ℕ) (read threads reads : List ℕ) → BeginsWithNumber (IsCoreNumber f) text by behind →
    BeginsWithNumber (IsCoreNumber f) behind from rest → BeginsWithThreads rest read last → IsRest f text (entry.Steal core other threads reads)
    → (threads ≡ read) × (last ≡ reads_in f reads)
threads_behind f text behind rest last by from core other read threads reads begins then found is =
    let (printable, whole) = is in
    let second = after_core f text behind by _ core begins printable.0 refl whole in
    let after = after_core f behind rest from _ other then printable.1 (starts_behind threads (reads_in f reads) (starts_reads f reads)) second in
    found.only threads (reads_in f reads) printable.2 (starts_reads f reads) (reads_no_thread f reads) after

pub no_threads : (f : LineForm) (text behind rest last : List ℕ) (by from : ℕ) (read : List ℕ) → BeginsWithNumber (IsCoreNumber f) text by behind →
    BeginsWithNumber (IsCoreNumber f) behind from rest → BeginsWithThreads rest read last → read ≡ [] → IsNoRestOf f kind.Steal text
no_threads f text behind rest last by from read begins then found nothing (entry.Steal core other threads reads) is =
    let same = threads_behind f text behind rest last by from core other read threads reads begins then found is.is_rest in
    let some = is.is_rest.0.2.some in
    absurd (omega (arith, some, ap length (same.0 ∙ nothing)))
no_threads f text behind rest last by from read begins then found nothing e is = absurd (cc (is.same_kind))

pub no_reads : (f : LineForm) (text behind rest last : List ℕ) (by from : ℕ) (read : List ℕ) → BeginsWithNumber (IsCoreNumber f) text by behind →
    BeginsWithNumber (IsCoreNumber f) behind from rest → BeginsWithThreads rest read last
    → ((reads : List ℕ) → AreReads f reads → last ≢ reads_in f reads) → IsNoRestOf f kind.Steal text
no_reads f text behind rest last by from read begins then found none (entry.Steal core other threads reads) is =
    let same = threads_behind f text behind rest last by from core other read threads reads begins then found is.is_rest in
    none reads is.is_rest.0.3 same.1
no_reads f text behind rest last by from read begins then found none e is = absurd (cc (is.same_kind))

-- a thread that was placed: what stands behind its number and behind each core's
module _ (f : LineForm) (text behind : List ℕ) (thread : ℕ) (begins : BeginsWithNumber IsThreadNumber text thread behind) where
  other_by : (t b a : ℕ) (r : List ℕ) → IsRest f text (entry.Enter t b a r) → behind ≡ spaced_number b ++ (spaced_number a ++ reads_in f r)
  other_by t b a r is = after_thread text behind thread _ t begins is.0.0 refl is.1

  pub no_placed_by : BeginsWithNoNumber (IsCoreNumber f) behind → (t b a : ℕ) (r : List ℕ) → IsRest f text (entry.Enter t b a r) → ⊥
  no_placed_by none t b a r is =
      none b (spaced_number a ++ reads_in f r) (record { right = is.0.1; text_is = other_by t b a r is; space = refl })

  module _ (rest : List ℕ) (by : ℕ) (then : BeginsWithNumber (IsCoreNumber f) behind by rest) where
    other_at : (t b a : ℕ) (r : List ℕ) → IsRest f text (entry.Enter t b a r) → rest ≡ spaced_number a ++ reads_in f r
    other_at t b a r is = after_core f behind rest by _ b then is.0.1 refl (other_by t b a r is)

    pub no_placed_at : BeginsWithNoNumber (IsCoreNumber f) rest → (t b a : ℕ) (r : List ℕ) → IsRest f text (entry.Enter t b a r) → ⊥
    no_placed_at none t b a r is =
        none a (reads_in f r) (record { right = is.0.2; text_is = other_at t b a r is; space = starts_reads f r })

    pub no_placement : (last : List ℕ) (at : ℕ) → BeginsWithNumber (IsCoreNumber f) rest at last
        → ((r : List ℕ) → ArePlacementReads f r → last ≢ reads_in f r) → (t b a : ℕ) (r : List ℕ) → IsRest f text (entry.Enter t b a r) → ⊥
    no_placement last at found none t b a r is =
        none r is.0.3 (after_core f rest last at _ a found is.0.2 (starts_reads f r) (other_at t b a r is))

-- a unit of work
pub no_did : (f : LineForm) (text rest : List ℕ) (by : ℕ) → BeginsWithNumber (IsCoreNumber f) text by rest →
    ((what : Did) → IsRestOfDid rest what → ⊥) → IsNoRestOf f kind.Work text
no_did f text rest by begins none (entry.Work core what) is =
    let (printable, whole) = is.is_rest in
    none what (printable.1, after_core f text rest by _ core begins printable.0 (starts_did what) whole)
no_did f text rest by begins none e is = absurd (cc (is.same_kind))

-- the thread's last word is none of the four
after_fate : (thread other : ℕ) (text fate : List ℕ) → IsThreadNumber thread → IsThreadNumber other →
    StartsWith 32 text → StartsWith 32 fate → spaced_number thread ++ text ≡ spaced_number other ++ fate → text ≡ fate
after_fate thread other text fate is named space starts same =
    (same_number thread other text fate (omega (arith, is.1)) (omega (arith, named.1)) space starts same).1

pub no_fate : (thread : ℕ) (text : List ℕ) → IsThreadNumber thread → StartsWith 32 text → text ≢ codes " keep" →
    text ≢ codes " queue" → text ≢ codes " block" → text ≢ codes " end"
    → (what : Did) → IsRestOfDid (spaced_number thread ++ text) what → ⊥
no_fate thread text is space keep queue block end did.Nothing (named, same) = no_dash thread text is space (sym same)
no_fate thread text is space keep queue block end (did.Kept other) (named, same) =
    keep (after_fate thread other text (codes " keep") is named space refl same)
no_fate thread text is space keep queue block end (did.Queued other) (named, same) =
    queue (after_fate thread other text (codes " queue") is named space refl same)
no_fate thread text is space keep queue block end (did.Blocked other) (named, same) =
    block (after_fate thread other text (codes " block") is named space refl same)
no_fate thread text is space keep queue block end (did.Ended other) (named, same) =
    end (same_number thread other text (codes " end") (omega (arith, is.1)) (omega (arith, named.1)) space refl same).1

-- a line is that of an entry just where its rest is
pub by_rest : (f : LineForm) (line word rest : List ℕ) (which : Kind) (result : Option Entry) → line ≡ word ++ rest → Lacks 32 word →
    StartsWith 32 rest → word ≡ name_of which
    → MatchOption result (IsNoRestOf f which rest) (λ e. IsRestOf f which rest e) →
    MatchOption result (IsLineOfNone f line) (λ e. IsLineOf f line e)
by_rest f line word rest which None whole lacks starts named none = λ e is.
    let parts = line_parts f line word rest e whole lacks starts is.1 in
    none e (record { same_kind = same_kind (kind_of e) which (sym parts.0 ∙ named); is_rest = (is.0, parts.1) })
by_rest f line word rest which (Some e) whole lacks starts named is =
    let first : word ≡ name_of (kind_of e) = named ∙ ap name_of (sym is.same_kind) in
    (is.is_rest.0, whole ∙ ap₂ (λ front behind. front ++ behind) first is.is_rest.1 ∙ sym (words_parts f e))

-- the line that a text begins with is that of no entry
pub no_line : (f : LineForm) (text line behind : List ℕ) → IsCut 10 text line behind → IsLineOfNone f line →
    (e : Entry) (more : List ℕ) → BeginsWith f text e more → ⊥
no_line f text line behind cut none e more (printable, is) =
    let whole = sym cut.whole ∙ is ∙ append_assoc (words_in f e) (codes "\n") more in
    let parts = same_cut 10 line (10 ∷ behind) (words_in f e) (10 ∷ more) cut.first (words_lack_feed f e printable)
    refl refl whole in
    none e (printable, parts.0)
