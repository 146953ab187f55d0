-- The text of an entry's reads: no other reads have it, it begins with a space where it begins with anything, and neither
-- with a thread.
use Rattle.std.proofs.Common.{◌≡◌, ◌≢◌, inl, inr, ℕ, Option, None, Some, MatchOption, ◌-◌, ◌<◌, ◌≤◌, ◌^◌, List, [], ◌∷◌, ◌++◌, All, codes, decimal, length, get_or, ap, sym, subst, ◌∙◌, refl, arith}
use Rattle.std.proofs.lemmas.List.Elements.{All-append, All-nil}
use Rattle.sched_base.specs.declared.limits.TheConstants.{MAX_ENTRIES}
use Rattle.sched_history.specs.declared.forms.LineForm.{LineForm}
use Rattle.sched_history.specs.declared.forms.LineForm.TheVariants as form
use Rattle.sched_history.specs.declared.forms.TheConstants.{FIRST_FORMAT_CORES}
use Rattle.sched_history.specs.Ranges.{AreOneEach, ArePlacementReads, AreReads, AreUpTo, IsPositionFrom, IsThreadNumber}
use Rattle.sched_history.specs.Spelling.{behind_colon, distances, reads_from, reads_in, spaced}
use Rattle.sched_history.proofs.Distances.{distances-zero, with_colon}
use Rattle.text_forms.specs.Cuts.{Lacks, StartsWith}
use Rattle.history_reader.specs.Code.Numbers.{BeginsWithNoNumber, IsWithin}
use Rattle.text_forms.proofs.Cutting.{same_cut}
use Rattle.history_reader.proofs.Digits.{decimal_lacks, decimal_lacks_other}
use Rattle.history_reader.proofs.Parts.{lacks_text}
use Rattle.history_reader.proofs.Positions.{distances_within, same_positions, same_spaced, spaced_lacks, starts_spaced}

pub starts_reads : (f : LineForm) (reads : List ℕ) → StartsWith 32 (reads_in f reads)
starts_reads form.First reads = refl
starts_reads (form.Second cores start) [] = tt
starts_reads (form.Second cores start) (read ∷ reads) = refl

-- a colon begins no thread
colon_no_thread : (numbers : List ℕ) → BeginsWithNoNumber IsThreadNumber (behind_colon numbers)
colon_no_thread numbers thread behind begins =
    let text : codes ":" ++ spaced numbers ≡ decimal thread ++ behind = cc (begins.text_is) in
    let small : thread < 2 ^ 64 = let high = begins.right.1 in omega (arith, high) in
    let parts = same_cut 32 (codes ":") (spaced numbers) (decimal thread) behind (lacks_text 32 (codes ":") refl)
    (decimal_lacks 32 thread (omega arith) small) (starts_spaced numbers) begins.space text in
    let first : length (decimal thread) ≡ 1 = ap length (sym parts.0) in
    decimal_lacks_other 58 thread refl small 0 0 (omega (arith, first)) (sym (ap (λ xs. get_or xs 0 0) parts.0))

pub reads_no_thread : (f : LineForm) (reads : List ℕ) → BeginsWithNoNumber IsThreadNumber (reads_in f reads)
reads_no_thread form.First reads = colon_no_thread reads
reads_no_thread (form.Second cores start) [] = λ thread behind begins. absurd (cc (begins.text_is))
reads_no_thread (form.Second cores start) (read ∷ reads) = colon_no_thread (distances start (read ∷ reads))

-- no line feed stands there
colon_lacks : (top : ℕ) (numbers : List ℕ) → top ≤ MAX_ENTRIES → All (IsWithin 0 top) numbers → Lacks 10 (behind_colon numbers)
colon_lacks top numbers few are =
    All-append (λ other. other ≢ 10) (codes " :") (spaced numbers) (lacks_text 10 (codes " :") refl) (spaced_lacks top few 10 numbers (omega arith) are)

each_lack : (cores start : ℕ) (reads : List ℕ) → All (IsPositionFrom start) reads → Lacks 10 (reads_from start reads)
each_lack cores start [] are = All-nil _
each_lack cores start (read ∷ reads) are =
    colon_lacks (MAX_ENTRIES - start) (distances start (read ∷ reads)) (omega arith) (distances_within start (read ∷ reads) are)

pub reads_lack : (f : LineForm) (reads : List ℕ) → AreReads f reads → Lacks 10 (reads_in f reads)
reads_lack form.First reads are = colon_lacks MAX_ENTRIES reads (omega arith) are.positions
reads_lack (form.Second cores start) reads are = each_lack cores start reads are.positions

pub placement_lacks : (f : LineForm) (reads : List ℕ) → ArePlacementReads f reads → Lacks 10 (reads_in f reads)
placement_lacks form.First reads are = colon_lacks MAX_ENTRIES reads (omega arith) are.positions
placement_lacks (form.Second cores start) reads (inl none) = subst (λ (xs : List ℕ). Lacks 10 (reads_from start xs)) (sym none) (All-nil _)
placement_lacks (form.Second cores start) reads (inr are) = each_lack cores start reads are.positions

-- where there is a core there is a read
pub some_reads : (cores start : ℕ) (reads : List ℕ) → AreOneEach cores start reads → reads ≢ []
some_reads cores start reads are none = omega (arith, ap length none, are.one_each, are.count.0)

pub each_colon : (cores start : ℕ) (reads : List ℕ) → AreOneEach cores start reads → reads_from start reads ≡ behind_colon (distances start reads)
each_colon cores start reads are = with_colon start reads (some_reads cores start reads are)

pub up_to_each : (cores start : ℕ) (reads : List ℕ) → AreOneEach cores start reads → AreUpTo cores start reads
up_to_each cores start reads are = record { few = omega (arith, are.one_each); positions = are.positions }

-- other reads of a text than one for each core
pub other_count : (cores start : ℕ) (text reads found : List ℕ) → AreOneEach cores start reads → AreUpTo cores start found
    → text ≡ behind_colon (distances start found) → text ≡ reads_from start reads → length found ≡ cores
other_count cores start text reads found are up_to is same =
    let whole : behind_colon (distances start reads) ≡ behind_colon (distances start found) = sym (each_colon cores start reads are) ∙ sym same ∙ is in
    let numbers : spaced (distances start reads) ≡ spaced (distances start found) = cc whole in
    sym (ap length (same_positions start reads found are.positions up_to.positions numbers)) ∙ are.one_each

-- from 0 on the distances are positions, as the first format has them
pub first_reads : (text : List ℕ) (f : LineForm) (result : Option (List ℕ)) → f ≡ form.First
    → MatchOption result ((reads : List ℕ) → AreUpTo FIRST_FORMAT_CORES 0 reads → text ≢ behind_colon (distances 0 reads))
    (λ reads. AreUpTo FIRST_FORMAT_CORES 0 reads × (text ≡ behind_colon (distances 0 reads)))
    → MatchOption result ((reads : List ℕ) → AreReads f reads → text ≢ reads_in f reads) (λ reads. AreReads f reads × (text ≡ reads_in f reads))
first_reads text f result is found =
    subst (λ (g : LineForm). MatchOption result ((reads : List ℕ) → AreReads g reads → text ≢ reads_in g reads) (λ reads. AreReads g reads × (text ≡ reads_in g reads))) (sym is)
    (by result found)
  where
    by : (result : Option (List ℕ)) → MatchOption result ((reads : List ℕ) → AreUpTo FIRST_FORMAT_CORES 0 reads → text ≢ behind_colon (distances 0 reads))
        (λ reads. AreUpTo FIRST_FORMAT_CORES 0 reads × (text ≡ behind_colon (distances 0 reads)))
        → MatchOption result ((reads : List ℕ) → AreUpTo FIRST_FORMAT_CORES 0 reads → text ≢ behind_colon reads)
        (λ reads. AreUpTo FIRST_FORMAT_CORES 0 reads × (text ≡ behind_colon reads))
    by None none = λ reads are same. none reads are (same ∙ ap (λ (ns : List ℕ). behind_colon ns) (sym (distances-zero reads)))
    by (Some reads) (are, same) = (are, same ∙ ap (λ (ns : List ℕ). behind_colon ns) (distances-zero reads))

same_each : (cores start : ℕ) (one two : List ℕ) → AreOneEach cores start one → AreOneEach cores start two →
    reads_from start one ≡ reads_from start two → one ≡ two
same_each cores start one two are_one are_two same =
    let whole : behind_colon (distances start one) ≡ behind_colon (distances start two) =
    sym (each_colon cores start one are_one) ∙ same ∙ each_colon cores start two are_two in
    let text : spaced (distances start one) ≡ spaced (distances start two) = cc whole in
    same_positions start one two are_one.positions are_two.positions text

none_or_each : (cores start : ℕ) (reads : List ℕ) → AreOneEach cores start reads → reads_from start reads ≢ []
none_or_each cores start reads are none = absurd (cc (sym (each_colon cores start reads are) ∙ none))

pub same_reads : (f : LineForm) (one two : List ℕ) → AreReads f one → AreReads f two → reads_in f one ≡ reads_in f two → one ≡ two
same_reads form.First one two are_one are_two same =
    let text : spaced one ≡ spaced two = cc same in
    same_spaced MAX_ENTRIES (omega arith) one two are_one.positions are_two.positions text
same_reads (form.Second cores start) one two are_one are_two same = same_each cores start one two are_one are_two same

pub same_placement : (f : LineForm) (one two : List ℕ) → ArePlacementReads f one → ArePlacementReads f two →
    reads_in f one ≡ reads_in f two → one ≡ two
same_placement form.First one two are_one are_two same =
    let text : spaced one ≡ spaced two = cc same in
    same_spaced MAX_ENTRIES (omega arith) one two are_one.positions are_two.positions text
same_placement (form.Second cores start) one two (inl none) (inl nothing) same = none ∙ sym nothing
same_placement (form.Second cores start) one two (inl none) (inr are) same =
    absurd (none_or_each cores start two are (sym same ∙ ap (λ (xs : List ℕ). reads_from start xs) none))
same_placement (form.Second cores start) one two (inr are) (inl none) same =
    absurd (none_or_each cores start one are (same ∙ ap (λ (xs : List ℕ). reads_from start xs) none))
same_placement (form.Second cores start) one two (inr are) (inr other) same = same_each cores start one two are other same
