-- A line is that of one entry.
use Rattle.std.proofs.Common.{◌≡◌, ℕ, ◌+◌, List, [], ◌∷◌, ◌++◌, codes, get_or, append_assoc, ap, sym, ◌∙◌, refl, arith}
use Rattle.std.proofs.lemmas.List.{append-nil}
use Rattle.round_model.specs.declared.entry.Did.{Did}
use Rattle.round_model.specs.declared.entry.Did.TheVariants as did
use Rattle.round_model.specs.declared.entry.Entry.{Entry}
use Rattle.round_model.specs.declared.entry.Entry.TheVariants as entry
use Rattle.sched_history.specs.declared.forms.LineForm.{LineForm}
use Rattle.sched_history.specs.Ranges.{IsCoreNumber, IsPrintable, IsThreadNumber, NamesThread}
use Rattle.sched_history.specs.Spelling.{line_in, reads_in, spaced_number, words_in}
use Rattle.text_forms.specs.Cuts.{StartsWith}
use Rattle.history_reader.specs.Code.Kinds.{kind_of, name_of, rest_of, rest_of_did}
use Rattle.text_forms.proofs.Cutting.{same_cut}
use Rattle.history_reader.proofs.Entries.{fate_of, no_dash, small_core, space_lacks, starts_did, starts_rest, thread_of, words_lack_feed, words_parts}
use Rattle.history_reader.proofs.Parts.{same_number}
use Rattle.history_reader.proofs.ReadsTexts.{reads_no_thread, same_placement, same_reads, starts_reads}
use Rattle.history_reader.proofs.Threads.{same_threads, starts_behind}

-- a number, and what stands behind it
same_core : (f : LineForm) (one two : ℕ) (more others : List ℕ) → IsCoreNumber f one → IsCoreNumber f two → StartsWith 32 more →
    StartsWith 32 others → spaced_number one ++ more ≡ spaced_number two ++ others → (one ≡ two) × (more ≡ others)
same_core f one two more others is_one is_two starts_one starts_two same =
    same_number one two more others (small_core f one is_one) (small_core f two is_two) starts_one starts_two same

same_thread : (one two : ℕ) (more others : List ℕ) → IsThreadNumber one → IsThreadNumber two → StartsWith 32 more →
    StartsWith 32 others → spaced_number one ++ more ≡ spaced_number two ++ others → (one ≡ two) × (more ≡ others)
same_thread one two more others is_one is_two starts_one starts_two same =
    same_number one two more others (omega (arith, is_one.1)) (omega (arith, is_two.1)) starts_one starts_two same

same_did : (one two : Did) → NamesThread one → NamesThread two → rest_of_did one ≡ rest_of_did two → one ≡ two
same_did did.Nothing did.Nothing is_one is_two same = refl
same_did did.Nothing two is_one is_two same = absurd (no_dash (thread_of two) (fate_of two) is_two refl same)
same_did one did.Nothing is_one is_two same = absurd (no_dash (thread_of one) (fate_of one) is_one refl (sym same))
same_did (did.Kept t) (did.Kept u) is_one is_two same =
    ap (λ n. did.Kept n) (same_thread t u (codes " keep") (codes " keep") is_one is_two refl refl same).0
same_did (did.Queued t) (did.Queued u) is_one is_two same =
    ap (λ n. did.Queued n) (same_thread t u (codes " queue") (codes " queue") is_one is_two refl refl same).0
same_did (did.Blocked t) (did.Blocked u) is_one is_two same =
    ap (λ n. did.Blocked n) (same_thread t u (codes " block") (codes " block") is_one is_two refl refl same).0
same_did (did.Ended t) (did.Ended u) is_one is_two same =
    ap (λ n. did.Ended n) (same_thread t u (codes " end") (codes " end") is_one is_two refl refl same).0
same_did one two is_one is_two same =
    let parts = same_thread (thread_of one) (thread_of two) (fate_of one) (fate_of two) is_one is_two refl refl same in
    absurd (omega (arith, ap (λ xs. get_or xs 1 0) (parts.1)))

-- entries with the same first word and the same rest are one
same_rest : (f : LineForm) (one two : Entry) → IsPrintable f one → IsPrintable f two → name_of (kind_of one) ≡ name_of (kind_of two) →
    rest_of f one ≡ rest_of f two → one ≡ two
same_rest f (entry.Round a) (entry.Round b) is_one is_two name same =
    let whole = append-nil (spaced_number a) ∙ same ∙ sym (append-nil (spaced_number b)) in
    ap (λ n. entry.Round n) (same_number a b [] [] (omega (arith, is_one.1)) (omega (arith, is_two.1)) tt tt whole).0
same_rest f (entry.Enter t b a r) (entry.Enter u c d s) is_one is_two name same =
    let first = same_thread t u _ _ is_one.0 is_two.0 refl refl same in
    let second = same_core f b c _ _ is_one.1 is_two.1 refl refl first.1 in
    let third = same_core f a d _ _ is_one.2 is_two.2 (starts_reads f r) (starts_reads f s) second.1 in
    let last = same_placement f r s is_one.3 is_two.3 third.1 in
    cc (first.0, second.0, third.0, last)
same_rest f (entry.Wake t b a r) (entry.Wake u c d s) is_one is_two name same =
    let first = same_thread t u _ _ is_one.0 is_two.0 refl refl same in
    let second = same_core f b c _ _ is_one.1 is_two.1 refl refl first.1 in
    let third = same_core f a d _ _ is_one.2 is_two.2 (starts_reads f r) (starts_reads f s) second.1 in
    let last = same_placement f r s is_one.3 is_two.3 third.1 in
    cc (first.0, second.0, third.0, last)
same_rest f (entry.Work b what) (entry.Work c then) is_one is_two name same =
    let first = same_core f b c _ _ is_one.0 is_two.0 (starts_did what) (starts_did then) same in
    let last = same_did what then is_one.1 is_two.1 first.1 in
    cc (first.0, last)
same_rest f (entry.Steal b v t r) (entry.Steal c w u s) is_one is_two name same =
    let first = same_core f b c _ _ is_one.0 is_two.0 refl refl same in
    let second = same_core f v w _ _ is_one.1 is_two.1 (starts_behind t (reads_in f r) (starts_reads f r)) (starts_behind u (reads_in f s) (starts_reads f s)) first.1 in
    let third = same_threads t u (reads_in f r) (reads_in f s) is_one.2.numbers is_two.2.numbers (starts_reads f r) (starts_reads f s) (reads_no_thread f r) (reads_no_thread f s) second.1 in
    let last = same_reads f r s is_one.3 is_two.3 third.1 in
    cc (first.0, second.0, third.0, last)
same_rest f (entry.Fail b v r) (entry.Fail c w s) is_one is_two name same =
    let first = same_core f b c _ _ is_one.0 is_two.0 refl refl same in
    let second = same_core f v w _ _ is_one.1 is_two.1 (starts_reads f r) (starts_reads f s) first.1 in
    let last = same_reads f r s is_one.2 is_two.2 second.1 in
    cc (first.0, second.0, last)
same_rest f (entry.Pass b r) (entry.Pass c s) is_one is_two name same =
    let first = same_core f b c _ _ is_one.0 is_two.0 (starts_reads f r) (starts_reads f s) same in
    let last = same_reads f r s is_one.1 is_two.1 first.1 in
    cc (first.0, last)
same_rest f one two is_one is_two name same = absurd (omega (arith, ap (λ xs. get_or xs 0 0 + get_or xs 1 0) name))

-- the words of an entry are those of no other
same_words : (f : LineForm) (one two : Entry) → IsPrintable f one → IsPrintable f two → words_in f one ≡ words_in f two → one ≡ two
same_words f one two is_one is_two same =
    let parts = same_cut 32 (name_of (kind_of one)) (rest_of f one) (name_of (kind_of two)) (rest_of f two)
    (space_lacks (kind_of one)) (space_lacks (kind_of two)) (starts_rest f one) (starts_rest f two)
    (sym (words_parts f one) ∙ same ∙ words_parts f two) in
    same_rest f one two is_one is_two parts.0 parts.1

-- the line that a text begins with is that of one entry
pub same_line : (f : LineForm) (one two : Entry) (rest behind : List ℕ) → IsPrintable f one → IsPrintable f two →
    line_in f one ++ rest ≡ line_in f two ++ behind → (one ≡ two) × (rest ≡ behind)
same_line f one two rest behind is_one is_two same =
    let whole = sym (append_assoc (words_in f one) (codes "\n") rest) ∙ same ∙
    append_assoc (words_in f two) (codes "\n") behind in
    let parts = same_cut 10 (words_in f one) (10 ∷ rest) (words_in f two) (10 ∷ behind)
    (words_lack_feed f one is_one) (words_lack_feed f two is_two) refl refl whole in
    (same_words f one two is_one is_two parts.0, cc (parts.1))
