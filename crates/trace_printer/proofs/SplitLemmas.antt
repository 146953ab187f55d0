-- A printed text is cut into the lines and words that it was made of.
use Rattle.std.proofs.Common.{◌≤◌, ◌≡◌, ◌∙◌, ℕ, Bool, true, false, cond, eqb, nat_lt, List, [], ◌∷◌, ◌++◌, get_or, refl, ap, arith, append_assoc}
use Rattle.std.specs.Prelude.{filter, All}
use Rattle.std.specs.List.{AllByRecursion, join_with_byte, list_all, onto_first, slice_split}
use Rattle.std.proofs.lemmas.Bool.{ltb-true, ne_eqb}
use Rattle.std.proofs.lemmas.Bool.Decides.{nat_tests}
use Rattle.std.proofs.lemmas.List.Folds.{list_all-append}
use Rattle.std.proofs.lemmas.List.Splits.{slice_split_at, slice_split_none}
use Rattle.std.proofs.lemmas.List.Sums.{AllPass-from_list_all}
use Rattle.text_forms.specs.Lines.{has_byte, is_feed, lines_of, lines_of_parts}
use Rattle.text_forms.specs.Words.{is_one_of, words_of}
use Rattle.job_trace.specs.Words.{blanks, words}
use Rattle.trace_printer.proofs.WordLemmas.{IsWord, all-wider, and-both, is_ink}

-- bytes that pass the one test fail the other
apart : (p q : ℕ → Bool) → ((byte : ℕ) → p byte ≡ true → q byte ≡ false) → (bytes : List ℕ) → list_all p bytes ≡ true →
    All (λ byte. q byte ≡ false) bytes
apart p q other bytes all k d inside = other (get_or bytes k d) (AllPass-from_list_all p bytes all k d inside)

ink-no-blank : (byte : ℕ) → is_ink byte ≡ true → is_one_of blanks byte ≡ false
ink-no-blank byte ink =
    let more = ltb-true 32 byte ink in
    let other : (blank : ℕ) → blank ≤ 32 → eqb blank byte ≡ false =
    λ blank few. ne_eqb blank byte (λ e. omega (arith, more, few, e)) in
    rw (other 32 (omega arith), other 9 (omega arith), other 13 (omega arith)) refl

-- the words, joined by spaces, are cut at the spaces
cut-words : (word : List ℕ) (rest : List (List ℕ)) → AllByRecursion IsWord (word ∷ rest) →
    slice_split (is_one_of blanks) (join_with_byte 32 (word ∷ rest)) ≡ word ∷ rest
cut-words word [] (is, all) =
    slice_split_none (is_one_of blanks) word (apart is_ink (is_one_of blanks) ink-no-blank word is.plain)
cut-words word (next ∷ rest) (is, all) =
    slice_split_at (is_one_of blanks) word 32 (join_with_byte 32 (next ∷ rest))
    (apart is_ink (is_one_of blanks) ink-no-blank word is.plain) refl
    ∙ ap (λ parts. word ∷ parts) (cut-words next rest all)

all-kept : (ws : List (List ℕ)) → AllByRecursion IsWord ws → filter has_byte ws ≡ ws
all-kept [] all = refl
all-kept (word ∷ ws) (is, all) = rw is.some (ap (λ more. word ∷ more) (all-kept ws all))

pub words-joined : (word : List ℕ) (rest : List (List ℕ)) → AllByRecursion IsWord (word ∷ rest) →
    words (join_with_byte 32 (word ∷ rest)) ≡ word ∷ rest
unfolding words words_of
words-joined word rest all = ap (filter has_byte) (cut-words word rest all) ∙ all-kept (word ∷ rest) all

-- a byte of a line
abbrev is_in_line : ℕ → Bool
is_in_line byte = nat_lt 10 byte

ink-in-line : (byte : ℕ) → is_ink byte ≡ true → is_in_line byte ≡ true
ink-in-line byte ink = grind (arith, nat_tests)

in-line-no-feed : (byte : ℕ) → is_in_line byte ≡ true → is_feed byte ≡ false
in-line-no-feed byte within = let more = ltb-true 10 byte within in ne_eqb byte 10 (λ e. omega (arith, more, e))

joined-in-line : (ws : List (List ℕ)) → AllByRecursion IsWord ws → list_all is_in_line (join_with_byte 32 ws) ≡ true
joined-in-line [] all = refl
joined-in-line (word ∷ []) (is, all) = all-wider is_ink is_in_line ink-in-line word is.plain
joined-in-line (word ∷ next ∷ rest) (is, all) =
    list_all-append is_in_line word (32 ∷ join_with_byte 32 (next ∷ rest))
    ∙ and-both (all-wider is_ink is_in_line ink-in-line word is.plain) (joined-in-line (next ∷ rest) all)

-- a part with parts behind it is a line
line-first : (line text : List ℕ) →
    lines_of_parts (line ∷ slice_split is_feed text) ≡ line ∷ lines_of_parts (slice_split is_feed text)
line-first line [] = refl
line-first line (byte ∷ text) = by (is_feed byte) (slice_split is_feed text)
  where
    by : (b : Bool) (parts : List (List ℕ)) →
        lines_of_parts (line ∷ cond b ([] ∷ parts) (onto_first byte parts))
        ≡ line ∷ lines_of_parts (cond b ([] ∷ parts) (onto_first byte parts))
    by true parts = refl
    by false [] = refl
    by false (part ∷ parts) = refl

-- the words, joined by spaces and ended by a line feed, are the first line of a text
pub lines-joined : (ws : List (List ℕ)) (text : List ℕ) → AllByRecursion IsWord ws →
    lines_of ((join_with_byte 32 ws ++ 10 ∷ []) ++ text) ≡ join_with_byte 32 ws ∷ lines_of text
unfolding lines_of
lines-joined ws text all =
    let line : List ℕ = join_with_byte 32 ws in
    ap (λ bytes. lines_of_parts (slice_split is_feed bytes)) (append_assoc line (10 ∷ []) text)
    ∙ ap lines_of_parts (slice_split_at is_feed line 10 text
    (apart is_in_line is_feed in-line-no-feed line (joined-in-line ws all)) refl)
    ∙ line-first line text
