-- The first line of a text and the first word of a line.
use Rattle.std.proofs.Common.{◌≡◌, ◌∙◌, ◌<◌, ◌≤◌, ◌+◌, ◌-◌, ℕ, suc, Bool, true, false, cond, List, [], ◌∷◌, length, take, drop, refl, ap, sym, arith, get_or, inl, inr, ◌⊎◌}
use Rattle.std.specs.Prelude.{filter}
use Rattle.std.specs.List.{slice_split, onto_first, position_or_len, prefix_len, before_first, after_first}
use Rattle.std.proofs.lemmas.Bool.{cases_lt}
use Rattle.std.proofs.lemmas.List.{take_all, drop_all, get_or-drop, length-drop}
use Rattle.std.proofs.lemmas.List.Splits.{slice_split_first, slice_split_none}
use Rattle.std.proofs.lemmas.List.Sums.{fails_before_first, prefix_len_stops}
use Rattle.text_forms.specs.Lines.{has_byte, is_feed, lines_of, lines_of_parts}
use Rattle.text_forms.specs.Words.{is_one_of, words_of}

-- there is a first part
HasFirst : List (List ℕ) → Type 0
HasFirst parts = (part : List ℕ) × (more : List (List ℕ)) × (parts ≡ part ∷ more)

onto_first-first : (x : ℕ) (parts : List (List ℕ)) → HasFirst (onto_first x parts)
unfolding HasFirst
onto_first-first x [] = (x ∷ [], [], refl)
onto_first-first x (part ∷ parts) = (x ∷ part, parts, refl)

split-first : (p : ℕ → Bool) (xs : List ℕ) → HasFirst (slice_split p xs)
unfolding HasFirst
split-first p [] = ([], [], refl)
split-first p (x ∷ xs) = by (p x)
  where
    by : (b : Bool) → HasFirst (cond b ([] ∷ slice_split p xs) (onto_first x (slice_split p xs)))
    by true = ([], slice_split p xs, refl)
    by false = onto_first-first x (slice_split p xs)

lines_of_parts-cons : (part : List ℕ) (parts : List (List ℕ)) → HasFirst parts →
    lines_of_parts (part ∷ parts) ≡ part ∷ lines_of_parts parts
unfolding HasFirst
lines_of_parts-cons part parts (next, more, e) =
    ap (λ ps. lines_of_parts (part ∷ ps)) e ∙ ap (λ ps. part ∷ lines_of_parts ps) (sym e)

-- where no byte passes, the list is one part
split-whole : (p : ℕ → Bool) (xs : List ℕ) → length xs ≤ position_or_len p xs → slice_split p xs ≡ xs ∷ []
split-whole p xs none = slice_split_none p xs (λ k d inside. fails_before_first p xs k d (omega (arith, none)))

-- what follows from a cut at the first byte that passes, where a part that is cut off shows as `shows` says
first-shown : (p : ℕ → Bool) (shows : List (List ℕ) → List (List ℕ)) (xs : List ℕ) →
    ((parts : List (List ℕ)) → HasFirst parts → shows (before_first p xs ∷ parts) ≡ before_first p xs ∷ shows parts) →
    shows (xs ∷ []) ≡ xs ∷ [] → shows ([] ∷ []) ≡ [] →
    shows (slice_split p xs) ≡ before_first p xs ∷ shows (slice_split p (after_first p xs))
first-shown p shows xs first whole nothing = by (cases_lt (position_or_len p xs) (length xs))
  where
    by : (position_or_len p xs < length xs) ⊎ (length xs ≤ position_or_len p xs) →
        shows (slice_split p xs) ≡ before_first p xs ∷ shows (slice_split p (after_first p xs))
    by (inl found) = ap shows (slice_split_first p xs 0 found) ∙ first _ (split-first p (after_first p xs))
    by (inr none) =
        let front : take (position_or_len p xs) xs ≡ xs = take_all _ xs none in
        let rest : drop (position_or_len p xs + 1) xs ≡ [] = drop_all _ xs (omega (arith, none)) in
        ap shows (split-whole p xs none) ∙ whole ∙ ap (λ part. part ∷ []) (sym front)
        ∙ ap (λ parts. before_first p xs ∷ parts) (sym nothing ∙ ap (λ ys. shows (slice_split p ys)) (sym rest))

pub line_first : (text : List ℕ) → 0 < length text →
    lines_of text ≡ before_first is_feed text ∷ lines_of (after_first is_feed text)
unfolding lines_of
line_first [] some = absurd (omega arith)
line_first (x ∷ xs) some = first-shown is_feed lines_of_parts (x ∷ xs) (lines_of_parts-cons _) refl refl

-- the words of a line that is parted at the bytes that pass
abbrev parted : (ℕ → Bool) → List ℕ → List (List ℕ)
parted p line = filter has_byte (slice_split p line)

parted-skip : (p : ℕ → Bool) (line : List ℕ) → parted p line ≡ parted p (drop (prefix_len p line) line)
parted-skip p [] = refl
parted-skip p (x ∷ xs) = by (p x) refl (parted-skip p xs)
  where
    by : (b : Bool) → p x ≡ b → parted p xs ≡ parted p (drop (prefix_len p xs) xs) →
        parted p (x ∷ xs) ≡ parted p (drop (prefix_len p (x ∷ xs)) (x ∷ xs))
    by true e later =
        let more : 1 + prefix_len p xs ≡ suc (prefix_len p xs) = omega arith in
        rw e (rw more later)
    by false e later = rw e (rw e refl)

front-has_byte : (p : ℕ → Bool) (x : ℕ) (xs : List ℕ) → p x ≡ false → has_byte (before_first p (x ∷ xs)) ≡ true
front-has_byte p x xs e =
    let more : 1 + position_or_len p xs ≡ suc (position_or_len p xs) = omega arith in
    rw e (rw more refl)

parted-first : (p : ℕ → Bool) (line : List ℕ) → 0 < length line → p (get_or line 0 0) ≡ false →
    parted p line ≡ before_first p line ∷ parted p (after_first p line)
parted-first p [] some e = absurd (omega arith)
parted-first p (x ∷ xs) some e =
    first-shown p (filter has_byte) (x ∷ xs) (λ parts has. rw (front-has_byte p x xs e) refl) refl refl

pub words-none : (blanks line : List ℕ) → drop (prefix_len (is_one_of blanks) line) line ≡ [] → words_of blanks line ≡ []
unfolding words_of
words-none blanks line none = parted-skip (is_one_of blanks) line ∙ ap (parted (is_one_of blanks)) none

pub words-first : (blanks line rest : List ℕ) → rest ≡ drop (prefix_len (is_one_of blanks) line) line → 0 < length rest →
    words_of blanks line ≡ before_first (is_one_of blanks) rest ∷ words_of blanks (after_first (is_one_of blanks) rest)
unfolding words_of
words-first blanks line rest here some =
    let p : ℕ → Bool = is_one_of blanks in
    let n : ℕ = prefix_len p line in
    let size : length rest ≡ length line - n = ap length here ∙ length-drop n line in
    let byte : get_or rest 0 0 ≡ get_or line n 0 =
    ap (λ xs. get_or xs 0 0) here ∙ get_or-drop n line 0 0 ∙ ap (λ k. get_or line k 0) (omega arith) in
    parted-skip p line ∙ ap (parted p) (sym here)
    ∙ parted-first p rest some (ap p byte ∙ prefix_len_stops p line 0 (omega (arith, size, some)))
