-- A line is made of its words and of blanks.
use Rattle.std.proofs.Common.{◌≡◌, ◌∙◌, ◌<◌, ◌≤◌, ◌+◌, ◌-◌, ℕ, zero, suc, Bool, true, false, not, List, [], ◌∷◌, ◌++◌, length, take, drop, get_or, refl, ap, sym, subst, arith, inl, inr, ◌⊎◌}
use Rattle.std.specs.List.{after_first, before_first, position_or_len, prefix_len}
use Rattle.std.proofs.lemmas.Bool.{cases_lt}
use Rattle.std.proofs.lemmas.List.{append-nil, drop_all, get_or-drop, get_or-take, length-drop, length-take-le, take-append-drop, take_all, nil_from_length}
use Rattle.std.proofs.lemmas.List.Sums.{fails_before_first, prefix_len-le-length, prefix_len_passes, prefix_len_stops, split_at_first}
use Rattle.text_forms.specs.Laws.{AreBlanks, IsLineOf, IsWord, WordsLaw, last_word, next_word, no_word}
use Rattle.text_forms.specs.Words.{is_one_of, words_of}
use Rattle.text_forms.proofs.TextLemmas.{words-none, words-first}

module _ (blanks : List ℕ) where
  abbrev is_blank : ℕ → Bool
  is_blank byte = is_one_of blanks byte

  -- the blanks with which a line begins
  abbrev gap_of : List ℕ → List ℕ
  gap_of line = take (prefix_len is_blank line) line

  abbrev rest_of : List ℕ → List ℕ
  rest_of line = drop (prefix_len is_blank line) line

  gap-blanks : (line : List ℕ) → AreBlanks blanks (gap_of line)
  gap-blanks line k d inside =
      let n : ℕ = prefix_len is_blank line in
      let size : length (take n line) ≡ n = length-take-le n line (prefix_len-le-length is_blank line) in
      subst (λ b. is_blank b ≡ true) (sym (get_or-take n line k d (omega (arith, size, inside))))
      (prefix_len_passes is_blank line k d (omega (arith, size, inside)))

  -- the line's first word
  front-word : (rest : List ℕ) → 0 < position_or_len is_blank rest → position_or_len is_blank rest ≤ length rest → IsWord blanks (before_first is_blank rest)
  front-word rest some within =
      let n : ℕ = position_or_len is_blank rest in
      let size : length (take n rest) ≡ n = length-take-le n rest within in
      record {
        some = omega (arith, size, some);
        plain = λ k d inside. subst (λ b. is_blank b ≡ false) (sym (get_or-take n rest k d (omega (arith, size, inside))))
            (fails_before_first is_blank rest k d (omega (arith, size, inside)));
      }

  whole-line : (line : List ℕ) → gap_of line ++ rest_of line ≡ line
  whole-line line = take-append-drop (prefix_len is_blank line) line

  -- a line of blanks
  blank-line : (line : List ℕ) → rest_of line ≡ [] → IsLineOf blanks line (words_of blanks line)
  blank-line line none =
      let all : gap_of line ≡ line = sym (append-nil (gap_of line)) ∙ ap (λ rest. gap_of line ++ rest) (sym none) ∙ whole-line line in
      subst (λ ws. IsLineOf blanks line ws) (sym (words-none blanks line none))
      (subst (λ l. IsLineOf blanks l []) all (no_word (gap_of line) (gap-blanks line)))

  not-false : (b : Bool) → not b ≡ false → b ≡ true
  not-false true e = refl
  not-false false e = cc

  position-some : (rest : List ℕ) → 0 < length rest → is_blank (get_or rest 0 0) ≡ false → 0 < position_or_len is_blank rest
  position-some [] some e = absurd (omega (arith, some))
  position-some (byte ∷ rest) some e = rw e (omega arith)

  rest-first : (line : List ℕ) → 0 < length (rest_of line) → is_blank (get_or (rest_of line) 0 0) ≡ false
  rest-first line some =
      let n : ℕ = prefix_len is_blank line in
      let size : length (drop n line) ≡ length line - n = length-drop n line in
      let byte : get_or (drop n line) 0 0 ≡ get_or line n 0 = get_or-drop n line 0 0 ∙ ap (λ k. get_or line k 0) (omega arith) in
      ap is_blank byte ∙ prefix_len_stops is_blank line 0 (omega (arith, size, some))

  -- a line with a word, where what is left behind the word is made of its words
  word-line : (line : List ℕ) → 0 < length (rest_of line) →
      ((after : List ℕ) → length after < length line → IsLineOf blanks after (words_of blanks after)) → IsLineOf blanks line (words_of blanks line)
  word-line line some later = by (cases_lt (position_or_len is_blank (rest_of line)) (length (rest_of line)))
    where
      rest : List ℕ
      rest = rest_of line

      by : (position_or_len is_blank (rest_of line) < length (rest_of line)) ⊎ (length (rest_of line) ≤ position_or_len is_blank (rest_of line)) →
          IsLineOf blanks line (words_of blanks line)
      by (inl found) =
          let pos : ℕ = position_or_len is_blank (rest_of line) in
          let word = front-word (rest_of line) (position-some (rest_of line) some (rest-first line some)) (omega (arith, found)) in
          let split = split_at_first is_blank (rest_of line) 0 found in
          let blank = not-false _ (prefix_len_stops (λ byte. not (is_blank byte)) (rest_of line) 0 found) in
          let size = length-drop (pos + 1) (rest_of line) in
          let shorter = length-drop (prefix_len is_blank line) line in
          subst (λ ws. IsLineOf blanks line ws) (sym (words-first blanks line (rest_of line) refl some))
          (subst (λ l. IsLineOf blanks l (before_first is_blank (rest_of line) ∷ words_of blanks (after_first is_blank (rest_of line))))
          (ap (λ r. gap_of line ++ r) (sym split) ∙ whole-line line)
          (next_word (gap_of line) (before_first is_blank (rest_of line)) (get_or (rest_of line) pos 0) (after_first is_blank (rest_of line))
          (gap-blanks line) word blank (later (after_first is_blank (rest_of line)) (omega (arith, size, shorter, found)))))
      by (inr none) =
          let pos : ℕ = position_or_len is_blank (rest_of line) in
          let within = prefix_len-le-length (λ byte. not (is_blank byte)) (rest_of line) in
          let word = front-word (rest_of line) (position-some (rest_of line) some (rest-first line some)) within in
          let whole : before_first is_blank (rest_of line) ≡ rest_of line = take_all pos (rest_of line) none in
          let over : after_first is_blank (rest_of line) ≡ [] = drop_all (pos + 1) (rest_of line) (omega (arith, none)) in
          let words : words_of blanks line ≡ before_first is_blank (rest_of line) ∷ [] =
          words-first blanks line (rest_of line) refl some ∙ ap (λ ws. before_first is_blank (rest_of line) ∷ ws)
          (ap (words_of blanks) over ∙ words-none blanks [] refl) in
          subst (λ ws. IsLineOf blanks line ws) (sym words)
          (subst (λ l. IsLineOf blanks l (before_first is_blank (rest_of line) ∷ []))
          (ap (λ r. gap_of line ++ r) whole ∙ whole-line line)
          (last_word (gap_of line) (before_first is_blank (rest_of line)) (gap-blanks line) word))

  -- by the length of the line
  line-made : (n : ℕ) (line : List ℕ) → length line ≤ n → IsLineOf blanks line (words_of blanks line)
  line-made zero line few = blank-line line (nil_from_length (rest_of line) (omega (arith, few, length-drop (prefix_len is_blank line) line)))
  line-made (suc n) line few = by (cases_lt 0 (length (rest_of line))) (λ after less. line-made n after (omega (arith, few, less)))
    where
      by : (0 < length (rest_of line)) ⊎ (length (rest_of line) ≤ 0) →
          ((after : List ℕ) → length after < length line → IsLineOf blanks after (words_of blanks after)) → IsLineOf blanks line (words_of blanks line)
      by (inl some) later = word-line line some later
      by (inr none) later = blank-line line (nil_from_length (rest_of line) (omega (arith, none)))

pub words_law : WordsLaw
words_law = λ blanks line. line-made blanks (length line) line (omega arith)
