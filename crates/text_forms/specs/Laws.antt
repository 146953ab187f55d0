-- What the definitions are meant to give, as laws over all texts.
use Rattle.std.specs.Prelude.{◌≡◌, ◌≢◌, ℕ, ◌<◌, true, false, ◌⊎◌, List, [], ◌∷◌, ◌++◌, length, All}
use Rattle.std.specs.List.{AllByRecursion}
use Rattle.text_forms.specs.Lines.{has_byte, lines_of}
use Rattle.text_forms.specs.Words.{is_one_of, words_of}

-- the lines, each ended by a line feed
abbrev pub ended : List (List ℕ) → List ℕ
ended [] = []
ended (line ∷ lines) = line ++ 10 ∷ ended lines

-- the last line has a byte
abbrev pub LastHasByte : List (List ℕ) → Type 0
LastHasByte [] = ⊥
LastHasByte (line ∷ []) = has_byte line ≡ true
LastHasByte (line ∷ next ∷ more) = LastHasByte (next ∷ more)

-- the text is the lines, each ended by a line feed, or the last line has a byte and lacks its line feed
abbrev pub IsMadeOf : List ℕ → List (List ℕ) → Type 0
IsMadeOf text lines = (text ≡ ended lines) ⊎ (LastHasByte lines × (text ++ 10 ∷ [] ≡ ended lines))

-- a text is made of its lines, and none of them has a line feed
pub record LinesLaw : Type 0 where
  pub whole : (text : List ℕ) → IsMadeOf text (lines_of text)
  pub plain : (text : List ℕ) → AllByRecursion (λ line. AllByRecursion (λ byte. byte ≢ 10) line) (lines_of text)

-- the bytes are blanks
abbrev pub AreBlanks : List ℕ → List ℕ → Type 0
AreBlanks blanks bytes = All (λ byte. is_one_of blanks byte ≡ true) bytes

-- a word: a byte at least, and no blank
pub record IsWord (blanks word : List ℕ) : Type 0 where
  pub some : 0 < length word
  pub plain : All (λ byte. is_one_of blanks byte ≡ false) word

-- the line is these words, with one blank at least between two of them, and blanks before the first and behind the last
pub data IsLineOf (blanks : List ℕ) : List ℕ → List (List ℕ) → Type 0 where
  no_word : (gap : List ℕ) → AreBlanks blanks gap → IsLineOf blanks gap []
  last_word : (gap word : List ℕ) → AreBlanks blanks gap → IsWord blanks word →
      IsLineOf blanks (gap ++ word) (word ∷ [])
  next_word : (gap word : List ℕ) (blank : ℕ) (rest : List ℕ) {words : List (List ℕ)} → AreBlanks blanks gap →
      IsWord blanks word →
      is_one_of blanks blank ≡ true → IsLineOf blanks rest words →
      IsLineOf blanks (gap ++ (word ++ blank ∷ rest)) (word ∷ words)

-- a line is made of its words and of blanks
abbrev pub WordsLaw : Type 0
WordsLaw = (blanks line : List ℕ) → IsLineOf blanks line (words_of blanks line)
