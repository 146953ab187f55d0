-- Words that are too many, or not all plain, ask for nothing.
use Rattle.std.proofs.Common.{◌≡◌, ◌<◌, ℕ, Bool, true, false, List, [], ◌∷◌, None, if◌then◌else◌, length, refl, sym, arith, rules}
use Rattle.std.specs.List.{list_all}
use Rattle.std.proofs.lemmas.List.{length-map}
use Rattle.command_words.specs.Command.{asked_by, asked_plainly, is_plain, words_of}
use Rattle.command_words.proofs.request.request_of.Goals.{then-words-gt-MAX_WORDS-via-then-words-gt-MAX_WORDS, then-words-gt-MAX_WORDS-via-else-words-gt-MAX_WORDS+then-not-are_plain}
use Rattle.command_words.proofs.request.request_of.Goals as goal

plainly : (words : List (List ℕ)) → 4 < length words → asked_plainly words ≡ None
plainly [] many = refl
plainly (a ∷ []) many = refl
plainly (a ∷ b ∷ []) many = absurd (omega arith)
plainly (a ∷ b ∷ c ∷ []) many = absurd (omega arith)
plainly (a ∷ b ∷ c ∷ d ∷ []) many = absurd (omega arith)
plainly (a ∷ b ∷ c ∷ d ∷ e ∷ words) many = refl

too_many : (words : List (List ℕ)) → 4 < length words → asked_by words ≡ None
too_many words many = by (list_all is_plain words)
  where
    by : (b : Bool) → (if b then asked_plainly words else None) ≡ None
    by true = plainly words many
    by false = refl

not_plain : (words : List (List ℕ)) → list_all is_plain words ≡ false → asked_by words ≡ None
not_plain words plain = rw plain refl

pub returns-then-words-gt-MAX_WORDS-clause-asks : goal.returns-then-words-gt-MAX_WORDS-clause-asks
returns-then-words-gt-MAX_WORDS-clause-asks c =
    let words = words_of c.args.words.now in
    elim c.then-words-gt-MAX_WORDS.branch [
      | then-words-gt-MAX_WORDS-via-then-words-gt-MAX_WORDS w ↦ sym (too_many words (rw length-map w.if-words-gt-MAX_WORDS.true))
      | then-words-gt-MAX_WORDS-via-else-words-gt-MAX_WORDS+then-not-are_plain w ↦ sym (not_plain words (search rules))
    ]
