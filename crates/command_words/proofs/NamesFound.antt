-- The obligation that a word names.
use Rattle.std.proofs.Common.{◌≡◌, ℕ, Bool, true, false, cond, List, [], ◌∷◌, Some, None, refl}
use Rattle.std.specs.List.{find}
use Rattle.std.specs.Str.{bytes_eq}
use Rattle.std.proofs.lemmas.Slice.Eq.{bytes_eq-Decides}
use Rattle.obligations.specs.declared.names.ObName.{ObName}
use Rattle.obligations.specs.declared.names.ObName.TheVariants as name
use Rattle.obligations.specs.Names.{ob_names, ob_text}
use Rattle.command_words.specs.Command.{name_of}

-- the text of a name names it
pub named : (n : ObName) → name_of (ob_text n) ≡ Some n
unfolding ob_names
named name.B1 = refl
named name.B2 = refl
named name.B3 = refl
named name.B4 = refl
named name.H1Enqueue = refl
named name.H2Enqueue = refl
named name.H1Tick = refl
named name.H2Tick = refl
named name.H1Yield = refl
named name.H2Yield = refl
named name.H1Block = refl
named name.H2Block = refl

none_in : (word : List ℕ) → ((n : ObName) → ob_text n ≡ word → ⊥) → (names : List ObName) → find (λ n. bytes_eq (ob_text n) word) names ≡ None
none_in word never [] = refl
none_in word never (n ∷ names) = by (none_in word never names) (bytes_eq (ob_text n) word) refl
  where
    by : find (λ m. bytes_eq (ob_text m) word) names ≡ None → (b : Bool) → bytes_eq (ob_text n) word ≡ b
        → cond b (Some n) (find (λ m. bytes_eq (ob_text m) word) names) ≡ None
    by rest true e = absurd (never n ((bytes_eq-Decides (ob_text n) word).0 e))
    by rest false e = rest

-- and a word that is no name's text names none
pub unnamed : (word : List ℕ) → ((n : ObName) → ob_text n ≡ word → ⊥) → name_of word ≡ None
unnamed word never = none_in word never ob_names
