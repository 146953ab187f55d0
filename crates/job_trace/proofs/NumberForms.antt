-- Numbers with which words begin, both ways.
use Rattle.std.proofs.Common.{◌≡◌, ◌∙◌, ℕ, Bool, true, false, cond, List, [], ◌∷◌, map, Option, Some, None, refl, ap, ap₂, sym}
use Rattle.std.specs.Prelude.{ℤ, pos, option_and_then, option_map, ◌==◌}
use Rattle.std.specs.Str.{bytes_eq}
use Rattle.std.proofs.lemmas.Slice.Eq.{bytes_eq-Decides}
use Rattle.text_forms.specs.Numbers.{number_in}
use Rattle.job_trace.specs.Forms.{SpellsNumber, SpellsNumbers, SpellsSigned, negative, next_number, no_number}
use Rattle.job_trace.specs.Code.Steps.{Found, behind, joined, kept, kept_in, kept_signed_in, number_alone, number_behind, number_first, numbers_in, with_rest}
use Rattle.job_trace.proofs.KeptLemmas.{kept-negative, kept_value}
use Rattle.job_trace.proofs.OptionLemmas.{Spelt, both, mapped, some-same}

pub kept-is : (word : List ℕ) (n : ℕ) → kept_in word ≡ Some n → Spelt (SpellsNumber word) kept n
unfolding kept_in
kept-is word n e = let (whole, spells, is) = mapped kept (number_in word) n e in record { whole = whole; spells = spells; is = is }

pub kept-yes : (word : List ℕ) (n : ℕ) → SpellsNumber word n → kept_in word ≡ Some (kept n)
unfolding kept_in
kept-yes word n spells = ap (option_map kept) spells

signed-value : (word : List ℕ) (keep : ℕ → ℤ) (v : ℤ) → option_map keep (kept_in word) ≡ Some v →
    (n : ℕ) × (option_map keep (number_in word) ≡ Some (keep n)) × (keep (kept n) ≡ v)
signed-value word keep v e =
    let (k, k_is, v_is) = mapped keep (kept_in word) v e in
    let n = kept-is word k k_is in
    (n.whole, ap (option_map keep) n.spells, ap keep n.is ∙ v_is)

pub signed-is : (word : List ℕ) (v : ℤ) → kept_signed_in word ≡ Some v → Spelt (SpellsSigned word) kept_value v
unfolding kept_signed_in
signed-is [] v e = cc
signed-is (first ∷ rest) v e = by (first == 45) refl e
  where
    by : (b : Bool) → (first == 45) ≡ b → cond b (option_map negative (kept_in rest)) (option_map pos (kept_in (first ∷ rest))) ≡ Some v →
        Spelt (SpellsSigned (first ∷ rest)) kept_value v
    by true minus e =
        let (n, spells, is) = signed-value rest negative v e in
        record { whole = negative n; spells = rw minus spells; is = kept-negative n ∙ is }
    by false minus e =
        let (n, spells, is) = signed-value (first ∷ rest) pos v e in
        record { whole = pos n; spells = rw minus spells; is = is }

pub signed-yes : (word : List ℕ) (v : ℤ) → SpellsSigned word v → kept_signed_in word ≡ Some (kept_value v)
unfolding kept_signed_in
signed-yes [] v spells = cc
signed-yes (first ∷ rest) v spells = by (first == 45) spells
  where
    by : (b : Bool) → cond b (option_map negative (number_in rest)) (option_map pos (number_in (first ∷ rest))) ≡ Some v →
        cond b (option_map negative (kept_in rest)) (option_map pos (kept_in (first ∷ rest))) ≡ Some (kept_value v)
    by true e =
        let (n, spells, is) = mapped negative (number_in rest) v e in
        ap (option_map negative) (kept-yes rest n spells) ∙ ap (λ z. Some z) (sym (kept-negative n) ∙ ap kept_value is)
    by false e =
        let (n, spells, is) = mapped pos (number_in (first ∷ rest)) v e in
        ap (option_map pos) (kept-yes (first ∷ rest) n spells) ∙ ap (λ z. Some (kept_value z)) is

pub behind-is : (word : List ℕ) (line rest : List (List ℕ)) → behind word line ≡ Some rest → line ≡ word ∷ rest
unfolding behind
behind-is word [] rest e = cc
behind-is word (first ∷ more) rest e = by (bytes_eq first word) (bytes_eq-Decides first word).0 e
  where
    by : (b : Bool) → (b ≡ true → first ≡ word) → cond b (Some more) None ≡ Some rest → first ∷ more ≡ word ∷ rest
    by true same e = let heads = same refl in cc
    by false same e = cc

pub behind-yes : (word : List ℕ) (rest : List (List ℕ)) → behind word (word ∷ rest) ≡ Some rest
unfolding behind
behind-yes word rest = rw ((bytes_eq-Decides word word).1 refl) refl

-- the words begin with a number, of which that is kept
pub record Numbers (line : List (List ℕ)) (number : ℕ) (rest : List (List ℕ)) : Type 0 where
  pub digits : List ℕ
  pub whole : ℕ
  pub spells : SpellsNumber digits whole
  pub line_is : line ≡ digits ∷ rest
  pub is : kept whole ≡ number

pub first-is : (line : List (List ℕ)) (found : Found) → number_first line ≡ Some found → Numbers line found.0 found.1
unfolding number_first
first-is [] found e = cc
first-is (first ∷ more) found e = by (kept_in first) refl e
  where
    by : (o : Option ℕ) → kept_in first ≡ o → with_rest more o ≡ Some found → Numbers (first ∷ more) found.0 found.1
    by None is e = cc
    by (Some n) is e =
        let pair : ◌≡◌ {A = Found} (n, more) found = some-same e in
        let number = kept-is first n is in
        record {
          digits = first;
          whole = number.whole;
          spells = number.spells;
          line_is = ap (λ (p : Found). first ∷ p.1) pair;
          is = number.is ∙ ap (λ (p : Found). p.0) pair;
        }

pub first-yes : (digits : List ℕ) (rest : List (List ℕ)) (n : ℕ) → SpellsNumber digits n → number_first (digits ∷ rest) ≡ Some (kept n, rest)
unfolding number_first
first-yes digits rest n spells = rw (kept-yes digits n spells) refl

pub record NumbersBehind (word : List ℕ) (line : List (List ℕ)) (number : ℕ) (rest : List (List ℕ)) : Type 0 where
  pub digits : List ℕ
  pub whole : ℕ
  pub spells : SpellsNumber digits whole
  pub line_is : line ≡ word ∷ digits ∷ rest
  pub is : kept whole ≡ number

pub number_behind-is : (word : List ℕ) (line : List (List ℕ)) (found : Found) → number_behind word line ≡ Some found → NumbersBehind word line found.0 found.1
unfolding number_behind
number_behind-is word line found e = by (behind word line) refl e
  where
    by : (b : Option (List (List ℕ))) → behind word line ≡ b → option_and_then number_first b ≡ Some found → NumbersBehind word line found.0 found.1
    by None is e = cc
    by (Some more) is e =
        let number = first-is more found e in
        record {
          digits = number.digits;
          whole = number.whole;
          spells = number.spells;
          line_is = behind-is word line more is ∙ ap (λ tail. word ∷ tail) number.line_is;
          is = number.is;
        }

pub number_behind-yes : (word digits : List ℕ) (rest : List (List ℕ)) (n : ℕ) → SpellsNumber digits n →
    number_behind word (word ∷ digits ∷ rest) ≡ Some (kept n, rest)
unfolding number_behind
number_behind-yes word digits rest n spells = rw (behind-yes word (digits ∷ rest)) (first-yes digits rest n spells)

pub alone-is : (line : List (List ℕ)) (number : ℕ) → number_alone line ≡ Some number → Numbers line number []
unfolding number_alone
alone-is [] number e = cc
alone-is (first ∷ []) number e =
    let n = kept-is first number e in record { digits = first; whole = n.whole; spells = n.spells; line_is = refl; is = n.is }
alone-is (first ∷ second ∷ rest) number e = cc

pub alone-yes : (digits : List ℕ) (n : ℕ) → SpellsNumber digits n → number_alone (digits ∷ []) ≡ Some (kept n)
unfolding number_alone
alone-yes digits n spells = kept-yes digits n spells

pub numbers-spelt : (line : List (List ℕ)) (numbers : List ℕ) → numbers_in line ≡ Some numbers → Spelt (SpellsNumbers line) (map kept) numbers
unfolding numbers_in
numbers-spelt [] numbers e = record { whole = []; spells = no_number; is = some-same e }
numbers-spelt (first ∷ rest) numbers e =
    let (n, more, n_is, more_is, is) = both (kept_in first) (numbers_in rest) numbers e in
    let number = kept-is first n n_is in
    let later = numbers-spelt rest more more_is in
    record {
      whole = number.whole ∷ later.whole;
      spells = next_number first rest number.spells later.spells;
      is = ap₂ (λ (x : ℕ) xs. x ∷ xs) number.is later.is ∙ is;
    }

pub spelt-numbers : (line : List (List ℕ)) (numbers : List ℕ) → SpellsNumbers line numbers → numbers_in line ≡ Some (map kept numbers)
unfolding numbers_in
spelt-numbers line numbers no_number = refl
spelt-numbers line numbers (next_number n rest {number = number} {numbers = later} spells more) =
    ap₂ joined (kept-yes n number spells) (spelt-numbers rest later more)
