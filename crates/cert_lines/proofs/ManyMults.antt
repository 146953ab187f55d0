-- Multipliers that are read one after another.
use Rattle.std.proofs.Common.{◌≡◌, ℕ, suc, ◌<◌, List, [], ◌∷◌, ◌++◌, length, append_assoc, length-append, ap, sym, ◌∙◌, refl, arith}
use Rattle.linear_cert.specs.declared.cert.Mult.{Mult}
use Rattle.text_forms.specs.Cuts.{StartsWith}
use Rattle.cert_lines.specs.Nodes.{AreMults, BeginsWithMult, BeginsWithNoMult}
use Rattle.cert_lines.specs.Text.{mult_text, mults_text}
use Rattle.text_forms.proofs.Cutting.{same_cut}
use Rattle.cert_lines.proofs.Digits.{word_lacks_space}
use Rattle.cert_lines.proofs.Mults.{mults_text-append, mults_text-one}

-- what is left of multipliers is multipliers
pub record Left (text : List ℕ) : Type 0 where
  pub mults : List Mult
  pub are : AreMults text mults

pub spaced : (mults : List Mult) → StartsWith 32 (mults_text mults)
spaced [] = tt
spaced (mult ∷ rest) = refl

-- what has been read, and one more
pub more_read : (text rest behind : List ℕ) (mults : List Mult) (mult : Mult) → text ≡ mults_text mults ++ rest → BeginsWithMult rest mult behind → text ≡ mults_text (mults ++ mult ∷ []) ++ behind
more_read text rest behind mults mult so_far begins =
    let together : mults_text (mults ++ mult ∷ []) ≡ mults_text mults ++ mult_text mult = mults_text-append mults (mult ∷ []) ∙ ap (λ xs. mults_text mults ++ xs) (mults_text-one mult) in
    so_far ∙ ap (λ xs. mults_text mults ++ xs) begins.text_is ∙ sym (append_assoc (mults_text mults) (mult_text mult) behind) ∙ ap (λ xs. xs ++ behind) (sym together)

pub shorter : (rest behind : List ℕ) (mult : Mult) → BeginsWithMult rest mult behind → length behind < length rest
shorter rest behind mult begins = omega (arith, ap length begins.text_is, length-append (mult_text mult) behind)

pub left_behind : (rest behind : List ℕ) (mult : Mult) → BeginsWithMult rest mult behind → Left rest → Left behind
left_behind rest behind mult begins left = by left.mults left.are
  where
    by : (mults : List Mult) → AreMults rest mults → Left behind
    by [] (fit, is) = absurd (omega (arith, ap length is, shorter rest behind mult begins))
    by (m ∷ more) (fit, is) =
        let here = fit 0 m (omega arith) in
        let same = sym begins.text_is ∙ is in
        let parts = same_cut 32 _ behind _ (mults_text more) (word_lacks_space mult begins.fits) (word_lacks_space m here) begins.space (spaced more) (cc same) in
        record { mults = more; are = ((λ k d lt. fit (suc k) d (omega arith)), parts.1) }

-- where no multiplier begins what is left, nothing is left
pub stuck : (rest : List ℕ) → 0 < length rest → BeginsWithNoMult rest → Left rest → ⊥
stuck rest some none left = by left.mults left.are
  where
    by : (mults : List Mult) → AreMults rest mults → ⊥
    by [] (fit, is) = omega (arith, ap length is, some)
    by (m ∷ more) (fit, is) = none m (mults_text more) (record { fits = fit 0 m (omega arith); text_is = is; space = spaced more })
