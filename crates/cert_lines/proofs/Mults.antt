-- The texts of multipliers, one after another.
use Rattle.std.proofs.Common.{◌≡◌, ℕ, ◌+◌, ◌<◌, List, [], ◌∷◌, ◌++◌, length, take, get_or, All, append_assoc, ap, sym, subst, ◌∙◌, refl}
use Rattle.std.proofs.lemmas.List.{take_more, append-nil}
use Rattle.std.proofs.lemmas.List.Elements.{All-push}
use Rattle.linear_cert.specs.declared.cert.Mult.{Mult}
use Rattle.cert_lines.specs.Text.{IsMult, leaf_line, mult_text, mults_text}

pub mults_text-append : (xs ys : List Mult) → mults_text (xs ++ ys) ≡ mults_text xs ++ mults_text ys
mults_text-append [] ys = refl
mults_text-append (x ∷ xs) ys = ap (λ rest. mult_text x ++ rest) (mults_text-append xs ys) ∙ sym (append_assoc (mult_text x) (mults_text xs) (mults_text ys))

pub mults_text-one : (mult : Mult) → mults_text (mult ∷ []) ≡ mult_text mult
mults_text-one mult = append-nil (mult_text mult)

-- one more multiplier behind a text
pub one_more : (before text now : List ℕ) (mults : List Mult) (i : ℕ) (d : Mult) → i < length mults → now ≡ before ++ leaf_line (take i mults) → text ≡ now ++ mult_text (get_or mults i d) → text ≡ before ++ leaf_line (take (i + 1) mults)
one_more before text now mults i d lt so_far next =
    let more : mults_text (take (i + 1) mults) ≡ mults_text (take i mults) ++ mult_text (get_or mults i d) =
    ap mults_text (take_more mults i d lt) ∙ mults_text-append (take i mults) (get_or mults i d ∷ []) ∙ ap (λ rest. mults_text (take i mults) ++ rest) (mults_text-one (get_or mults i d)) in
    next ∙ ap (λ front. front ++ mult_text (get_or mults i d)) so_far ∙ append_assoc before (leaf_line (take i mults)) (mult_text (get_or mults i d)) ∙ sym (ap (λ rest. before ++ (108 ∷ 101 ∷ 97 ∷ 102 ∷ rest)) more)

pub all_more : (mults : List Mult) (i : ℕ) (d : Mult) → i < length mults → All IsMult (take i mults) → IsMult (get_or mults i d) → All IsMult (take (i + 1) mults)
all_more mults i d lt so_far next = subst (All IsMult) (sym (take_more mults i d lt)) (All-push IsMult (take i mults) (get_or mults i d) so_far next)
