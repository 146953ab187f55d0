-- Pieces of a line one behind another.
use Rattle.std.proofs.Common.{◌≡◌, ℕ, ◌+◌, ◌<◌, ℤ, pos, List, [], ◌∷◌, ◌++◌, Option, Some, None, length, take, get_or, append-nil, refl, ap, ◌∙◌, arith}
use Rattle.std.specs.List.{flat_map, zip}
use Rattle.std.proofs.lemmas.Grind.{flat_map-append}
use Rattle.std.proofs.lemmas.List.{take_all, take_more}
use Rattle.std.proofs.lemmas.Slice.Zip.{get_or-zip, length-zip}
use Rattle.policy_tree.specs.Meaning.{Meaning}
use Rattle.policy_answers.specs.Points.{value_text, values_text}

inner : (name value : List ℕ) → (name ++ 61 ∷ []) ++ value ≡ name ++ 61 ∷ value
inner [] value = refl
inner (x ∷ name) value = ap (λ xs. x ∷ xs) (inner name value)

-- a line, a blank, a name, an equals sign and a value
pub glued : (line name value : List ℕ) → (((line ++ 32 ∷ []) ++ name) ++ 61 ∷ []) ++ value ≡ line ++ 32 ∷ (name ++ 61 ∷ value)
glued [] name value = ap (λ xs. 32 ∷ xs) (inner name value)
glued (x ∷ line) name value = ap (λ xs. x ∷ xs) (glued line name value)

pub glued_two : (a b c : List ℕ) → (a ++ b) ++ c ≡ a ++ (b ++ c)
glued_two [] b c = refl
glued_two (x ∷ a) b c = ap (λ xs. x ∷ xs) (glued_two a b c)

-- one variable more
pub values_more : (p : Meaning) (vars : List ℕ) (vals : List ℤ) (at : ℕ) → at < length vars → length vals ≡ length vars
    → flat_map (value_text p) (take (at + 1) (zip vars vals)) ≡ flat_map (value_text p) (take at (zip vars vals)) ++ value_text p (get_or vars at 0, get_or vals at (pos 0))
values_more p vars vals at inside same =
    let long = length-zip vars vals in
    ap (flat_map (value_text p)) (take_more (zip vars vals) at (0, pos 0) (omega arith))
    ∙ (flat_map-append (value_text p) (take at (zip vars vals)) (get_or (zip vars vals) at (0, pos 0) ∷ [])
    ∙ ap (λ xs. flat_map (value_text p) (take at (zip vars vals)) ++ xs)
    (append-nil (value_text p (get_or (zip vars vals) at (0, pos 0))) ∙ ap (value_text p) (get_or-zip vars vals at (0, pos 0) inside (omega arith))))

-- all of them
pub values_whole : (p : Meaning) (vars : List ℕ) (vals : List ℤ) → flat_map (value_text p) (take (length vars) (zip vars vals)) ≡ values_text p vars vals
values_whole p vars vals = ap (flat_map (value_text p)) (take_all (length vars) (zip vars vals) (let long = length-zip vars vals in omega arith))
