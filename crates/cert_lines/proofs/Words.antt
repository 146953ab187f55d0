-- The parts of a line are those of its node: a line is cut in one way.
use Rattle.std.proofs.Common.{◌≡◌, ◌≢◌, ℕ, ◌^◌, ◌<◌, List, ◌∷◌, ◌++◌, length, true, take, drop, eqb, get_or, ℤ, decimal, inl, inr, ap, sym, ◌∙◌, refl, arith, length-append}
use Rattle.std.specs.Fmt.{signed_decimal}
use Rattle.std.proofs.lemmas.List.{get_or_at, take-append-drop}
use Rattle.std.proofs.lemmas.Bool.Decides.{Decides-eqb}
use Rattle.std.proofs.lemmas.Slice.Eq.{slice_eq-Decides}
use lib.Pointwise.{pointwise}
use Rattle.linear_cert.specs.declared.cert.Mult.{Mult}
use Rattle.text_forms.specs.Cuts.{Lacks, IsCut, StartsWith}
use Rattle.cert_lines.specs.Nodes.{BeginsWithMult, word_of}
use Rattle.cert_lines.specs.Text.{IsMult}
use Rattle.text_forms.proofs.Cutting.{same_cut}
use Rattle.cert_lines.proofs.Digits.{decimal_lacks, word_lacks_space}

-- a text that lacks a byte has it nowhere
pub nowhere : (byte : ℕ) (text before behind : List ℕ) → Lacks byte text → text ≢ before ++ byte ∷ behind
nowhere byte text before behind lacks same =
    let lt : length before < length text = omega (arith, ap length same, length-append before (byte ∷ behind)) in
    lacks (length before) byte lt (ap (λ xs. get_or xs (length before) byte) same ∙ get_or_at before byte behind byte (length before) refl)

-- the two numbers of a multiplier
pub word_parts : (word row by : List ℕ) (mult : Mult) → IsCut 58 word row by → IsMult mult → word ≡ word_of mult → (row ≡ decimal mult.row) × (by ≡ decimal mult.by)
word_parts word row by mult cut is same =
    let lacks = decimal_lacks 58 mult.row (inr (omega arith)) (omega (arith, is.row)) in
    let parts = same_cut 58 row (58 ∷ by) (decimal mult.row) (58 ∷ decimal mult.by) cut.first lacks refl refl (sym cut.whole ∙ same) in
    (parts.0, cc (parts.1))

-- a multiplier and what stands behind it
pub mult_parts : (words word behind : List ℕ) (mult : Mult) (more : List ℕ) → words ≡ word ++ behind → Lacks 32 word → StartsWith 32 behind → BeginsWithMult (32 ∷ words) mult more → (word ≡ word_of mult) × (behind ≡ more)
mult_parts words word behind mult more whole lacks starts begins =
    let same : words ≡ word_of mult ++ more = cc (begins.text_is) in
    same_cut 32 word behind (word_of mult) more lacks (word_lacks_space mult begins.fits) starts begins.space (sym whole ∙ same)

-- the two numbers of a split
pub split_parts : (rest variable at : List ℕ) (v : ℕ) (z : ℤ) → IsCut 32 rest variable at → v < 2 ^ 32 → rest ≡ decimal v ++ 32 ∷ signed_decimal z → (variable ≡ decimal v) × (at ≡ signed_decimal z)
split_parts rest variable at v z cut lt same =
    let lacks = decimal_lacks 32 v (inl (omega arith)) (omega (arith, lt)) in
    let parts = same_cut 32 variable (32 ∷ at) (decimal v) (32 ∷ signed_decimal z) cut.first lacks refl refl (sym cut.whole ∙ same) in
    (parts.0, cc (parts.1))

-- what stands behind a front that was taken off
pub taken_off : (text front known rest : List ℕ) → front ≡ known → pointwise eqb (take (length front) text) front ≡ true → rest ≡ drop (length front) text → text ≡ known ++ rest
taken_off text front known rest literal test is =
    let begins : take (length front) text ≡ front = (slice_eq-Decides Decides-eqb (take (length front) text) front _ refl).0 test in
    sym (take-append-drop (length front) text) ∙ ap (λ xs. xs ++ drop (length front) text) (begins ∙ literal) ∙ ap (λ xs. known ++ xs) (sym is)
