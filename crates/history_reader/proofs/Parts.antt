-- The parts of a text: what stands behind a front that was taken off, and behind a number.
use Rattle.std.proofs.Common.{◌≡◌, ◌≢◌, ℕ, ◌^◌, ◌<◌, List, [], ◌∷◌, ◌++◌, length, true, false, Bool, take, drop, eqb, get_or, decimal, ap, sym, ◌∙◌, refl, arith, length-append}
use Rattle.std.proofs.lemmas.Bool.{eqb-false, false≢true}
use Rattle.std.proofs.lemmas.List.{get_or_at, take-append-drop}
use Rattle.std.proofs.lemmas.List.Elements.{All-nil, All-cons}
use Rattle.std.proofs.lemmas.Bool.Decides.{Decides-eqb}
use Rattle.std.proofs.lemmas.Slice.Eq.{slice_eq-Decides}
use Rattle.std.proofs.lemmas.Fmt.{decimal_injective}
use lib.Pointwise.{pointwise}
use Rattle.sched_history.specs.Spelling.{spaced_number}
use Rattle.text_forms.specs.Cuts.{Lacks, StartsWith, is_byte}
use Rattle.text_forms.proofs.Cutting.{same_cut}
use Rattle.history_reader.proofs.Digits.{decimal_lacks}

-- a text that lacks a byte has it nowhere
pub nowhere : (byte : ℕ) (text before behind : List ℕ) → Lacks byte text → text ≢ before ++ byte ∷ behind
nowhere byte text before behind lacks same =
    let lt : length before < length text = omega (arith, ap length same, length-append before (byte ∷ behind)) in
    lacks (length before) byte lt (ap (λ xs. get_or xs (length before) byte) same ∙
    get_or_at before byte behind byte (length before) refl)

-- whether the byte stands in the text
abbrev pub stands_in : ℕ → List ℕ → Bool
stands_in byte [] = false
stands_in byte (x ∷ rest) = elim (is_byte byte x) as (λ b. Bool) [ true ↦ true | false ↦ stands_in byte rest ]

-- of a text that is written out
pub lacks_text : (byte : ℕ) (text : List ℕ) → stands_in byte text ≡ false → Lacks byte text
lacks_text byte [] test = All-nil (λ other. other ≢ byte)
lacks_text byte (x ∷ rest) test = by (is_byte byte x) refl test (lacks_text byte rest)
  where
    by : (b : Bool) → is_byte byte x ≡ b → (elim b as (λ b. Bool)
        [ true ↦ true | false ↦ stands_in byte rest ]) ≡ false → (stands_in byte rest ≡ false → Lacks byte rest) →
        Lacks byte (x ∷ rest)
    by true here same after = absurd (false≢true (sym same))
    by false here same after = All-cons (λ other. other ≢ byte) x rest (eqb-false x byte here) (after same)

-- what stands behind a front that was taken off
pub taken_off : (text front known rest : List ℕ) → front ≡ known →
    pointwise eqb (take (length front) text) front ≡ true → rest ≡ drop (length front) text → text ≡ known ++ rest
taken_off text front known rest literal test is =
    let begins : take (length front) text ≡ front =
    (slice_eq-Decides Decides-eqb (take (length front) text) front _ refl).0 test in
    sym (take-append-drop (length front) text) ∙ ap (λ xs. xs ++ drop (length front) text) (begins ∙ literal) ∙
    ap (λ xs. known ++ xs) (sym is)

-- a word, and what stands behind it, are a number and what stands behind that
pub number_parts : (words word behind : List ℕ) (number : ℕ) (more : List ℕ) → words ≡ word ++ behind → Lacks 32 word →
    StartsWith 32 behind → number < 2 ^ 64 → StartsWith 32 more → 32 ∷ words ≡ spaced_number number ++ more →
    (word ≡ decimal number) × (behind ≡ more)
number_parts words word behind number more whole lacks starts small space same =
    let text : words ≡ decimal number ++ more = cc same in
    same_cut 32 word behind (decimal number) more lacks (decimal_lacks 32 number (omega arith) small) starts space
    (sym whole ∙ text)

-- a number, and what stands behind it, are one
pub same_number : (one two : ℕ) (more others : List ℕ) → one < 2 ^ 64 → two < 2 ^ 64 → StartsWith 32 more →
    StartsWith 32 others → spaced_number one ++ more ≡ spaced_number two ++ others → (one ≡ two) × (more ≡ others)
same_number one two more others small_one small_two starts_one starts_two same =
    let parts = number_parts (decimal one ++ more) (decimal one) more two others refl
    (decimal_lacks 32 one (omega arith) small_one) starts_one small_two starts_two same in
    (decimal_injective one two small_one small_two parts.0, parts.1)
