-- Where a text is cut: at the first such byte. A text has one such cut.
use Rattle.std.proofs.Common.{◌≡◌, ◌≢◌, ℕ, suc, ◌+◌, ◌<◌, ◌==◌, Bool, true, false, List, [], ◌∷◌, ◌++◌, length, take, drop, get_or, ap, sym, subst, ◌∙◌, refl, arith}
use Rattle.std.proofs.lemmas.Bool.{eqb-true, eqb-false}
use Rattle.std.proofs.lemmas.List.{drop_more, take_all, take-append-drop}
use Rattle.std.proofs.lemmas.List.Elements.{All-nil, All-cons}
use Rattle.std.specs.List.{position_or_len}
use Rattle.text_forms.specs.Cuts.{Lacks, IsCut, StartsWith, is_byte}

abbrev place_of : ℕ → List ℕ → ℕ
place_of byte text = position_or_len (is_byte byte) text

-- before the place that was found there is no such byte
pub lacks_before : (byte : ℕ) (text : List ℕ) → Lacks byte (take (place_of byte text) text)
lacks_before byte [] = All-nil (λ other. other ≢ byte)
lacks_before byte (x ∷ rest) = by (x == byte) refl (lacks_before byte rest)
  where
    by : (b : Bool) → (x == byte) ≡ b → Lacks byte (take (place_of byte rest) rest) → Lacks byte (take (place_of byte (x ∷ rest)) (x ∷ rest))
    by true test after = rw test (All-nil (λ other. other ≢ byte))
    by false test after = let one : 1 + place_of byte rest ≡ suc (place_of byte rest) = omega arith in rw (test, one) (All-cons (λ other. other ≢ byte) x (take (place_of byte rest) rest) (eqb-false x byte test) after)

-- behind it the byte stands, if anything does
pub starts_behind : (byte : ℕ) (text : List ℕ) → StartsWith byte (drop (place_of byte text) text)
starts_behind byte [] = tt
starts_behind byte (x ∷ rest) = by (x == byte) refl (starts_behind byte rest)
  where
    by : (b : Bool) → (x == byte) ≡ b → StartsWith byte (drop (place_of byte rest) rest) → StartsWith byte (drop (place_of byte (x ∷ rest)) (x ∷ rest))
    by true test after = rw test (eqb-true x byte test)
    by false test after = let one : 1 + place_of byte rest ≡ suc (place_of byte rest) = omega arith in rw (test, one) after

starts_at : (byte : ℕ) (text : List ℕ) (d : ℕ) → 0 < length text → StartsWith byte text → get_or text 0 d ≡ byte
starts_at byte [] d some starts = absurd (omega arith)
starts_at byte (x ∷ rest) d some starts = starts

-- the cut at the place that was found
pub cut_at : (byte : ℕ) (text : List ℕ) (place : ℕ) → place ≡ place_of byte text → place < length text → IsCut byte text (take place text) (drop (place + 1) text)
cut_at byte text place is lt =
    let more = drop_more text place byte lt in
    let starts : StartsWith byte (drop place text) = rw is (starts_behind byte text) in
    let here : get_or text place byte ≡ byte = rw more at starts in
    record {
      whole = sym (take-append-drop place text) ∙ ap (λ rest. take place text ++ rest) (more ∙ ap (λ x. x ∷ drop (place + 1) text) here);
      first = rw is (lacks_before byte text);
    }

-- nothing was found
pub lacks_all : (byte : ℕ) (text : List ℕ) (place : ℕ) → place ≡ place_of byte text → place ≡ length text → Lacks byte text
lacks_all byte text place is end = subst (Lacks byte) (take_all place text (omega arith)) (rw is (lacks_before byte text))

-- two fronts without the byte, each with nothing or the byte behind it, are the same
pub same_cut : (byte : ℕ) (one more two others : List ℕ) → Lacks byte one → Lacks byte two → StartsWith byte more → StartsWith byte others → one ++ more ≡ two ++ others → (one ≡ two) × (more ≡ others)
same_cut byte [] more [] others lacks_one lacks_two starts_one starts_two same = (refl, same)
same_cut byte [] [] (y ∷ two) others lacks_one lacks_two starts_one starts_two same = absurd (cc same)
same_cut byte [] (x ∷ more) (y ∷ two) others lacks_one lacks_two starts_one starts_two same =
    let first : x ≡ y = cc same in
    absurd (lacks_two 0 0 (omega arith) (sym first ∙ starts_one))
same_cut byte (x ∷ one) more [] [] lacks_one lacks_two starts_one starts_two same = absurd (cc same)
same_cut byte (x ∷ one) more [] (y ∷ others) lacks_one lacks_two starts_one starts_two same =
    let first : x ≡ y = cc same in
    absurd (lacks_one 0 0 (omega arith) (first ∙ starts_two))
same_cut byte (x ∷ one) more (y ∷ two) others lacks_one lacks_two starts_one starts_two same =
    let first : x ≡ y = cc same in
    let rest : one ++ more ≡ two ++ others = cc same in
    let parts = same_cut byte one more two others (λ k d lt. lacks_one (suc k) d (omega arith)) (λ k d lt. lacks_two (suc k) d (omega arith)) starts_one starts_two rest in
    (cc (first, parts.0), parts.1)
