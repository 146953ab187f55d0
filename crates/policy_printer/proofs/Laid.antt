-- Tokens joined by spaces, with a line feed behind them, are read as just these tokens.
use Rattle.std.proofs.Common.{◌≡◌, ◌∙◌, ◌≤◌, ◌+◌, ◌-◌, ℕ, List, [], ◌∷◌, ◌++◌, length, take, drop, map, refl, ap, sym, subst, arith, length-drop, length-append, append_assoc}
use Rattle.std.specs.Prelude.{slice_range}
use Rattle.std.specs.List.{join_with_byte}
use Rattle.std.proofs.Math.Seq.{take-append_seam, drop-append_seam}
use Rattle.std.proofs.lemmas.List.{drop-drop}
use Rattle.policy_lexer.specs.declared.token.Token.{Token}
use Rattle.policy_lexer.specs.Pieces.{gap, token, IsFirstPiece}
use Rattle.policy_lexer.specs.Tokens.{Reads, reads_nothing, reads_gap, reads_token}
use Rattle.policy_printer.proofs.FirstPieces.{first-token, first-gap, last-gap}
use Rattle.policy_printer.proofs.Normal.{Spelled, IsToken, AreTokens, are_none, are_more}

abbrev pub texts : List Spelled → List (List ℕ)
texts ps = map (λ p. p.text) ps

abbrev pub lined : List (List ℕ) → List ℕ
lined xs = join_with_byte 32 xs ++ (10 ∷ [])

-- the tokens of the joined texts, the first of which begins there
abbrev pub tokens_from : ℕ → List Spelled → List Token
tokens_from at [] = []
tokens_from at (p ∷ ps) = record { kind = p.kind; start = at; end = at + length p.text } ∷ tokens_from (at + length p.text + 1) ps

-- what stands behind a token
abbrev behind : List Spelled → List ℕ
behind [] = 10 ∷ []
behind (q ∷ ps) = 32 ∷ lined (texts (q ∷ ps))

lined-behind : (p : Spelled) (ps : List Spelled) → lined (texts (p ∷ ps)) ≡ p.text ++ behind ps
lined-behind p [] = refl
lined-behind p (q ∷ ps) = append_assoc p.text (32 ∷ join_with_byte 32 (texts (q ∷ ps))) (10 ∷ [])

-- the token is the first piece
first-is : (p : Spelled) (ps : List Spelled) → IsToken p → IsFirstPiece (p.text ++ behind ps) (length p.text) (token p.kind)
first-is p [] is = first-token p.text [] 10 p.kind refl is.spells
first-is p (q ∷ ps) is = first-token p.text (lined (texts (q ∷ ps))) 32 p.kind refl is.spells

gap-is : (q : Spelled) (ps : List Spelled) → IsToken q → IsFirstPiece (behind (q ∷ ps)) 1 gap
gap-is q ps is =
    subst (λ (s : List ℕ). IsFirstPiece (32 ∷ s) 1 gap) (sym (lined-behind q ps)) (first-gap 32 q.text (behind ps) q.kind refl is.spells)

-- what stands a token further
drop-behind : (text : List ℕ) (at : ℕ) (x rest : List ℕ) → drop at text ≡ x ++ rest → drop (at + length x) text ≡ rest
drop-behind text at x rest e = sym (drop-drop (length x) at text) ∙ ap (drop (length x)) e ∙ drop-append_seam x rest

module _ (text : List ℕ) where
  pub reads-lined : (at : ℕ) (p : Spelled) (ps : List Spelled) → drop at text ≡ lined (texts (p ∷ ps)) → at ≤ length text → AreTokens (p ∷ ps) →
      Reads text at (tokens_from at (p ∷ ps)) (length text)
  reads-lined at p [] e within (are_more is are_none) =
      let here : drop at text ≡ p.text ++ (10 ∷ []) = e in
      let next = drop-behind text at p.text (10 ∷ []) here in
      let size = ap length here ∙ length-append p.text (10 ∷ []) in
      let left = length-drop at text in
      let end : at + length p.text + 1 ≡ length text = omega arith in
      reads_token _ (length p.text) refl refl (subst (λ (s : List ℕ). IsFirstPiece s (length p.text) (token p.kind)) (sym here) (first-is p [] is)) is.keeps
      (reads_gap 1 (subst (λ (s : List ℕ). IsFirstPiece s 1 gap) (sym next) last-gap)
      (subst (λ n. Reads text (at + length p.text + 1) [] n) end reads_nothing))
  reads-lined at p (q ∷ ps) e within (are_more is (are_more also more)) =
      let here = e ∙ lined-behind p (q ∷ ps) in
      let next = drop-behind text at p.text (behind (q ∷ ps)) here in
      let there : drop (at + length p.text + 1) text ≡ lined (texts (q ∷ ps)) = drop-behind text (at + length p.text) (32 ∷ []) (lined (texts (q ∷ ps))) next in
      let size = ap length here ∙ length-append p.text (behind (q ∷ ps)) in
      let left = length-drop at text in
      reads_token _ (length p.text) refl refl
      (subst (λ (s : List ℕ). IsFirstPiece s (length p.text) (token p.kind)) (sym here) (first-is p (q ∷ ps) is)) is.keeps
      (reads_gap 1 (subst (λ (s : List ℕ). IsFirstPiece s 1 gap) (sym next) (gap-is q ps also))
      (reads-lined (at + length p.text + 1) q ps there (omega arith) (are_more also more)))

  -- the tokens have these kinds, and these texts for their bytes
  pub data AreLaid : List Spelled → List Token → Type 0 where
    laid_none : AreLaid [] []
    laid_more : {p : Spelled} {ps : List Spelled} {t : Token} {ts : List Token} → t.kind ≡ p.kind → slice_range text t.start t.end ≡ p.text →
        AreLaid ps ts → AreLaid (p ∷ ps) (t ∷ ts)

  slice-front : (at : ℕ) (x rest : List ℕ) → drop at text ≡ x ++ rest → slice_range text at (at + length x) ≡ x
  slice-front at x rest e =
      let len : at + length x - at ≡ length x = omega arith in
      ap (λ n. take n (drop at text)) len ∙ ap (take (length x)) e ∙ take-append_seam x rest

  pub are-laid : (at : ℕ) (p : Spelled) (ps : List Spelled) → drop at text ≡ lined (texts (p ∷ ps)) → AreLaid (p ∷ ps) (tokens_from at (p ∷ ps))
  are-laid at p [] e = laid_more refl (slice-front at p.text (10 ∷ []) e) laid_none
  are-laid at p (q ∷ ps) e =
      let here = e ∙ lined-behind p (q ∷ ps) in
      let next = drop-behind text at p.text (behind (q ∷ ps)) here in
      let there : drop (at + length p.text + 1) text ≡ lined (texts (q ∷ ps)) = drop-behind text (at + length p.text) (32 ∷ []) (lined (texts (q ∷ ps))) next in
      laid_more refl (slice-front at p.text (behind (q ∷ ps)) here) (are-laid (at + length p.text + 1) q ps there)
