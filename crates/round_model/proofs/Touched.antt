-- The last entry that touches a core.
use Rattle.std.proofs.Common.{◌≡◌, ℕ, suc, ◌+◌, ◌≤◌, cond, true, false, List, [], ◌∷◌, ◌++◌, length, ap, ◌∙◌, arith}
use Rattle.std.proofs.lemmas.List.{length-append}
use Rattle.round_model.specs.declared.entry.Entry.{Entry}
use Rattle.round_model.specs.Entries.{touches}
use Rattle.round_model.specs.FreshReads.{touched_from}

touched_on : (c k last : ℕ) (h : List Entry) (e : Entry) → touched_from c k last (h ++ e ∷ []) ≡ cond (touches c e) (k + length h + 1) (touched_from c k last h)
touched_on c k last [] e = ap (λ (n : ℕ). cond (touches c e) n last) (omega arith)
touched_on c k last (x ∷ xs) e =
    let before = cond (touches c x) (suc k) last in
    touched_on c (suc k) before xs e ∙ ap (λ (n : ℕ). cond (touches c e) n (touched_from c (suc k) before xs)) (omega arith)

-- with one entry more
pub touched_more : (c : ℕ) (h : List Entry) (e : Entry) → touched_from c 0 0 (h ++ e ∷ []) ≡ cond (touches c e) (length (h ++ e ∷ [])) (touched_from c 0 0 h)
touched_more c h e = touched_on c 0 0 h e ∙ ap (λ (n : ℕ). cond (touches c e) n (touched_from c 0 0 h)) (omega (arith, length-append h (e ∷ [])))

-- it is one of these
pub touched_within : (c k last : ℕ) (h : List Entry) → last ≤ k → touched_from c k last h ≤ k + length h
touched_within c k last [] small = omega arith
touched_within c k last (e ∷ es) small =
    elim (touches c e) as (λ b. touched_from c (suc k) (cond b (suc k) last) es ≤ k + suc (length es)) [
      | true ↦ let rest = touched_within c (suc k) (suc k) es (omega arith) in omega arith
      | false ↦ let rest = touched_within c (suc k) last es (omega arith) in omega arith
    ]
