-- A part of a list that is written item by item.
use Rattle.std.proofs.Common.{◌≡◌, ℕ, ◌+◌, ◌<◌, List, [], ◌∷◌, ◌++◌, length, get_or, set, take, drop, sym, ap, ◌∙◌, arith}
use Rattle.std.proofs.lemmas.List.{append_assoc, drop_more, take_more, set_at, length-append, length-take-le, take_all, take-append-drop}

-- the list `old` with the first n items of `part` in the places from `first` on
abbrev pub filled : {X : Type 0} → List X → ℕ → List X → ℕ → List X
filled old first part n = take first old ++ (take n part ++ drop (first + n) old)

module _ {X : Type 0} (old : List X) (first : ℕ) (part : List X) where
  pub filled_none : filled old first part 0 ≡ old
  filled_none = ap (λ k. take first old ++ drop k old) (omega arith) ∙ take-append-drop first old

  pub filled_all : filled old first part (length part) ≡ take first old ++ (part ++ drop (first + length part) old)
  filled_all = ap (λ p. take first old ++ (p ++ drop (first + length part) old)) (take_all (length part) part (omega arith))

  pub filled_more : (n at : ℕ) (d e : X) → n < length part → first + n < length old → at ≡ first + n → e ≡ get_or part n d
      → set (filled old first part n) at e ≡ filled old first part (n + 1)
  filled_more n at d e inside room here is =
      let front : List X = take first old ++ take n part in let rest : List X = drop (first + n + 1) old in
      let long : length front ≡ at = length-append (take first old) (take n part) ∙ omega (arith, length-take-le first old (omega arith), length-take-le n part (omega arith)) in
      ap (λ xs. set xs at e) (sym (append_assoc (take first old) (take n part) (drop (first + n) old)) ∙ ap (λ xs. front ++ xs) (drop_more old (first + n) d room))
      ∙ (set_at front (get_or old (first + n) d) rest e at long
      ∙ (ap (λ x. front ++ x ∷ rest) is
      ∙ (append_assoc (take first old) (take n part) (get_or part n d ∷ rest)
      ∙ ap (λ xs. take first old ++ xs) (sym (append_assoc (take n part) (get_or part n d ∷ []) rest)
      ∙ (ap (λ xs. xs ++ rest) (sym (take_more part n d inside)) ∙ ap (λ k. take (n + 1) part ++ drop k old) (omega arith))))))
