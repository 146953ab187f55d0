-- A text is made of its lines.
use Rattle.std.proofs.Common.{◌≡◌, ◌≢◌, ◌∙◌, ℕ, Bool, true, false, cond, List, [], ◌∷◌, ◌++◌, refl, ap, subst, inl, inr}
use Rattle.std.specs.List.{AllByRecursion, join_with_byte, onto_first, slice_split}
use Rattle.std.proofs.lemmas.Bool.{eqb-false}
use Rattle.std.proofs.lemmas.List.{append_assoc}
use Rattle.std.proofs.lemmas.List.Splits.{join_with_byte-slice_split}
use Rattle.text_forms.specs.Laws.{IsMadeOf, LastHasByte, LinesLaw}
use Rattle.text_forms.specs.Lines.{is_feed, lines_of, lines_of_parts}

last-cons : (line : List ℕ) (lines : List (List ℕ)) → LastHasByte lines → LastHasByte (line ∷ lines)
last-cons line [] has = absurd has
last-cons line (next ∷ more) has = has

-- the parts, joined by line feeds, are made of the lines among them
parts-made : (parts : List (List ℕ)) → IsMadeOf (join_with_byte 10 parts) (lines_of_parts parts)
parts-made [] = inl refl
parts-made ([] ∷ []) = inl refl
parts-made ((byte ∷ bytes) ∷ []) = inr (refl, refl)
parts-made (part ∷ next ∷ more) = by (parts-made (next ∷ more))
  where
    by : IsMadeOf (join_with_byte 10 (next ∷ more)) (lines_of_parts (next ∷ more)) →
        IsMadeOf (join_with_byte 10 (part ∷ next ∷ more)) (part ∷ lines_of_parts (next ∷ more))
    by (inl whole) = inl (ap (λ bytes. part ++ 10 ∷ bytes) whole)
    by (inr (has, lacks)) = inr (
      last-cons part (lines_of_parts (next ∷ more)) has,
      append_assoc part (10 ∷ join_with_byte 10 (next ∷ more)) (10 ∷ []) ∙ ap (λ bytes. part ++ 10 ∷ bytes) lacks,
    )

abbrev Plain : List ℕ → Type 0
Plain line = AllByRecursion (λ byte. byte ≢ 10) line

onto_first-plain : (byte : ℕ) (parts : List (List ℕ)) → byte ≢ 10 → AllByRecursion Plain parts → AllByRecursion Plain (onto_first byte parts)
onto_first-plain byte [] other plain = ((other, tt), tt)
onto_first-plain byte (part ∷ parts) other (first, rest) = ((other, first), rest)

split-plain : (text : List ℕ) → AllByRecursion Plain (slice_split is_feed text)
split-plain [] = (tt, tt)
split-plain (byte ∷ text) = by (is_feed byte) refl (split-plain text)
  where
    by : (b : Bool) → is_feed byte ≡ b → AllByRecursion Plain (slice_split is_feed text) →
        AllByRecursion Plain (cond b ([] ∷ slice_split is_feed text) (onto_first byte (slice_split is_feed text)))
    by true e plain = (tt, plain)
    by false e plain = onto_first-plain byte (slice_split is_feed text) (eqb-false byte 10 e) plain

lines-plain : (parts : List (List ℕ)) → AllByRecursion Plain parts → AllByRecursion Plain (lines_of_parts parts)
lines-plain [] plain = tt
lines-plain ([] ∷ []) plain = tt
lines-plain ((byte ∷ bytes) ∷ []) plain = plain
lines-plain (part ∷ next ∷ more) (first, rest) = (first, lines-plain (next ∷ more) rest)

pub lines_law : LinesLaw
unfolding lines_of
lines_law = record {
  whole = λ text. subst (λ (bytes : List ℕ). IsMadeOf bytes (lines_of text)) (join_with_byte-slice_split 10 text) (parts-made (slice_split is_feed text));
  plain = λ text. lines-plain (slice_split is_feed text) (split-plain text);
}
