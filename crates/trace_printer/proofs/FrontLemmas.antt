-- What may follow lines doesn't depend on their numbers.
use Rattle.std.proofs.Common.{◌≡◌, ◌∙◌, List, [], ◌∷◌, ◌++◌, refl, ap, sym}
use Rattle.job_trace.specs.declared.trace.TraceLine.{TraceLine}
use Rattle.job_trace.specs.declared.trace.Numbered.{Numbered}
use Rattle.job_trace.specs.Rules.{MayFollow, all_gifts, cores_of, first_passed, gifts_of, is_repeated, may_stand, measures}
use Rattle.job_trace.specs.TraceText.{numbered}

-- the lines, each with the number 0
abbrev pub plain : List Numbered → List Numbered
plain [] = []
plain (n ∷ rest) = numbered 0 n.line ∷ plain rest

plain-kind : (front : List Numbered) (line : TraceLine) → may_stand (plain front) line ≡ may_stand front line
plain-kind [] line = refl
plain-kind (first ∷ []) line = refl
plain-kind (first ∷ second ∷ rest) line = refl

plain-cores : (front : List Numbered) → cores_of (plain front) ≡ cores_of front
plain-cores [] = refl
plain-cores (first ∷ rest) = refl

plain-gifts : (front : List Numbered) → all_gifts (plain front) ≡ all_gifts front
plain-gifts [] = refl
plain-gifts (n ∷ rest) = ap (λ more. gifts_of n.line ++ more) (plain-gifts rest)

-- a line more, with whatever number
pub plain-push : (front other : List Numbered) (n m : Numbered) → plain front ≡ plain other → n.line ≡ m.line →
    plain (front ++ n ∷ []) ≡ plain (other ++ m ∷ [])
plain-push front other n m same line =
    plain-end front n ∙ ap (λ ns. ns ++ numbered 0 n.line ∷ []) same ∙ ap (λ l. plain other ++ numbered 0 l ∷ []) line
    ∙ sym (plain-end other m)
  where
    plain-end : (front : List Numbered) (n : Numbered) → plain (front ++ n ∷ []) ≡ plain front ++ numbered 0 n.line ∷ []
    plain-end [] n = refl
    plain-end (m ∷ rest) n = ap (λ more. numbered 0 m.line ∷ more) (plain-end rest n)

-- where lines are the same but for their numbers, the same may follow them
pub follows : (front other : List Numbered) (line : TraceLine) → plain front ≡ plain other → MayFollow front line →
    MayFollow other line
follows front other line same may =
    let kind : may_stand other line ≡ may_stand front line =
    sym (plain-kind other line) ∙ ap (λ ns. may_stand ns line) (sym same) ∙ plain-kind front line in
    let cores : cores_of other ≡ cores_of front =
    sym (plain-cores other) ∙ ap cores_of (sym same) ∙ plain-cores front in
    let gifts : all_gifts other ≡ all_gifts front =
    sym (plain-gifts other) ∙ ap all_gifts (sym same) ∙ plain-gifts front in
    record {
      kind = kind ∙ may.kind;
      within = ap (λ k. first_passed (measures k line)) cores ∙ may.within;
      once = ap (λ gs. is_repeated gs (gifts_of line)) gifts ∙ may.once;
    }
