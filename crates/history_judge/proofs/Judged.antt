-- Where a history stops being legal.
use Rattle.std.proofs.Common.{◌≡◌, ℕ, suc, zero, ◌+◌, ◌<◌, inl, inr, List, [], ◌∷◌, ◌++◌, length, take, slice_get, Some, sym, ap, subst, ◌∙◌, arith}
use Rattle.std.proofs.lemmas.Bool.{cases_order}
use Rattle.std.proofs.lemmas.List.{length-take-le, take-take, take_more}
use Rattle.std.proofs.lemmas.Option.{get_or_from_slice_get, slice_get_within}
use mathlib.Core.Option.{some}
use lib.ListN.{get_elem?}
use Rattle.policy_tree.specs.Meaning.{Meaning}
use Rattle.round_model.specs.declared.entry.Entry.{Entry}
use Rattle.round_model.specs.declared.plan.Plan.{Plan}
use Rattle.round_model.specs.Legal.{Legal, LegalNext}
use Rattle.round_model.proofs.Grows.{end_of, in_front}
use Rattle.history_judge.specs.Judgement.{IsFirstIllegal}
use Rattle.history_judge.specs.Laws.{OneJudgement}

-- the entries up to one and that one
pub take_next : (entries : List Entry) (at : ℕ) (e : Entry) → slice_get entries at ≡ Some e → take (at + 1) entries ≡ take at entries ++ e ∷ []
take_next entries at e is =
    let inside = slice_get_within entries at e is in
    take_more entries at e inside ∙ ap (λ (x : Entry). take at entries ++ x ∷ []) (get_or_from_slice_get entries at e e is)

-- it stands where it was found
stands_at : (entries : List Entry) (at : ℕ) (e : Entry) → slice_get entries at ≡ Some e → get_elem? entries at ≡ some e
stands_at entries at e is =
    let inside = slice_get_within entries at e is in
    let long : length (take at entries) ≡ at = length-take-le at entries (omega arith) in
    let last : get_elem? (take at entries ++ e ∷ []) at ≡ some e = subst (λ (k : ℕ). get_elem? (take at entries ++ e ∷ []) k ≡ some e) long (end_of (take at entries) e) in
    (in_front entries e (at + 1) at (subst (λ (h : List Entry). get_elem? h at ≡ some e) (sym (take_next entries at e is)) last)).1

pub illegal_at : (p : Meaning) (plan : Plan) (entries : List Entry) (at : ℕ) (e : Entry) → slice_get entries at ≡ Some e → Legal p plan (take at entries)
    → (LegalNext p plan (take at entries) e → ⊥) → IsFirstIllegal p plan entries at
illegal_at p plan entries at e is legal not_next = record {
  before = legal;
  entry = e;
  stands = stands_at entries at e is;
  illegal = not_next;
}

-- what stands among the first n
among : (xs : List Entry) (x : Entry) (k n : ℕ) → k < n → get_elem? xs k ≡ some x → get_elem? (take n xs) k ≡ some x
among xs x k zero less is = absurd (omega (arith, less))
among [] x k (suc n) less is = is
among (y ∷ ys) x zero (suc n) less is = is
among (y ∷ ys) x (suc k) (suc n) less is = among ys x k n (omega (arith, less)) is

-- a legal history has no first illegal entry
legal_through : (p : Meaning) (plan : Plan) (history : List Entry) (position : ℕ) → Legal p plan history → IsFirstIllegal p plan history position → ⊥
legal_through p plan history position legal first = first.illegal (legal position first.entry first.stands)

-- and none has one before another
none_before : (p : Meaning) (plan : Plan) (history : List Entry) (one two : ℕ) → one < two → IsFirstIllegal p plan history one → IsFirstIllegal p plan history two → ⊥
none_before p plan history one two before first second =
    first.illegal (subst (λ (h : List Entry). LegalNext p plan h first.entry) (take-take one two history (omega (arith, before)))
    (second.before one first.entry (among history first.entry one two before first.stands)))

pub one_judgement : OneJudgement
one_judgement = record {
  legal = legal_through;
  one_position = λ p plan history one two first second. by p plan history one two first second;
}
  where
    by : (p : Meaning) (plan : Plan) (history : List Entry) (one two : ℕ) → IsFirstIllegal p plan history one → IsFirstIllegal p plan history two → one ≡ two
    by p plan history one two first second = elim (cases_order one two) [
      | inl same ↦ same
      | inr other ↦ elim other [ inl less ↦ absurd (none_before p plan history one two less first second) | inr more ↦ absurd (none_before p plan history two one more second first) ]
    ]
