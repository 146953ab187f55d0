-- What one more entry changes.
use Rattle.std.proofs.Common.{◌≡◌, ℕ, zero, suc, ◌<◌, cond, List, [], ◌∷◌, ◌++◌, length, take, fold, refl, sym, ap, ◌∙◌, subst, ⊎_elim, inl, inr, ◌⊎◌, arith, take_all}
use Rattle.std.proofs.lemmas.List.{take-append-le, take-take}
use mathlib.Core.Option.{some, some-ne-none, some-injective}
use lib.ListN.{get_elem?}
use Rattle.policy_tree.specs.Meaning.{Meaning}
use Rattle.round_model.specs.declared.entry.Entry.{Entry}
use Rattle.round_model.specs.declared.plan.Plan.{Plan}
use Rattle.round_model.specs.After.{after, after_from, effect, moved, round_after, round_of}
use Rattle.round_model.specs.Cores.{Cores, opening_state}
use Rattle.round_model.specs.Laws.{LegalGrows, OneMoreLaw, PrefixLaw, UntouchedLaw}
use Rattle.round_model.specs.Legal.{Legal, LegalNext}

-- an entry of a list with one more at its end is one of the list, or that one
pub at_end : {A : Type 0} (h : List A) (e x : A) (k : ℕ) → get_elem? (h ++ e ∷ []) k ≡ some x → ((k < length h) × (get_elem? h k ≡ some x)) ⊎ ((k ≡ length h) × (e ≡ x))
at_end [] e x zero is = inr (refl, some-injective e x is)
at_end [] e x (suc k) is = absurd (some-ne-none x (sym is))
at_end (y ∷ ys) e x zero is = inl (omega arith, is)
at_end (y ∷ ys) e x (suc k) is = ⊎_elim (λ t. inl (omega (arith, t.0), t.1)) (λ t. inr (ap suc t.0, t.1)) (at_end ys e x k is)

-- the entry at the end
pub end_of : {A : Type 0} (h : List A) (e : A) → get_elem? (h ++ e ∷ []) (length h) ≡ some e
end_of [] e = refl
end_of (y ∷ ys) e = end_of ys e

-- an item of the first n
pub in_front : {A : Type 0} (h : List A) (x : A) (n k : ℕ) → get_elem? (take n h) k ≡ some x → (k < n) × (get_elem? h k ≡ some x)
in_front h x zero k is = absurd (some-ne-none x (sym is))
in_front [] x (suc n) k is = absurd (some-ne-none x (sym is))
in_front (y ∷ ys) x (suc n) zero is = (omega arith, is)
in_front (y ∷ ys) x (suc n) (suc k) is = let rest = in_front ys x n k is in (omega (arith, rest.0), rest.1)

after_from-push : (p : Meaning) (plan : Plan) (round : ℕ) (m : Cores) (h : List Entry) (e : Entry)
    → after_from p plan round m (h ++ e ∷ []) ≡ moved p plan (fold round_after round h) e (after_from p plan round m h)
unfolding after_from
after_from-push p plan round m [] e = refl
after_from-push p plan round m (x ∷ xs) e = after_from-push p plan (round_after round x) (moved p plan round x m) xs e

pub one_more : OneMoreLaw
one_more p plan h e = after_from-push p plan 0 (opening_state plan) h e

pub untouched : UntouchedLaw
untouched p plan h e c not =
    ap (λ (m : Cores). m c) (one_more p plan h e)
    ∙ ap (λ b. cond b (effect p plan (round_of h) e (after p plan h) c) (after p plan h c)) not

legal_more : (p : Meaning) (plan : Plan) (h : List Entry) (e : Entry) → Legal p plan h → LegalNext p plan h e → Legal p plan (h ++ e ∷ [])
legal_more p plan h e legal next k x is = ⊎_elim
    (λ (t : (k < length h) × (get_elem? h k ≡ some x)). subst (λ g. LegalNext p plan g x) (sym (take-append-le k h (e ∷ []) (omega (arith, t.0)))) (legal k x t.1))
    (λ (t : (k ≡ length h) × (e ≡ x)).
    subst (λ g. LegalNext p plan g x) (sym (take-append-le k h (e ∷ []) (omega (arith, t.0))))
    (subst (λ (y : Entry). LegalNext p plan (take k h) y) t.1 (subst (λ g. LegalNext p plan g e) (sym (take_all k h (omega (arith, t.0)))) next)))
    (at_end h e x k is)

legal_last : (p : Meaning) (plan : Plan) (h : List Entry) (e : Entry) → Legal p plan (h ++ e ∷ []) → LegalNext p plan h e
legal_last p plan h e legal =
    subst (λ g. LegalNext p plan g e) (take-append-le (length h) h (e ∷ []) (omega arith) ∙ take_all (length h) h (omega arith)) (legal (length h) e (end_of h e))

pub legal_grows : LegalGrows
legal_grows = record { grows = legal_more; last = legal_last }

pub legal_prefix : PrefixLaw
legal_prefix p plan h n legal k x is =
    let front = in_front h x n k is in
    subst (λ g. LegalNext p plan g x) (sym (take-take k n h (omega (arith, front.0)))) (legal k x front.1)
