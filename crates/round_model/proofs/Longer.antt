-- What one entry more makes of the open round: its start, its number, and each core's own entries.
use Rattle.std.proofs.Common.{◌≡◌, ℕ, suc, ◌+◌, ◌≤◌, ◌||◌, ◌&&◌, Bool, true, false, cond, List, [], ◌∷◌, ◌++◌, drop, filter, length, refl, ap, ◌∙◌, arith, ◌==◌, not}
use Rattle.std.specs.List.{list_any}
use Rattle.std.proofs.Math.Seq.{drop-append-add}
use Rattle.std.proofs.lemmas.List.{drop-append-le}
use Rattle.std.proofs.lemmas.List.Elements.{filter-append}
use Rattle.std.proofs.lemmas.List.Folds.{list_any-append}
use Rattle.std.proofs.lemmas.List.Sums.{fold-append, sum_by-append, sum_by-cons}
use Rattle.round_model.specs.declared.entry.Entry.{Entry}
use Rattle.round_model.specs.After.{round_after, round_of}
use Rattle.round_model.specs.Entries.{acts, lets_in}
use Rattle.round_model.specs.Kinds.{is_round}
use Rattle.round_model.specs.Legal.{rounds_begun}
use Rattle.round_model.specs.Reads.{round_start, start_from}
use Rattle.round_model.specs.Scenes.{own_entries, is_entering}
use Rattle.round_model.specs.declared.plan.Planned.{Planned}

start_from-push : (k start : ℕ) (h : List Entry) (e : Entry) → start_from k start (h ++ e ∷ []) ≡ cond (is_round e) (k + length h + 1) (start_from k start h)
start_from-push k start [] e = ap (λ (n : ℕ). cond (is_round e) n start) (omega arith)
start_from-push k start (x ∷ xs) e =
    let before = cond (is_round x) (suc k) start in
    start_from-push (suc k) before xs e
    ∙ ap (λ (n : ℕ). cond (is_round e) n (start_from (suc k) before xs)) (omega arith)

-- the round starts behind its Round, and else where it did
pub start_of_round : (h : List Entry) (e : Entry) → is_round e ≡ true → round_start (h ++ e ∷ []) ≡ length h + 1
start_of_round h e is = start_from-push 0 0 h e ∙ ap (λ b. cond b (0 + length h + 1) (round_start h)) is ∙ omega arith

pub start_stays : (h : List Entry) (e : Entry) → is_round e ≡ false → round_start (h ++ e ∷ []) ≡ round_start h
start_stays h e is = start_from-push 0 0 h e ∙ ap (λ b. cond b (0 + length h + 1) (round_start h)) is

start_from-le : (k start : ℕ) (h : List Entry) → start ≤ k → start_from k start h ≤ k + length h
start_from-le k start [] below = omega arith
start_from-le k start (x ∷ xs) below =
    elim (is_round x) as (λ b. start_from (suc k) (cond b (suc k) start) xs ≤ k + suc (length xs)) [
      | true ↦ let rest = start_from-le (suc k) (suc k) xs (omega arith) in omega arith
      | false ↦ let rest = start_from-le (suc k) start xs (omega arith) in omega arith
    ]

-- the round starts within the history
pub start_within : (h : List Entry) → round_start h ≤ length h
start_within h = let bound = start_from-le 0 0 h (omega arith) in omega arith

-- a core's own entries, with one that begins no round
pub own_more : (h : List Entry) (e : Entry) (a : ℕ) → is_round e ≡ false → own_entries (h ++ e ∷ []) a ≡ own_entries h a ++ filter (acts a) (e ∷ [])
own_more h e a is =
    ap (λ (n : ℕ). filter (acts a) (drop n (h ++ e ∷ []))) (start_stays h e is)
    ∙ (ap (filter (acts a)) (drop-append-le (round_start h) h (e ∷ []) (start_within h))
    ∙ filter-append (acts a) (drop (round_start h) h) (e ∷ []))

-- as a round begins nobody has done anything
pub own_none : (h : List Entry) (e : Entry) (a : ℕ) → is_round e ≡ true → own_entries (h ++ e ∷ []) a ≡ []
own_none h e a is =
    ap (λ (n : ℕ). filter (acts a) (drop n (h ++ e ∷ []))) (start_of_round h e is)
    ∙ ap (filter (acts a)) (drop-append-add h (e ∷ []) 1)

-- something done, with one entry more
pub done_more : (test : Entry → Bool) (own : List Entry) (e : Entry) (a : ℕ)
    → list_any test (own ++ filter (acts a) (e ∷ [])) ≡ (list_any test own || (acts a e && test e))
done_more test own e a =
    list_any-append test own (filter (acts a) (e ∷ []))
    ∙ ap (λ b. list_any test own || b) (elim (acts a e) as (λ b. list_any test (cond b (e ∷ []) []) ≡ (b && test e)) [ true ↦ or_false (test e) | false ↦ refl ])
  where
    or_false : (b : Bool) → (b || false) ≡ b
    or_false true = refl
    or_false false = refl

pub begun_more : (h : List Entry) (e : Entry) → rounds_begun (h ++ e ∷ []) ≡ rounds_begun h + cond (is_round e) 1 0
begun_more h e =
    let counted : Entry → ℕ = λ x. cond (is_round x) 1 0 in
    sum_by-append counted h (e ∷ []) ∙ ap (λ (n : ℕ). rounds_begun h + n) (sum_by-cons counted e [] ∙ omega arith)

pub round_of_more : (h : List Entry) (e : Entry) → round_of (h ++ e ∷ []) ≡ round_after (round_of h) e
round_of_more h e = fold-append round_after 0 h (e ∷ [])

-- who has yet to enter, with one entry more
pub entering_more : (h : List Entry) (e : Entry) (a : ℕ) (t : Planned) → is_round e ≡ false
    → is_entering (round_of h) a (own_entries (h ++ e ∷ []) a) t ≡ (is_entering (round_of h) a (own_entries h a) t && not (acts a e && lets_in t.id e))
entering_more h e a t inner =
    ap (λ (own : List Entry). is_entering (round_of h) a own t) (own_more h e a inner)
    ∙ (ap (λ b. (t.core == a) && (t.round == round_of h) && not b) (done_more (lets_in t.id) (own_entries h a) e a)
    ∙ split ((t.core == a) && (t.round == round_of h)) (list_any (lets_in t.id) (own_entries h a)) (acts a e && lets_in t.id e))
  where
    split : (first second third : Bool) → (first && not (second || third)) ≡ ((first && not second) && not third)
    split true true third = refl
    split true false third = refl
    split false second third = refl
