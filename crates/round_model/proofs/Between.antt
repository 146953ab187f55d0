-- A core between two positions, and the threads that have ended.
use Rattle.std.proofs.Common.{◌≡◌, ℕ, zero, suc, ◌+◌, ◌<◌, ◌≤◌, ltb, eqb, ◌&&◌, ◌||◌, Bool, true, false, List, [], ◌∷◌, ◌++◌, length, take, Some, refl, sym, ap, ap₂, ◌∙◌, arith, take_all}
use Rattle.std.specs.List.{list_any, range_with_len}
use Rattle.std.proofs.lemmas.Bool.Decides.{nat_tests}
use Rattle.std.proofs.lemmas.List.{length-append, take-append-le}
use Rattle.std.proofs.lemmas.List.Folds.{list_any-append}
use mathlib.Core.Option.{some}
use lib.ListN.{get_elem?}
use Rattle.policy_tree.specs.Meaning.{Meaning}
use Rattle.round_model.specs.declared.entry.Entry.{Entry}
use Rattle.round_model.specs.declared.entry.Entry.TheVariants as entry
use Rattle.round_model.specs.declared.plan.Plan.{Plan}
use Rattle.round_model.specs.declared.plan.Planned.{Planned}
use Rattle.round_model.specs.After.{after}
use Rattle.round_model.specs.Between.{HasEndedLaw, SameCoreLaw}
use Rattle.round_model.specs.Cores.{core_numbers}
use Rattle.round_model.specs.Entries.{acting_core, acts, ends}
use Rattle.round_model.specs.Kinds.{is_round}
use Rattle.round_model.specs.Legal.{LegalNext, has_ended}
use Rattle.round_model.specs.Reads.{round_start}
use Rattle.round_model.specs.Scenes.{own_entries}
use Rattle.round_model.proofs.Acting.{no_round}
use Rattle.round_model.proofs.Entering.{acting}
use Rattle.round_model.proofs.Grows.{untouched}
use Rattle.round_model.proofs.Histories.{legal_induction}
use Rattle.round_model.proofs.Longer.{done_more, own_more, own_none, start_of_round, start_stays, start_within}
use Rattle.round_model.proofs.There.{acts_there}

-- the entry at a position, and the history up to it
take_more : (h : List Entry) (k : ℕ) → k < length h → (e : Entry) × (get_elem? h k ≡ some e) × (take (suc k) h ≡ take k h ++ e ∷ [])
take_more [] k inside = absurd (omega arith)
take_more (x ∷ xs) zero inside = (x, refl, refl)
take_more (x ∷ xs) (suc k) inside = let rest = take_more xs k (omega arith) in (rest.0, rest.1, ap (λ (g : List Entry). x ∷ g) rest.2)

pub same_core : SameCoreLaw
same_core p plan h c first zero early within alone = let same : 0 ≡ first = omega arith in ap (λ (k : ℕ). after p plan (take k h) c) same
same_core p plan h c first (suc k) early within alone = by_place (ltb k first) refl (λ before. same_core p plan h c first k before (omega arith) (λ j e low high is. alone j e low (omega arith) is))
  where
    by_place : (b : Bool) → ltb k first ≡ b → (first ≤ k → after p plan (take k h) c ≡ after p plan (take first h) c) → after p plan (take (suc k) h) c ≡ after p plan (take first h) c
    by_place true late rest = let same : suc k ≡ first = grind (arith, nat_tests, early, late) in ap (λ (n : ℕ). after p plan (take n h) c) same
    by_place false late rest =
        let before : first ≤ k = grind (arith, nat_tests, late) in
        let last = take_more h k (omega arith) in
        ap (λ (g : List Entry). after p plan g c) last.2
        ∙ (untouched p plan (take k h) last.0 c (alone k last.0 before (omega arith) last.1)
        ∙ rest before)

-- tests of all cores
or_false : (b : Bool) → (b || false) ≡ b
or_false true = refl
or_false false = refl

or_true : (b : Bool) → (b || true) ≡ true
or_true true = refl
or_true false = refl

or_assoc : (a b c : Bool) → ((a || b) || c) ≡ (a || (b || c))
or_assoc true b c = refl
or_assoc false b c = refl

mixed : (a b x y : Bool) → ((a || b) || (x || y)) ≡ ((a || x) || (b || y))
mixed true b x y = refl
mixed false true true y = refl
mixed false true false y = refl
mixed false false x y = refl

any_same : (f g : ℕ → Bool) → ((c : ℕ) → f c ≡ g c) → (cores : List ℕ) → list_any f cores ≡ list_any g cores
any_same f g same [] = refl
any_same f g same (c ∷ cs) = ap₂ (λ (a b : Bool). a || b) (same c) (any_same f g same cs)

any_or : (f g : ℕ → Bool) (cores : List ℕ) → list_any (λ c. f c || g c) cores ≡ (list_any f cores || list_any g cores)
any_or f g [] = refl
any_or f g (c ∷ cs) = ap (λ b. (f c || g c) || b) (any_or f g cs) ∙ mixed (f c) (g c) (list_any f cs) (list_any g cs)

any_none : (f : ℕ → Bool) (cores : List ℕ) → list_any (λ c. f c && false) cores ≡ false
any_none f [] = refl
any_none f (c ∷ cs) = ap₂ (λ (a b : Bool). a || b) (and_false (f c)) (any_none f cs)
  where
    and_false : (b : Bool) → (b && false) ≡ false
    and_false true = refl
    and_false false = refl

any_there : (f : ℕ → Bool) (a : ℕ) → f a ≡ true → (from n : ℕ) → from ≤ a → a < from + n → list_any f (range_with_len from n) ≡ true
any_there f a is from zero early late = absurd (omega arith)
any_there f a is from (suc n) early late = by_first (eqb from a) refl (λ before. any_there f a is (from + 1) n before (omega arith))
  where
    by_first : (b : Bool) → eqb from a ≡ b → (from + 1 ≤ a → list_any f (range_with_len (from + 1) n) ≡ true) → (f from || list_any f (range_with_len (from + 1) n)) ≡ true
    by_first true here rest = let same : from ≡ a = grind (arith, nat_tests, here) in ap (λ b. b || list_any f (range_with_len (from + 1) n)) (ap f same ∙ is)
    by_first false later rest = let before : from + 1 ≤ a = grind (arith, nat_tests, later, early) in ap (λ b. f from || b) (rest before) ∙ or_true (f from)

-- what one core of them does
any_one : (test : Bool) (f : ℕ → Bool) (a n : ℕ) → f a ≡ true → a < n → list_any (λ c. f c && test) (range_with_len 0 n) ≡ test
any_one true f a n is inside = any_there (λ c. f c && true) a (ap (λ b. b && true) is) 0 n (omega arith) (omega arith)
any_one false f a n is inside = any_none f (range_with_len 0 n)

module _ (p : Meaning) (plan : Plan) (t : Planned) where
  abbrev ended_here : List Entry → Bool
  ended_here h = list_any (λ c. list_any (ends t.id) (own_entries h c)) (core_numbers plan)

  abbrev IsSplit : List Entry → Type 0
  IsSplit h = has_ended h t ≡ (has_ended (take (round_start h) h) t || ended_here h)

  by_round : (h : List Entry) (e : Entry) → is_round e ≡ true → IsSplit (h ++ e ∷ [])
  by_round h e is =
      let g : List Entry = h ++ e ∷ [] in
      let start = start_of_round h e is in
      let all : take (round_start g) g ≡ g = take_all (round_start g) g (omega (arith, start, length-append h (e ∷ []))) in
      let none : ended_here g ≡ false =
      any_same (λ c. list_any (ends t.id) (own_entries g c)) (λ c. false) (λ c. ap (list_any (ends t.id)) (own_none h e c is)) (core_numbers plan)
      ∙ any_none (λ c. true) (core_numbers plan) in
      sym (ap₂ (λ (x : List Entry) (b : Bool). has_ended x t || b) all none ∙ or_false (has_ended g t))

  by_core : (h : List Entry) (e : Entry) (a : ℕ) → acting_core e ≡ Some a → LegalNext p plan h e → IsSplit h → IsSplit (h ++ e ∷ [])
  by_core h e a is next before =
      let g : List Entry = h ++ e ∷ [] in
      let inner = no_round e a is in
      let test = ends t.id in
      let numbers = core_numbers plan in
      let now : has_ended g t ≡ (has_ended h t || test e) = list_any-append test h (e ∷ []) ∙ ap (λ b. has_ended h t || b) (or_false (test e)) in
      let front : take (round_start g) g ≡ take (round_start h) h = ap (λ (n : ℕ). take n g) (start_stays h e inner) ∙ take-append-le (round_start h) h (e ∷ []) (start_within h) in
      let here : ended_here g ≡ (ended_here h || test e) =
      any_same (λ c. list_any test (own_entries g c)) (λ c. list_any test (own_entries h c) || (acts c e && test e))
      (λ c. ap (list_any test) (own_more h e c inner) ∙ done_more test (own_entries h c) e c) numbers
      ∙ (any_or (λ c. list_any test (own_entries h c)) (λ c. acts c e && test e) numbers
      ∙ ap (λ b. ended_here h || b) (any_one (test e) (λ c. acts c e) a plan.cores ((acting a e).1 is) (acts_there p plan h e a is next))) in
      now
      ∙ (ap (λ b. b || test e) before
      ∙ (or_assoc (has_ended (take (round_start h) h) t) (ended_here h) (test e)
      ∙ sym (ap₂ (λ (x : List Entry) (b : Bool). has_ended x t || b) front here)))

  one_more : (h : List Entry) (e : Entry) → LegalNext p plan h e → IsSplit h → IsSplit (h ++ e ∷ [])
  one_more h (entry.Round number) next before = by_round h (entry.Round number) refl
  one_more h (entry.Enter thread a at reads) next before = by_core h (entry.Enter thread a at reads) a refl next before
  one_more h (entry.Wake thread a at reads) next before = by_core h (entry.Wake thread a at reads) a refl next before
  one_more h (entry.Work a did) next before = by_core h (entry.Work a did) a refl next before
  one_more h (entry.Steal a from threads reads) next before = by_core h (entry.Steal a from threads reads) a refl next before
  one_more h (entry.Fail a from reads) next before = by_core h (entry.Fail a from reads) a refl next before
  one_more h (entry.Pass a reads) next before = by_core h (entry.Pass a reads) a refl next before

  -- before the first entry no core has done anything
  at_first : IsSplit []
  at_first = sym (any_none (λ c. true) (core_numbers plan))

pub has_ended_split : HasEndedLaw
has_ended_split p plan h t legal = legal_induction p plan (IsSplit p plan t) (at_first p plan t) (λ g e so_far next before. one_more p plan t g e next before) h legal
