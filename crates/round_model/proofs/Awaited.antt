-- The threads that have yet to enter: no entry makes more of them, and who enters is none of them any more.
use Rattle.std.proofs.Common.{◌≡◌, ◌≢◌, ℕ, ◌+◌, ◌<◌, ◌⊎◌, inl, inr, ⊎_elim, nat_lt, ◌||◌, ◌&&◌, not, Bool, true, false, eqb, List, [], ◌∷◌, ◌++◌, length, get_or, find, All, refl, sym, ap, ap₂, ◌∙◌, arith}
use Rattle.std.specs.Prelude.{AllPairs}
use Rattle.std.proofs.lemmas.Bool.Decides.{nat_tests}
use Rattle.std.proofs.lemmas.List.{get_or_default}
use Rattle.std.proofs.lemmas.List.Folds.{list_any-append}
use Rattle.policy_tree.specs.Meaning.{Meaning}
use Rattle.round_model.specs.declared.entry.Entry.{Entry}
use Rattle.round_model.specs.declared.entry.Entry.TheVariants as entry
use Rattle.round_model.specs.declared.plan.Plan.{Plan}
use Rattle.round_model.specs.declared.plan.Planned.{Planned}
use Rattle.round_model.specs.After.{round_of}
use Rattle.round_model.specs.BoundsLaws.{has_entered, is_awaited}
use Rattle.round_model.specs.Entries.{acts, lets_in}
use Rattle.round_model.specs.Fits.{Fits}
use Rattle.round_model.specs.Kinds.{is_round}
use Rattle.round_model.specs.Legal.{Legal, LegalNext}
use Rattle.round_model.specs.Rows.{Row}
use Rattle.round_model.specs.Scenes.{entering_next, is_entering, own_entries, scene_of}
use Rattle.round_model.proofs.Acting.{acts_is, or_nothing}
use Rattle.round_model.proofs.Longer.{entering_more}
use Rattle.round_model.proofs.Entering.{as_planned, entering_parts}
use Rattle.round_model.proofs.Histories.{legal_induction, open_round}
use Rattle.round_model.proofs.Longer.{round_of_more}

-- one side of a true alternative holds
pub or_cases : (a b : Bool) → (a || b) ≡ true → (a ≡ true) ⊎ (b ≡ true)
or_cases true b is = inl refl
or_cases false b is = inr is

or_left : (a b : Bool) → a ≡ true → (a || b) ≡ true
or_left a b is = ap (λ x. x || b) is

or_right : (a b : Bool) → b ≡ true → (a || b) ≡ true
or_right true b is = refl
or_right false b is = is

less_true : (a b c : Bool) → (a || (b && c)) ≡ true → (a || b) ≡ true
less_true true b c is = refl
less_true false true c is = refl
less_true false false c is = is

and_false : (b : Bool) → (b && false) ≡ false
and_false true = refl
and_false false = refl

-- the thread of an entry that begins no round
awaited_more : (h : List Entry) (e : Entry) (t : Planned) → is_round e ≡ false → round_of (h ++ e ∷ []) ≡ round_of h → is_awaited (h ++ e ∷ []) t
    ≡ (nat_lt (round_of h) t.round || (is_entering (round_of h) t.core (own_entries h t.core) t && not (acts t.core e && lets_in t.id e)))
awaited_more h e t inner same =
    ap (λ r. nat_lt r t.round || is_entering r t.core (own_entries (h ++ e ∷ []) t.core) t) same
    ∙ ap (λ b. nat_lt (round_of h) t.round || b) (entering_more h e t.core t inner)

awaited_before : (h : List Entry) (e : Entry) → is_round e ≡ false → round_of (h ++ e ∷ []) ≡ round_of h → (t : Planned) → is_awaited (h ++ e ∷ []) t ≡ true → is_awaited h t ≡ true
awaited_before h e inner same t is =
    less_true (nat_lt (round_of h) t.round) (is_entering (round_of h) t.core (own_entries h t.core) t) (not (acts t.core e && lets_in t.id e)) (sym (awaited_more h e t inner same) ∙ is)

-- as the next round begins
awaited_begun : (h : List Entry) (number : ℕ) → number ≡ round_of h + 1 → (t : Planned) → is_awaited (h ++ entry.Round number ∷ []) t ≡ true → is_awaited h t ≡ true
awaited_begun h number next t is =
    let e = entry.Round number in
    let own = own_entries (h ++ e ∷ []) t.core in
    let round : round_of (h ++ e ∷ []) ≡ round_of h + 1 = round_of_more h e ∙ next in
    let later : nat_lt (round_of h) t.round ≡ true =
    ⊎_elim (λ (x : nat_lt (round_of (h ++ e ∷ [])) t.round ≡ true). grind (arith, nat_tests))
    (λ (x : is_entering (round_of (h ++ e ∷ [])) t.core own t ≡ true). let now = (entering_parts (round_of (h ++ e ∷ [])) t.core own t x).1 in grind (arith, nat_tests))
    (or_cases (nat_lt (round_of (h ++ e ∷ [])) t.round) (is_entering (round_of (h ++ e ∷ [])) t.core own t) is) in
    or_left (nat_lt (round_of h) t.round) (is_entering (round_of h) t.core (own_entries h t.core) t) later

-- who enters by its core in its round is awaited before, and not after
pub let_in_awaited : (h : List Entry) (t : Planned) (by : ℕ) → is_entering (round_of h) by (own_entries h by) t ≡ true → is_awaited h t ≡ true
let_in_awaited h t by passes =
    let parts = entering_parts (round_of h) by (own_entries h by) t passes in
    or_right (nat_lt (round_of h) t.round) (is_entering (round_of h) t.core (own_entries h t.core) t)
    (ap (λ (a : ℕ). is_entering (round_of h) a (own_entries h a) t) parts.0 ∙ passes)

let_in_gone : (h : List Entry) (thread by at : ℕ) (reads : List ℕ) (t : Planned) → t.id ≡ thread → t.core ≡ by → t.round ≡ round_of h
    → is_awaited (h ++ entry.Enter thread by at reads ∷ []) t ≡ false
let_in_gone h thread by at reads t id core round =
    let e = entry.Enter thread by at reads in
    let enters = is_entering (round_of h) t.core (own_entries h t.core) t in
    let past : nat_lt (round_of h) t.round ≡ false = grind (arith, nat_tests) in
    let acting : eqb by t.core ≡ true = grind (arith, nat_tests) in
    let acted : acts t.core e ≡ true = acts_is e by t.core refl ∙ acting in
    let let_in : eqb thread t.id ≡ true = grind (arith, nat_tests) in
    awaited_more h e t refl (round_of_more h e)
    ∙ (ap₂ (λ l x. l || (enters && not (x && eqb thread t.id))) past acted ∙ (ap (λ x. enters && not x) let_in ∙ and_false enters))

-- the threads of a plan have different numbers
same_thread : (threads : List Planned) → AllPairs (λ (t u : Planned). t.id ≢ u.id) threads → (i k : ℕ) (d : Planned) → i < length threads → k < length threads
    → (get_or threads i d).id ≡ (get_or threads k d).id → get_or threads i d ≡ get_or threads k d
same_thread threads distinct i k d first second same =
    elim (nat_lt i k) as (λ b. nat_lt i k ≡ b → get_or threads i d ≡ get_or threads k d) [
      | true ↦ λ before. absurd (distinct i k d (grind (arith, nat_tests)) second same)
      | false ↦ λ not_before. elim (nat_lt k i) as (λ b. nat_lt k i ≡ b → get_or threads i d ≡ get_or threads k d) [
        | true ↦ λ behind. absurd (distinct k i d (grind (arith, nat_tests)) first (sym same))
        | false ↦ λ not_behind. let one : i ≡ k = grind (arith, nat_tests) in ap (λ (j : ℕ). get_or threads j d) one
      ] refl
    ] refl

pub entered_more : (h : List Entry) (e : Entry) (t : Planned) → has_entered (h ++ e ∷ []) t ≡ (has_entered h t || lets_in t.id e)
entered_more h e t = list_any-append (lets_in t.id) h (e ∷ []) ∙ ap (λ b. has_entered h t || b) (or_nothing (lets_in t.id e))

-- who has yet to enter hasn't entered
abbrev pub IsFresh : Plan → List Entry → Type 0
IsFresh plan h = All (λ (t : Planned). is_awaited h t ≡ true → has_entered h t ≡ false) plan.threads

module _ (p : Meaning) (plan : Plan) where
  pub awaited_back : (h : List Entry) (e : Entry) → Legal p plan h → LegalNext p plan h e → (t : Planned) → is_awaited (h ++ e ∷ []) t ≡ true → is_awaited h t ≡ true
  unfolding LegalNext
  awaited_back h (entry.Round number) so_far legal t is =
      let next : number ≡ round_of h + 1 = legal.next ∙ ap (λ (r : ℕ). r + 1) (sym (open_round p plan h so_far)) in awaited_begun h number next t is
  awaited_back h (entry.Enter thread by at reads) so_far legal t is = let e = entry.Enter thread by at reads in awaited_before h e refl (round_of_more h e) t is
  awaited_back h (entry.Wake thread by at reads) so_far legal t is = let e = entry.Wake thread by at reads in awaited_before h e refl (round_of_more h e) t is
  awaited_back h (entry.Work by what) so_far legal t is = let e = entry.Work by what in awaited_before h e refl (round_of_more h e) t is
  awaited_back h (entry.Steal by from threads reads) so_far legal t is = let e = entry.Steal by from threads reads in awaited_before h e refl (round_of_more h e) t is
  awaited_back h (entry.Fail by from reads) so_far legal t is = let e = entry.Fail by from reads in awaited_before h e refl (round_of_more h e) t is
  awaited_back h (entry.Pass by reads) so_far legal t is = let e = entry.Pass by reads in awaited_before h e refl (round_of_more h e) t is

  -- an entry lets nobody in who is awaited after it
  not_let_in : Fits p plan → (h : List Entry) (e : Entry) → LegalNext p plan h e → (k : ℕ) (d : Planned) → k < length plan.threads
      → is_awaited (h ++ e ∷ []) (get_or plan.threads k d) ≡ true → lets_in (get_or plan.threads k d).id e ≡ false
  unfolding LegalNext Row scene_of entering_next
  not_let_in fits h (entry.Round number) legal k d inside is = refl
  not_let_in fits h (entry.Enter thread by at reads) legal k d inside is =
      let t = get_or plan.threads k d in
      let planned = as_planned plan (round_of h) by thread (own_entries h by) (find (is_entering (round_of h) by (own_entries h by)) plan.threads) refl legal.row.next in
      let u = planned.planned in
      let place = planned.of_plan in
      let there : get_or plan.threads place.0 d ≡ u = get_or_default plan.threads place.0 d u place.1 ∙ place.2 in
      elim (eqb thread t.id) as (λ b. eqb thread t.id ≡ b → b ≡ false) [
        | true ↦ λ test.
            let named : thread ≡ t.id = grind (arith, nat_tests) in
            let same : u ≡ t = sym there ∙ same_thread plan.threads fits.distinct place.0 k d place.1 inside (ap (λ (x : Planned). x.id) there ∙ (planned.id ∙ named)) in
            let gone = let_in_gone h thread by at reads t (sym named) (ap (λ (x : Planned). x.core) (sym same) ∙ planned.core) (ap (λ (x : Planned). x.round) (sym same) ∙ planned.in_round) in
            absurd (cc)
        | false ↦ λ test. refl
      ] refl
  not_let_in fits h (entry.Wake thread by at reads) legal k d inside is = refl
  not_let_in fits h (entry.Work by what) legal k d inside is = refl
  not_let_in fits h (entry.Steal by from threads reads) legal k d inside is = refl
  not_let_in fits h (entry.Fail by from reads) legal k d inside is = refl
  not_let_in fits h (entry.Pass by reads) legal k d inside is = refl

  pub fresh : Fits p plan → (h : List Entry) → Legal p plan h → IsFresh plan h
  fresh fits h legal = legal_induction p plan (IsFresh plan) (λ k d inside is. refl) more h legal
    where
      more : (g : List Entry) (e : Entry) → Legal p plan g → LegalNext p plan g e → IsFresh plan g → IsFresh plan (g ++ e ∷ [])
      more g e so_far next before k d inside is =
          let t = get_or plan.threads k d in
          entered_more g e t ∙ ap₂ (λ x y. x || y) (before k d inside (awaited_back g e so_far next t is)) (not_let_in fits g e next k d inside is)
