-- The arrivals of a past with an entry of one core more.
use Rattle.std.proofs.Common.{◌≡◌, ◌≢◌, eqb, map, find, ℕ, suc, ◌&&◌, not, Bool, true, false, cond, List, [], ◌∷◌, ◌++◌, filter, get_or, All, Some, refl, sym, ap, ap₂, subst, ◌∙◌, arith}
use Rattle.std.specs.Prelude.{AllPairs, IsSomeAnd}
use Rattle.std.proofs.lemmas.Bool.Decides.{nat_tests}
use Rattle.policy_tree.specs.Meaning.{Meaning}
use Rattle.round_model.specs.declared.entry.Entry.{Entry}
use Rattle.round_model.specs.declared.entry.Entry.TheVariants as entry
use Rattle.round_model.specs.declared.plan.Plan.{Plan}
use Rattle.round_model.specs.declared.plan.Planned.{Planned}
use Rattle.round_model.specs.Fits.{Fits}
use Rattle.round_model.specs.After.{round_of}
use Rattle.round_model.specs.Entries.{acting_core, acts, lets_in}
use Rattle.round_model.specs.Kinds.{is_round}
use Rattle.round_model.specs.Legal.{LegalNext}
use Rattle.round_model.specs.Moves.{without_first}
use Rattle.round_model.specs.Rows.{Row}
use Rattle.round_model.specs.Scenes.{entering_next, is_entering, own_entries, scene_of}
use Rattle.round_model.proofs.Acting.{acts_is, round_stays}
use Rattle.round_model.proofs.Longer.{round_of_more, entering_more}
use Rattle.round_judge.specs.declared.past.Arrival.{Arrival}
use Rattle.round_judge.specs.Past.{Awaits, arrival_of, arrives_at}
use Rattle.round_judge.specs.Additions.{arrivals_after}

-- all but the first
abbrev rest_of : {X : Type 0} → List X → List X
rest_of [] = []
rest_of (x ∷ xs) = xs

map_rest : {X Y : Type 0} (f : X → Y) (xs : List X) → map f (rest_of xs) ≡ rest_of (map f xs)
map_rest f [] = refl
map_rest f (x ∷ xs) = refl

same_filter : {X : Type 0} (f g : X → Bool) (xs : List X) → All (λ x. f x ≡ g x) xs → filter f xs ≡ filter g xs
same_filter f g [] same = refl
same_filter f g (x ∷ xs) same =
    ap₂ (λ (b : Bool) (rest : List _). cond b (x ∷ rest) rest) (same 0 x (omega arith)) (same_filter f g xs (λ k d inside. same (suc k) d (omega arith)))

-- of those that pass the first goes
without_of_same : {X : Type 0} (test : X → Bool) (xs : List X) → filter test (without_first test xs) ≡ rest_of (filter test xs)
without_of_same test [] = refl
without_of_same test (x ∷ xs) =
    elim (test x) as (λ b. test x ≡ b → filter test (cond b xs (x ∷ without_first test xs)) ≡ rest_of (cond b (x ∷ filter test xs) (filter test xs))) [
      | true ↦ λ is. refl
      | false ↦ λ is. ap (λ b. cond b (x ∷ filter test (without_first test xs)) (filter test (without_first test xs))) is ∙ without_of_same test xs
    ] refl

-- and none of those that don't
without_of_other : {X : Type 0} (first test : X → Bool) (xs : List X) → ((x : X) → first x ≡ true → test x ≡ false) → filter test (without_first first xs) ≡ filter test xs
without_of_other first test [] apart = refl
without_of_other first test (x ∷ xs) apart =
    elim (first x) as (λ b. first x ≡ b → filter test (cond b xs (x ∷ without_first first xs)) ≡ filter test (x ∷ xs)) [
      | true ↦ λ is. sym (ap (λ b. cond b (x ∷ filter test xs) (filter test xs)) (apart x is))
      | false ↦ λ is. ap (λ (rest : List _). cond (test x) (x ∷ rest) rest) (without_of_other first test xs apart)
    ] refl

other_arrival : (by a : ℕ) → eqb by a ≡ false → (x : Arrival) → arrives_at by x ≡ true → arrives_at a x ≡ false
other_arrival by a apart x is = grind (arith, nat_tests)

-- once the first of the threads that pass is in, the others are left
others_left : (test : Planned → Bool) (thread : ℕ) (threads : List Planned) → AllPairs (λ (t u : Planned). t.id ≢ u.id) threads
    → IsSomeAnd (find test threads) (λ (t : Planned). t.id ≡ thread)
    → filter (λ (t : Planned). test t && not (eqb thread t.id)) threads ≡ rest_of (filter test threads)
others_left test thread [] distinct next = absurd next
others_left test thread (t ∷ threads) distinct next =
    let after : Planned → Bool = λ x. test x && not (eqb thread x.id) in
    elim (test t) as (λ b. test t ≡ b → IsSomeAnd (cond b (Some t) (find test threads)) (λ (x : Planned). x.id ≡ thread)
    → cond (b && not (eqb thread t.id)) (t ∷ filter after threads) (filter after threads) ≡ rest_of (cond b (t ∷ filter test threads) (filter test threads))) [
      | true ↦ λ is one.
          let own : eqb thread t.id ≡ true = grind (arith, nat_tests) in
          ap (λ b. cond (true && not b) (t ∷ filter after threads) (filter after threads)) own
          ∙ same_filter after test threads (λ k d inside.
          let x = get_or threads k d in
          let apart : t.id ≢ x.id = distinct 0 (suc k) d (omega arith) (omega arith) in
          let other : eqb thread x.id ≡ false = grind (arith, nat_tests) in
          ap (λ b. test x && not b) other ∙ and_true (test x))
      | false ↦ λ is one. others_left test thread threads (λ i j d before inside. distinct (suc i) (suc j) d (omega arith) (omega arith)) one
    ] refl next
  where
    and_true : (b : Bool) → (b && true) ≡ b
    and_true true = refl
    and_true false = refl

-- an entry that lets nobody in leaves the arrivals
none_in : (plan : Plan) (h : List Entry) (e : Entry) (arrivals : List Arrival) (a : ℕ) → is_round e ≡ false → ((id : ℕ) → (acts a e && lets_in id e) ≡ false)
    → Awaits plan h arrivals → filter (arrives_at a) arrivals ≡ map arrival_of (filter (is_entering (round_of h) a (own_entries (h ++ e ∷ []) a)) plan.threads)
none_in plan h e arrivals a inner none awaits =
    let before : Planned → Bool = is_entering (round_of h) a (own_entries h a) in
    awaits.at_core a
    ∙ sym (ap (map arrival_of) (same_filter (is_entering (round_of h) a (own_entries (h ++ e ∷ []) a)) before plan.threads (λ k d inside.
    let t = get_or plan.threads k d in
    entering_more h e a t inner ∙ (ap (λ b. before t && not b) (none t.id) ∙ and_true (before t)))))
  where
    and_true : (b : Bool) → (b && true) ≡ b
    and_true true = refl
    and_true false = refl

none_by : (b : Bool) → (b && false) ≡ false
none_by true = refl
none_by false = refl

module _ (p : Meaning) (plan : Plan) (h : List Entry) (arrivals : List Arrival) where
  -- who is left for a core once the core `by` let the thread in
  left_at : (thread by at : ℕ) (reads : List ℕ) (a : ℕ) → Fits p plan → Awaits plan h arrivals
      → IsSomeAnd (entering_next plan (round_of h) by (own_entries h by)) (λ (t : Planned). t.id ≡ thread)
      → filter (arrives_at a) (without_first (arrives_at by) arrivals)
      ≡ map arrival_of (filter (is_entering (round_of h) a (own_entries (h ++ entry.Enter thread by at reads ∷ []) a)) plan.threads)
  unfolding entering_next
  left_at thread by at reads a fits awaits next =
      let e = entry.Enter thread by at reads in
      let acting = acts_is e by a refl in
      elim (eqb by a) as (λ b. eqb by a ≡ b → filter (arrives_at a) (without_first (arrives_at by) arrivals) ≡ map arrival_of (filter (is_entering (round_of h) a (own_entries (h ++ e ∷ []) a)) plan.threads)) [
        | true ↦ λ same.
            let one : by ≡ a = grind (arith, nat_tests) in
            let before : Planned → Bool = is_entering (round_of h) a (own_entries h a) in
            let mine = subst (λ (c : ℕ). IsSomeAnd (find (is_entering (round_of h) c (own_entries h c)) plan.threads) (λ (t : Planned). t.id ≡ thread)) one next in
            ap (λ (c : ℕ). filter (arrives_at a) (without_first (arrives_at c) arrivals)) one
            ∙ (without_of_same (arrives_at a) arrivals
            ∙ (ap rest_of (awaits.at_core a)
            ∙ (sym (map_rest arrival_of (filter before plan.threads))
            ∙ ap (map arrival_of) (sym (others_left before thread plan.threads fits.distinct mine)
            ∙ sym (same_filter (is_entering (round_of h) a (own_entries (h ++ e ∷ []) a)) (λ (t : Planned). before t && not (eqb thread t.id)) plan.threads (λ k d inside.
            let t = get_or plan.threads k d in
            entering_more h e a t refl ∙ ap (λ b. before t && not (b && eqb thread t.id)) (acting ∙ same)))))))
        | false ↦ λ apart.
            without_of_other (arrives_at by) (arrives_at a) arrivals (other_arrival by a apart)
            ∙ none_in plan h e arrivals a refl (λ id. ap (λ b. b && lets_in id e) (acting ∙ apart)) awaits
      ] refl

  -- the arrivals after a legal entry of the core
  pub arrivals_added : (e : Entry) (by : ℕ) → Fits p plan → acting_core e ≡ Some by → LegalNext p plan h e → Awaits plan h arrivals
      → Awaits plan (h ++ e ∷ []) (arrivals_after by e arrivals)
  unfolding LegalNext Row scene_of
  arrivals_added e by fits acting legal awaits = record {
    at_core = λ a. now a e acting legal ∙ ap (λ (r : ℕ). map arrival_of (filter (is_entering r a (own_entries (h ++ e ∷ []) a)) plan.threads)) (sym (round_of_more h e ∙ round_stays e by (round_of h) acting));
  }
    where
      now : (a : ℕ) (x : Entry) → acting_core x ≡ Some by → LegalNext p plan h x
          → filter (arrives_at a) (arrivals_after by x arrivals) ≡ map arrival_of (filter (is_entering (round_of h) a (own_entries (h ++ x ∷ []) a)) plan.threads)
      now a (entry.Round number) is next = absurd (cc)
      now a (entry.Enter thread c at reads) is next =
          let same : c ≡ by = cc in
          subst (λ (b : ℕ). filter (arrives_at a) (without_first (arrives_at b) arrivals) ≡ map arrival_of (filter (is_entering (round_of h) a (own_entries (h ++ entry.Enter thread c at reads ∷ []) a)) plan.threads)) same
          (left_at thread c at reads a fits awaits next.row.next)
      now a (entry.Wake thread c at reads) is next = none_in plan h (entry.Wake thread c at reads) arrivals a refl (λ id. none_by (acts a (entry.Wake thread c at reads))) awaits
      now a (entry.Work c what) is next = none_in plan h (entry.Work c what) arrivals a refl (λ id. none_by (acts a (entry.Work c what))) awaits
      now a (entry.Steal c from threads reads) is next = none_in plan h (entry.Steal c from threads reads) arrivals a refl (λ id. none_by (acts a (entry.Steal c from threads reads))) awaits
      now a (entry.Fail c from reads) is next = none_in plan h (entry.Fail c from reads) arrivals a refl (λ id. none_by (acts a (entry.Fail c from reads))) awaits
      now a (entry.Pass c reads) is next = none_in plan h (entry.Pass c reads) arrivals a refl (λ id. none_by (acts a (entry.Pass c reads))) awaits
