-- Each thread stands where its phase says, by induction over the legal history.
use Rattle.std.proofs.Common.{◌≡◌, ℕ, ◌+◌, ◌<◌, ◌≤◌, ◌&&◌, eqb, Bool, true, false, List, [], ◌∷◌, ◌++◌, find, map, take, sum_by, Option, Some, None, IsSomeAnd, refl, sym, ap, ap₂, subst, arith}
use Rattle.std.specs.Option.{is_some}
use Rattle.std.proofs.lemmas.Bool.Decides.{nat_tests}
use Rattle.std.proofs.lemmas.List.Sums.{fold-append, sum_by-cons}
use Rattle.policy_tree.specs.Meaning.{Meaning}
use Rattle.policy_eval.specs.Obligations.{MeetsHandlerObligations}
use Rattle.round_model.specs.declared.entry.Entry.{Entry}
use Rattle.round_model.specs.declared.entry.Entry.TheVariants as entry
use Rattle.round_model.specs.declared.plan.Plan.{Plan}
use Rattle.round_model.specs.declared.plan.Planned.{Planned}
use Rattle.round_model.specs.declared.state.Blocked.{Blocked}
use Rattle.round_model.specs.After.{after, after_from, moved, round_of}
use Rattle.round_model.specs.BoundsLaws.{is_awaited}
use Rattle.round_model.specs.Cores.{Cores, core_numbers, opening_state}
use Rattle.round_model.specs.Fits.{Fits}
use Rattle.round_model.specs.Kept.{Holds}
use Rattle.round_model.specs.Legal.{Legal, LegalNext}
use Rattle.round_model.specs.Moves.{is_blocked_task}
use Rattle.round_model.specs.OnePlace.{OnePlaceLaw}
use Rattle.round_model.specs.Phases.{Stands, blocked_places_of, outside, phase_after, phase_of, places_of}
use Rattle.round_model.specs.Rows.{Row}
use Rattle.round_model.specs.Fitting.{AreThere}
use Rattle.round_model.specs.Scenes.{entering_next, is_due_blocked, is_entering, own_entries, scene_of, waking_next}
use Rattle.round_model.proofs.Awaited.{let_in_awaited}
use Rattle.round_model.proofs.Counting.{counted}
use Rattle.round_model.proofs.Bounded.{bounds_law}
use Rattle.round_model.proofs.Directories.{is_thread}
use Rattle.round_model.proofs.Finding.{find-passes}
use Rattle.round_model.proofs.Grows.{legal_prefix, one_more}
use Rattle.round_model.proofs.Histories.{legal_induction}
use Rattle.round_model.proofs.Keeping.{bounds_hold}
use Rattle.round_model.proofs.Moved.{unmoved_fail, unmoved_pass, unmoved_round}
use Rattle.round_model.proofs.Owing.{none_found, some_counted}
use Rattle.round_model.proofs.There.{are_there}
use Rattle.round_model.proofs.Totals.{total_is}
use Rattle.round_laws.proofs.ThreadChanges.{AsMoved, one_of, stands_moved}
use Rattle.round_laws.proofs.CountedPlaces.{blocked_at, places_at}
use Rattle.round_laws.proofs.SummedPlaces.{all_blocked, all_places, enter_sums, same_cores, steal_sums, wake_sums, work_sums}

-- what is found by one test passes another, so something is found by that one too
found_too : {X : Type 0} (test other : X → Bool) (xs : List X) (x : X) → find test xs ≡ Some x → other x ≡ true → (y : X) × (find other xs ≡ Some y)
found_too test other xs x is passes = by_found (find other xs) refl
  where
    by_found : (found : Option _) → find other xs ≡ found → (y : _) × (find other xs ≡ Some y)
    by_found None none =
        let some = some_counted test other xs x is passes in
        let nothing = none_found other xs (ap is_some none) in
        absurd (omega arith)
    by_found (Some y) found = (y, found)

module _ (p : Meaning) (plan : Plan) (fits : Fits p plan) (handlers : MeetsHandlerObligations p) (id : ℕ) where
  -- the thread stands as its phase says, by sums over the cores
  abbrev StandsAfter : List Entry → Type 0
  StandsAfter h = Stands (phase_of id h) (all_places id plan.cores (after p plan h)) (all_blocked id plan.cores (after p plan h))

  -- before the first entry it stands nowhere
  none_open : (cores : List ℕ) → (sum_by (places_at id) (map (opening_state plan) cores) ≡ 0) × (sum_by (blocked_at id) (map (opening_state plan) cores) ≡ 0)
  unfolding opening_state
  none_open [] = (refl, refl)
  none_open (c ∷ cores) =
      let rest = none_open cores in (
        omega (arith, sum_by-cons (places_at id) (opening_state plan c) (map (opening_state plan) cores), rest.0),
        omega (arith, sum_by-cons (blocked_at id) (opening_state plan c) (map (opening_state plan) cores), rest.1),
      )

  stands_opening : StandsAfter []
  unfolding after_from
  stands_opening = none_open (core_numbers plan)

  module _ (h : List Entry) (so_far : Legal p plan h) where
    -- the entry makes of the sums what it says
    abbrev AsMovedNext : Entry → Type 0
    AsMovedNext e =
        AsMoved id e (all_places id plan.cores (after p plan h)) (all_blocked id plan.cores (after p plan h))
        (all_places id plan.cores (moved p plan (round_of h) e (after p plan h))) (all_blocked id plan.cores (moved p plan (round_of h) e (after p plan h)))

    -- the numbers of each core are in range
    all_hold : (c : ℕ) → c < plan.cores → Holds p (after p plan h c)
    all_hold c there = bounds_hold p (after p plan h c) ((bounds_law p plan h fits handlers so_far).bounds.each c there)

    -- a thread that enters is awaited, so it stands nowhere
    awaited_nowhere : (thread by : ℕ) (t : Planned) → find (is_entering (round_of h) by (own_entries h by)) plan.threads ≡ Some t → t.id ≡ thread
        → one_of id thread + all_places id plan.cores (after p plan h) + all_blocked id plan.cores (after p plan h) ≤ 1
    awaited_nowhere thread by t found named =
        let m = after p plan h in
        let once = (bounds_law p plan h fits handlers so_far).once id in
        let places = total_is (places_at id) plan.cores m in
        let blocked = total_is (blocked_at id) plan.cores m in
        elim (eqb thread id) as (λ b. eqb thread id ≡ b → counted b + all_places id plan.cores m + all_blocked id plan.cores m ≤ 1) [
          | true ↦ λ is.
              let own : eqb t.id id ≡ true = grind (arith, nat_tests) in
              let waits = let_in_awaited h t by (find-passes (is_entering (round_of h) by (own_entries h by)) plan.threads t found) in
              let one = some_counted (is_entering (round_of h) by (own_entries h by)) (λ (x : Planned). eqb x.id id && is_awaited h x) plan.threads t found (ap₂ (λ x y. x && y) own waits) in
              omega arith
          | false ↦ λ is. omega arith
        ] refl

    -- a legal Enter and a legal Wake find their thread
    entered_change : (thread by at : ℕ) (reads : List ℕ) (next : Option Planned) → find (is_entering (round_of h) by (own_entries h by)) plan.threads ≡ next
        → IsSomeAnd next (λ (t : Planned). t.id ≡ thread) → at < plan.cores → AsMovedNext (entry.Enter thread by at reads)
    entered_change thread by at reads None is named there = absurd named
    entered_change thread by at reads (Some t) is named there =
        let own : is_thread thread t ≡ true = let same : t.id ≡ thread = named in grind (arith, nat_tests) in
        let planned = found_too (is_entering (round_of h) by (own_entries h by)) (is_thread thread) plan.threads t is own in
        let sums = enter_sums id p plan fits handlers (round_of h) (after p plan h) all_hold thread by at reads there planned.0 planned.1 in
        record { nowhere = awaited_nowhere thread by t is named; places = sums.places; blocked = sums.blocked }

    woken_change : (thread by at : ℕ) (reads : List ℕ) (next : Option Blocked) → find (is_due_blocked (round_of h)) (after p plan h by).blocked ≡ next
        → IsSomeAnd next (λ (b : Blocked). b.task.id ≡ thread) → by < plan.cores → at < plan.cores → AsMovedNext (entry.Wake thread by at reads)
    woken_change thread by at reads None is named own there = absurd named
    woken_change thread by at reads (Some b) is named own there =
        let passes : is_blocked_task thread b ≡ true = let same : b.task.id ≡ thread = named in grind (arith, nat_tests) in
        let found = found_too (is_due_blocked (round_of h)) (is_blocked_task thread) (after p plan h by).blocked b is passes in
        wake_sums id p plan fits handlers (round_of h) (after p plan h) all_hold thread by at reads own there found.0 found.1

    -- so does each legal entry
    legal_change : (e : Entry) → LegalNext p plan h e → AreThere plan.cores e → AsMovedNext e
    unfolding LegalNext Row scene_of entering_next waking_next
    legal_change (entry.Round number) legal there =
        let m = after p plan h in
        same_cores id p plan fits handlers (round_of h) m all_hold (moved p plan (round_of h) (entry.Round number) m) (unmoved_round p plan (round_of h) m number)
    legal_change (entry.Enter thread by at reads) legal there =
        entered_change thread by at reads (find (is_entering (round_of h) by (own_entries h by)) plan.threads) refl legal.row.next there
    legal_change (entry.Wake thread by at reads) legal there =
        woken_change thread by at reads (find (is_due_blocked (round_of h)) (after p plan h by).blocked) refl legal.row.next there.0 there.1
    legal_change (entry.Work by what) legal there = work_sums id p plan fits handlers (round_of h) (after p plan h) all_hold by what there legal.row.outcome
    legal_change (entry.Steal by from threads reads) legal there =
        steal_sums id p plan fits handlers (round_of h) (after p plan h) all_hold by from threads reads there.0 there.1.0 there.1.1
    legal_change (entry.Fail by from reads) legal there =
        let m = after p plan h in
        same_cores id p plan fits handlers (round_of h) m all_hold (moved p plan (round_of h) (entry.Fail by from reads) m) (unmoved_fail p plan (round_of h) m by from reads)
    legal_change (entry.Pass by reads) legal there =
        let m = after p plan h in
        same_cores id p plan fits handlers (round_of h) m all_hold (moved p plan (round_of h) (entry.Pass by reads) m) (unmoved_pass p plan (round_of h) m by reads)

  -- one legal entry more
  stands_more : (h : List Entry) (e : Entry) → Legal p plan h → LegalNext p plan h e → StandsAfter h → StandsAfter (h ++ e ∷ [])
  stands_more h e so_far legal stands =
      let m = after p plan h in
      let k = moved p plan (round_of h) e m in
      let change = legal_change h so_far e legal (are_there p plan h e legal) in
      let next = stands_moved (all_places id plan.cores m) (all_blocked id plan.cores m) (all_places id plan.cores k) (all_blocked id plan.cores k) id (phase_of id h) e change stands in
      let later : phase_of id (h ++ e ∷ []) ≡ phase_after id (phase_of id h) e = fold-append (phase_after id) outside h (e ∷ []) in
      subst (λ (n : Cores). Stands (phase_of id (h ++ e ∷ [])) (all_places id plan.cores n) (all_blocked id plan.cores n)) (sym (one_more p plan h e))
      (subst (λ phase. Stands phase (all_places id plan.cores k) (all_blocked id plan.cores k)) (sym later) next)

  stands_always : (h : List Entry) → Legal p plan h → StandsAfter h
  stands_always h legal = legal_induction p plan StandsAfter stands_opening stands_more h legal

  -- the same, in the words of the law
  pub stands_by_phase : (h : List Entry) → Legal p plan h → let m = after p plan h in Stands (phase_of id h) (places_of plan m id) (blocked_places_of plan m id)
  stands_by_phase h legal =
      let m = after p plan h in
      subst (λ (n : ℕ). Stands (phase_of id h) n (blocked_places_of plan m id)) (sym (total_is (places_at id) plan.cores m))
      (subst (λ (n : ℕ). Stands (phase_of id h) (all_places id plan.cores m) n) (sym (total_is (blocked_at id) plan.cores m)) (stands_always h legal))

-- the law, for each front of a legal history
pub one_place_law : OnePlaceLaw
one_place_law p plan history fits handlers legal k inside =
    let front = legal_prefix p plan history k legal in
    record {
      places = λ id. stands_by_phase p plan fits handlers id (take k history) front;
      bounds = (bounds_law p plan (take k history) fits handlers front).bounds;
    }
