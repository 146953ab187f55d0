-- A legal entry of a core is one of those that it owes.
use Rattle.std.proofs.Common.{◌≡◌, ℕ, ◌+◌, ◌==◌, ◌<◌, ◌≤◌, ⊎_elim, ◌||◌, ◌&&◌, not, eqb, Bool, true, false, List, [], ◌∷◌, ◌++◌, find, get_or, count_by, Option, Some, None, IsSomeAnd, refl, sym, ap, ap₂, ◌∙◌, subst, arith}
use Rattle.std.specs.List.{list_any}
use Rattle.std.proofs.lemmas.Bool.Decides.{nat_tests}
use Rattle.policy_tree.specs.Meaning.{Meaning}
use Rattle.policy_eval.specs.Obligations.{MeetsHandlerObligations}
use Rattle.round_model.specs.declared.entry.Did.{Did}
use Rattle.round_model.specs.declared.entry.Entry.{Entry}
use Rattle.round_model.specs.declared.entry.Entry.TheVariants as entry
use Rattle.round_model.specs.declared.plan.Plan.{Plan}
use Rattle.round_model.specs.declared.plan.Planned.{Planned}
use Rattle.round_model.specs.declared.state.Blocked.{Blocked}
use Rattle.round_model.specs.declared.state.ModelCore.{ModelCore}
use Rattle.round_model.specs.After.{after, moved, round_after, round_of}
use Rattle.round_model.specs.Cores.{Cores}
use Rattle.round_model.specs.Entries.{acting_core, acts, lets_in}
use Rattle.round_model.specs.Fits.{Fits}
use Rattle.round_model.specs.Kinds.{is_attempt, is_round, is_work}
use Rattle.round_model.specs.Legal.{Legal, LegalNext}
use Rattle.round_model.specs.Moves.{blocked_of, is_blocked_task, without_first}
use Rattle.round_model.specs.OwedLaws.{OwedLaw}
use Rattle.round_model.specs.Rows.{Row}
use Rattle.round_model.specs.Scenes.{entering_next, has_attempted, has_worked, is_due_blocked, is_entering, own_entries, scene_of, waking_next}
use Rattle.round_model.proofs.Acting.{acts_is, no_round}
use Rattle.round_model.proofs.Longer.{entering_more}
use Rattle.round_model.proofs.Awaited.{or_cases}
use Rattle.round_model.proofs.Counting.{counted}
use Rattle.round_model.proofs.Bounded.{bounds_law}
use Rattle.round_model.proofs.Changed.{enter_leaves, none_falls_due, wake_own}
use Rattle.round_model.proofs.Counting.{count_left, count_same, count_without}
use Rattle.round_model.proofs.Finding.{find-passes}
use Rattle.round_model.proofs.Grows.{one_more}
use Rattle.round_model.proofs.Histories.{legal_induction}
use Rattle.round_model.proofs.Longer.{done_more, own_more, own_none, round_of_more}
use Rattle.round_model.proofs.Owing.{found_by_both, none_by, none_found, not_none, others_owe, owed_is, round_open, same_sum, some_counted, still_open, sum_owed}
use Rattle.round_model.proofs.Totals.{total_has, total_is}

-- whether a core has done something, with an entry more
own_done : (test : Entry → Bool) (h : List Entry) (e : Entry) (c : ℕ) → is_round e ≡ false
    → list_any test (own_entries (h ++ e ∷ []) c) ≡ (list_any test (own_entries h c) || (acts c e && test e))
own_done test h e c inner = ap (list_any test) (own_more h e c inner) ∙ done_more test (own_entries h c) e c

and_one : (b : Bool) → (b && true) ≡ b
and_one true = refl
and_one false = refl

never : (b : Bool) → (b && false) ≡ true → ⊥
never true is = absurd (cc)
never false is = absurd (cc)

or_one : (a b c : Bool) → b ≡ true → c ≡ true → (a || (b && c)) ≡ true
or_one true b c first second = refl
or_one false b c first second = ap₂ (λ x y. x && y) first second

-- an entry by which a core has worked is a unit of it
work_is : (e : Entry) (c : ℕ) → (acts c e && is_work e) ≡ true → (what : Did) × (e ≡ entry.Work c what)
unfolding acts
work_is (entry.Round number) c is = absurd (cc)
work_is (entry.Enter thread by at reads) c is = absurd (never (by == c) is)
work_is (entry.Wake thread by at reads) c is = absurd (never (by == c) is)
work_is (entry.Work by what) c is =
    let test : eqb by c ≡ true = sym (and_one (eqb by c)) ∙ is in
    let same : by ≡ c = grind (arith, nat_tests) in
    (what, ap (λ (k : ℕ). entry.Work k what) same)
work_is (entry.Steal by from threads reads) c is = absurd (never (by == c) is)
work_is (entry.Fail by from reads) c is = absurd (never (by == c) is)
work_is (entry.Pass by reads) c is = absurd (never (by == c) is)

same_round : (round : ℕ) (e : Entry) → is_round e ≡ false → round_after round e ≡ round
same_round round (entry.Round number) inner = absurd (cc)
same_round round (entry.Enter thread by at reads) inner = refl
same_round round (entry.Wake thread by at reads) inner = refl
same_round round (entry.Work by what) inner = refl
same_round round (entry.Steal by from threads reads) inner = refl
same_round round (entry.Fail by from reads) inner = refl
same_round round (entry.Pass by reads) inner = refl

-- the parts of what a core owes
abbrev entering_at : Plan → List Entry → ℕ → ℕ
entering_at plan h c = count_by (is_entering (round_of h) c (own_entries h c)) plan.threads

abbrev due_at : Meaning → Plan → List Entry → ℕ → ℕ
due_at p plan h c = count_by (is_due_blocked (round_of h)) (after p plan h c).blocked

abbrev worked_at : List Entry → ℕ → Bool
worked_at h c = has_worked (own_entries h c)

abbrev attempted_at : List Entry → ℕ → Bool
attempted_at h c = has_attempted (own_entries h c)

-- once a core has worked, none of its threads is due
abbrev NoneLeft : Meaning → Plan → List Entry → Type 0
NoneLeft p plan h = (c : ℕ) → worked_at h c ≡ true → due_at p plan h c ≡ 0

module _ (p : Meaning) (plan : Plan) (fits : Fits p plan) where
  none_at_work : (h : List Entry) (c : ℕ) (what : Did) → LegalNext p plan h (entry.Work c what) → due_at p plan h c ≡ 0
  unfolding LegalNext Row scene_of waking_next
  none_at_work h c what legal = none_found (is_due_blocked (round_of h)) (after p plan h c).blocked legal.row.woken

  left_more : (h : List Entry) (e : Entry) → Legal p plan h → LegalNext p plan h e → NoneLeft p plan h → NoneLeft p plan (h ++ e ∷ [])
  left_more h e so_far legal left c worked =
      elim (is_round e) as (λ b. is_round e ≡ b → due_at p plan (h ++ e ∷ []) c ≡ 0) [
        | true ↦ λ begins. let fresh : worked_at (h ++ e ∷ []) c ≡ false = ap has_worked (own_none h e c begins) in absurd (cc)
        | false ↦ λ inner.
            let before : due_at p plan h c ≡ 0 =
            ⊎_elim (λ (x : worked_at h c ≡ true). left c x)
            (λ (x : (acts c e && is_work e) ≡ true). let is = work_is e c x in none_at_work h c is.0 (subst (LegalNext p plan h) is.1 legal))
            (or_cases (worked_at h c) (acts c e && is_work e) (sym (own_done is_work h e c inner) ∙ worked)) in
            let round : round_of (h ++ e ∷ []) ≡ round_of h = round_of_more h e ∙ same_round (round_of h) e inner in
            let now = ap (λ (r : ℕ). count_by (is_due_blocked r) (after p plan (h ++ e ∷ []) c).blocked) round in
            let fewer = (none_falls_due p plan h e fits).no_more c in
            omega arith
      ] refl

  none_left : (h : List Entry) → Legal p plan h → NoneLeft p plan h
  none_left h legal = legal_induction p plan (NoneLeft p plan) (λ c worked. absurd (cc)) left_more h legal

  -- one fewer is owed, by its parts
  abbrev Pays : List Entry → Entry → ℕ → Type 0
  Pays h e c =
      sum_owed (entering_at plan (h ++ e ∷ []) c) (due_at p plan (h ++ e ∷ []) c) (worked_at (h ++ e ∷ []) c) (attempted_at (h ++ e ∷ []) c) + 1
      ≡ sum_owed (entering_at plan h c) (due_at p plan h c) (worked_at h c) (attempted_at h c)

  module _ (h : List Entry) (so_far : Legal p plan h) (handlers : MeetsHandlerObligations p) where
    entering_stays : (e : Entry) (c : ℕ) → is_round e ≡ false → ((id : ℕ) → lets_in id e ≡ false) → entering_at plan (h ++ e ∷ []) c ≡ entering_at plan h c
    entering_stays e c inner none =
        ap (λ (r : ℕ). count_by (is_entering r c (own_entries (h ++ e ∷ []) c)) plan.threads) (round_of_more h e ∙ same_round (round_of h) e inner)
        ∙ count_same (is_entering (round_of h) c (own_entries (h ++ e ∷ []) c)) (is_entering (round_of h) c (own_entries h c)) plan.threads (λ k d inside.
        let t = get_or plan.threads k d in
        entering_more h e c t inner
        ∙ (ap (λ b. is_entering (round_of h) c (own_entries h c) t && not (acts c e && b)) (none t.id) ∙ not_none (is_entering (round_of h) c (own_entries h c) t) (acts c e)))

    due_by : (e : Entry) (c : ℕ) (blocked : List Blocked) → is_round e ≡ false → (moved p plan (round_of h) e (after p plan h) c).blocked ≡ blocked
        → due_at p plan (h ++ e ∷ []) c ≡ count_by (is_due_blocked (round_of h)) blocked
    due_by e c blocked inner is =
        ap₂ (λ (r : ℕ) (list : List Blocked). count_by (is_due_blocked r) list) (round_of_more h e ∙ same_round (round_of h) e inner)
        (ap (λ (m : Cores). (m c).blocked) (one_more p plan h e) ∙ is)

    own_acts : (e : Entry) (by : ℕ) → acting_core e ≡ Some by → acts by e ≡ true
    own_acts e by acting = let same : eqb by by ≡ true = grind (arith, nat_tests) in acts_is e by by acting ∙ same

    done_same : (test : Entry → Bool) (e : Entry) (c : ℕ) → is_round e ≡ false → test e ≡ false → list_any test (own_entries (h ++ e ∷ []) c) ≡ list_any test (own_entries h c)
    done_same test e c inner fails =
        own_done test h e c inner ∙ (ap (λ b. list_any test (own_entries h c) || (acts c e && b)) fails ∙ none_by (list_any test (own_entries h c)) (acts c e))

    done_now : (test : Entry → Bool) (e : Entry) (by : ℕ) → acting_core e ≡ Some by → test e ≡ true → list_any test (own_entries (h ++ e ∷ []) by) ≡ true
    done_now test e by acting passes = own_done test h e by (no_round e by acting) ∙ or_one (list_any test (own_entries h by)) (acts by e) (test e) (own_acts e by acting) passes

    enter_pays : (thread by at : ℕ) (reads : List ℕ) → LegalNext p plan h (entry.Enter thread by at reads) → Pays h (entry.Enter thread by at reads) by
    unfolding LegalNext Row scene_of entering_next
    enter_pays thread by at reads legal =
        let e = entry.Enter thread by at reads in
        let waits : Planned → Bool = is_entering (round_of h) by (own_entries h by) in
        let fewer : entering_at plan (h ++ e ∷ []) by ≡ count_by (λ (t : Planned). waits t && not (eqb thread t.id)) plan.threads =
        ap (λ (r : ℕ). count_by (is_entering r by (own_entries (h ++ e ∷ []) by)) plan.threads) (round_of_more h e)
        ∙ count_same (is_entering (round_of h) by (own_entries (h ++ e ∷ []) by)) (λ (t : Planned). waits t && not (eqb thread t.id)) plan.threads (λ k d inside.
        let t = get_or plan.threads k d in
        entering_more h e by t refl ∙ ap (λ b. waits t && not (b && eqb thread t.id)) (own_acts e by refl)) in
        let one = count_left waits thread plan.threads fits.distinct legal.row.next in
        let due = due_by e by (after p plan h by).blocked refl (enter_leaves p plan fits (round_of h) (after p plan h) thread by at reads by) in
        let worked = done_same is_work e by refl refl in
        let attempted = done_same is_attempt e by refl refl in
        let parts = same_sum (entering_at plan (h ++ e ∷ []) by) (entering_at plan (h ++ e ∷ []) by) (due_at p plan (h ++ e ∷ []) by) (due_at p plan h by)
        (worked_at (h ++ e ∷ []) by) (worked_at h by) (attempted_at (h ++ e ∷ []) by) (attempted_at h by) refl due worked attempted in
        omega arith

    -- the thread that wakes is the only one of its number, so it is that one which leaves
    wakes : (thread by at : ℕ) (reads : List ℕ) (found : Option Blocked) → find (is_due_blocked (round_of h)) (after p plan h by).blocked ≡ found
        → IsSomeAnd found (λ (b : Blocked). b.task.id ≡ thread) → by < plan.cores → Pays h (entry.Wake thread by at reads) by
    wakes thread by at reads None is next there = absurd next
    wakes thread by at reads (Some b) is next there =
        let e = entry.Wake thread by at reads in
        let blocked = (after p plan h by).blocked in
        let m = after p plan h in
        let due : is_due_blocked (round_of h) b ≡ true = find-passes (is_due_blocked (round_of h)) blocked b is in
        let some = some_counted (is_due_blocked (round_of h)) (is_due_blocked (round_of h)) blocked b is due in
        let idle : worked_at h by ≡ false = by_cases (worked_at h by) (λ worked. let none = none_left h so_far by worked in absurd (omega arith)) in
        let own : is_blocked_task thread b ≡ true = let id : b.task.id ≡ thread = next in grind (arith, nat_tests) in
        let once : count_by (is_blocked_task thread) blocked ≤ 1 =
        let bound = (bounds_law p plan h fits handlers so_far).once thread in
        let blocked_here : ModelCore → ℕ = λ core. count_by (is_blocked_task thread) core.blocked in
        let here = total_has blocked_here plan.cores m by there in
        omega (arith, total_is blocked_here plan.cores m) in
        let first : blocked_of thread (m by) ≡ Some b = found_by_both (is_due_blocked (round_of h)) (is_blocked_task thread) blocked b is own once in
        let left = due_by e by (without_first (is_blocked_task b.task.id) blocked) refl (wake_own p plan fits (round_of h) m thread by at reads b first) in
        let less = count_without (is_due_blocked (round_of h)) (is_blocked_task b.task.id) blocked b (subst (λ (id : ℕ). blocked_of id (m by) ≡ Some b) (sym next) first) in
        let one : counted (is_due_blocked (round_of h) b) ≡ 1 = ap counted due in
        let entering = entering_stays e by refl (λ id. refl) in
        let worked : worked_at (h ++ e ∷ []) by ≡ false = done_same is_work e by refl refl ∙ idle in
        let attempted = done_same is_attempt e by refl refl in
        let now = same_sum (entering_at plan (h ++ e ∷ []) by) (entering_at plan h by) (due_at p plan (h ++ e ∷ []) by) (due_at p plan (h ++ e ∷ []) by)
        (worked_at (h ++ e ∷ []) by) false (attempted_at (h ++ e ∷ []) by) (attempted_at h by) entering refl worked attempted in
        let was = same_sum (entering_at plan h by) (entering_at plan h by) (due_at p plan h by) (due_at p plan h by)
        (worked_at h by) false (attempted_at h by) (attempted_at h by) refl refl idle refl in
        omega arith
      where
        by_cases : (b : Bool) → (b ≡ true → b ≡ false) → b ≡ false
        by_cases true is_not = is_not refl
        by_cases false is_not = refl

    wake_pays : (thread by at : ℕ) (reads : List ℕ) → LegalNext p plan h (entry.Wake thread by at reads) → Pays h (entry.Wake thread by at reads) by
    unfolding LegalNext Row scene_of waking_next
    wake_pays thread by at reads legal = wakes thread by at reads (find (is_due_blocked (round_of h)) (after p plan h by).blocked) refl legal.row.next legal.row.core

    work_pays : (by : ℕ) (what : Did) → LegalNext p plan h (entry.Work by what) → Pays h (entry.Work by what) by
    unfolding LegalNext Row scene_of
    work_pays by what legal =
        let e = entry.Work by what in
        let none = none_at_work h by what legal in
        let now = same_sum (entering_at plan (h ++ e ∷ []) by) (entering_at plan h by) (due_at p plan (h ++ e ∷ []) by) (due_at p plan (h ++ e ∷ []) by)
        (worked_at (h ++ e ∷ []) by) true (attempted_at (h ++ e ∷ []) by) (attempted_at h by)
        (entering_stays e by refl (λ id. refl)) refl (done_now is_work e by refl refl) (done_same is_attempt e by refl refl) in
        let was = same_sum (entering_at plan h by) (entering_at plan h by) (due_at p plan h by) 0
        (worked_at h by) false (attempted_at h by) (attempted_at h by) refl none legal.row.first refl in
        omega arith

    attempt_pays : (e : Entry) (by : ℕ) → acting_core e ≡ Some by → is_work e ≡ false → is_attempt e ≡ true → ((id : ℕ) → lets_in id e ≡ false)
        → worked_at h by ≡ true → attempted_at h by ≡ false → Pays h e by
    attempt_pays e by acting no_work is none worked first =
        let inner = no_round e by acting in
        let now = same_sum (entering_at plan (h ++ e ∷ []) by) (entering_at plan h by) (due_at p plan (h ++ e ∷ []) by) (due_at p plan (h ++ e ∷ []) by)
        (worked_at (h ++ e ∷ []) by) true (attempted_at (h ++ e ∷ []) by) true
        (entering_stays e by inner none) refl (done_same is_work e by inner no_work ∙ worked) (done_now is_attempt e by acting is) in
        let was = same_sum (entering_at plan h by) (entering_at plan h by) (due_at p plan h by) (due_at p plan h by)
        (worked_at h by) true (attempted_at h by) false refl refl worked first in
        omega arith

    pays : (e : Entry) (a : ℕ) → acting_core e ≡ Some a → LegalNext p plan h e → Pays h e a
    unfolding LegalNext Row scene_of
    pays (entry.Round number) a is legal = absurd (cc)
    pays (entry.Enter thread by at reads) a is legal = let same : by ≡ a = cc in subst (Pays h (entry.Enter thread by at reads)) same (enter_pays thread by at reads legal)
    pays (entry.Wake thread by at reads) a is legal = let same : by ≡ a = cc in subst (Pays h (entry.Wake thread by at reads)) same (wake_pays thread by at reads legal)
    pays (entry.Work by what) a is legal = let same : by ≡ a = cc in subst (Pays h (entry.Work by what)) same (work_pays by what legal)
    pays (entry.Steal by from threads reads) a is legal =
        let same : by ≡ a = cc in
        subst (Pays h (entry.Steal by from threads reads)) same (attempt_pays (entry.Steal by from threads reads) by refl refl refl (λ id. refl) legal.row.worked legal.row.first)
    pays (entry.Fail by from reads) a is legal =
        let same : by ≡ a = cc in
        subst (Pays h (entry.Fail by from reads)) same (attempt_pays (entry.Fail by from reads) by refl refl refl (λ id. refl) legal.row.worked legal.row.first)
    pays (entry.Pass by reads) a is legal =
        let same : by ≡ a = cc in
        subst (Pays h (entry.Pass by reads)) same (attempt_pays (entry.Pass by reads) by refl refl refl (λ id. refl) legal.row.worked legal.row.first)

pub owed_law : OwedLaw
owed_law p plan h e a fits handlers so_far legal is =
    let begun = round_open p plan h e a is legal in
    record {
      own =
          let paid = pays p plan fits h so_far handlers e a is legal in
          omega (arith, owed_is p plan h a begun, owed_is p plan (h ++ e ∷ []) a (still_open p plan h e a is begun));
      others = λ c apart. others_owe p plan h e a c fits is legal apart;
    }
