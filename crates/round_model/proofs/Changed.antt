-- The blocked threads of each core after an entry, and that none of them falls due by it.
use Rattle.std.proofs.Common.{◌≡◌, ℕ, zero, suc, ◌==◌, ◌<◌, ◌≤◌, ◌||◌, eqb, nat_le, Bool, true, false, cond, List, [], ◌∷◌, ◌++◌, get_or, count_by, All, Contains, Option, Some, None, refl, sym, ap, ◌∙◌, subst, arith}
use Rattle.std.proofs.lemmas.Bool.Decides.{nat_tests}
use Rattle.std.proofs.lemmas.List.Sums.{sum_by-append, sum_by-cons}
use Rattle.policy_tree.specs.Meaning.{Meaning}
use Rattle.round_model.specs.declared.entry.Did.{Did}
use Rattle.round_model.specs.declared.entry.Entry.{Entry}
use Rattle.round_model.specs.declared.entry.Entry.TheVariants as entry
use Rattle.round_model.specs.declared.plan.Plan.{Plan}
use Rattle.round_model.specs.declared.plan.Planned.{Planned}
use Rattle.round_model.specs.declared.state.Blocked.{Blocked}
use Rattle.round_model.specs.declared.state.ModelCore.{ModelCore}
use Rattle.round_model.specs.After.{after, effect, entered, moved, round_of, stolen, woken}
use Rattle.round_model.specs.Cores.{Cores}
use Rattle.round_model.specs.Entries.{touches}
use Rattle.round_model.specs.Fits.{Fits}
use Rattle.round_model.specs.Moves.{admitted, blocked_of, handed_all, is_blocked_task, received_all, released, taken_from, without_first}
use Rattle.round_model.specs.OwedLaws.{NoneFallsDueLaw}
use Rattle.round_model.specs.Programs.{entering_task, planned_of}
use Rattle.round_model.specs.Scenes.{is_due_blocked}
use Rattle.round_model.proofs.Counting.{counted}
use Rattle.round_model.proofs.Grows.{one_more}
use Rattle.round_model.proofs.Waking.{Change, grows, leaves, stays, unblocked_admitted, work_change}

blocked_if : (b : Bool) (x y : ModelCore) → x.blocked ≡ y.blocked → (cond b x y).blocked ≡ y.blocked
blocked_if true x y same = same
blocked_if false x y same = refl

stolen_blocked : (by from c : ℕ) (threads : List ℕ) (victim core : ModelCore) → (stolen by from c threads victim core).blocked ≡ core.blocked
unfolding handed_all received_all
stolen_blocked by from c threads victim core =
    let left : ModelCore = cond (from == c) (handed_all threads core) core in
    blocked_if (by == c) (received_all (taken_from threads victim.queue).found left) left refl ∙ blocked_if (from == c) (handed_all threads core) core refl

module _ (p : Meaning) (plan : Plan) (fits : Fits p plan) (round : ℕ) (m : Cores) where
  entered_blocked : (t : Option Planned) (core : ModelCore) → (entered p t core).blocked ≡ core.blocked
  entered_blocked None core = refl
  entered_blocked (Some t) core = unblocked_admitted p fits.policy true (entering_task p t) core

  woken_blocked : (by at c : ℕ) (b : Blocked) (core : ModelCore) → (woken p by at c (Some b) core).blocked ≡ (cond (by == c) (released b.task.id core) core).blocked
  woken_blocked by at c b core =
      let left : ModelCore = cond (by == c) (released b.task.id core) core in
      blocked_if (at == c) (admitted p false b.task left) left (unblocked_admitted p fits.policy false b.task left)

  -- entries that leave every core's blocked threads
  pub enter_leaves : (thread by at : ℕ) (reads : List ℕ) (c : ℕ) → (moved p plan round (entry.Enter thread by at reads) m c).blocked ≡ (m c).blocked
  unfolding effect
  enter_leaves thread by at reads c = blocked_if (touches c (entry.Enter thread by at reads)) (entered p (planned_of plan thread) (m c)) (m c) (entered_blocked (planned_of plan thread) (m c))

  pub steal_leaves : (by from : ℕ) (threads reads : List ℕ) (c : ℕ) → (moved p plan round (entry.Steal by from threads reads) m c).blocked ≡ (m c).blocked
  unfolding effect
  steal_leaves by from threads reads c =
      blocked_if (touches c (entry.Steal by from threads reads)) (stolen by from c threads (m from) (m c)) (m c) (stolen_blocked by from c threads (m from) (m c))

  pub fail_leaves : (by from : ℕ) (reads : List ℕ) (c : ℕ) → (moved p plan round (entry.Fail by from reads) m c).blocked ≡ (m c).blocked
  unfolding effect
  fail_leaves by from reads c = blocked_if (touches c (entry.Fail by from reads)) (m c) (m c) refl

  pub pass_leaves : (by : ℕ) (reads : List ℕ) (c : ℕ) → (moved p plan round (entry.Pass by reads) m c).blocked ≡ (m c).blocked
  unfolding effect
  pass_leaves by reads c = blocked_if (touches c (entry.Pass by reads)) (m c) (m c) refl

  -- entries that change those of their own core alone
  pub work_others : (by : ℕ) (what : Did) (c : ℕ) → eqb by c ≡ false → (moved p plan round (entry.Work by what) m c).blocked ≡ (m c).blocked
  unfolding touches
  work_others by what c other = ap (λ b. (cond b (effect p plan round (entry.Work by what) m c) (m c)).blocked) other

  pub wake_others : (thread by at : ℕ) (reads : List ℕ) (c : ℕ) → eqb by c ≡ false → (moved p plan round (entry.Wake thread by at reads) m c).blocked ≡ (m c).blocked
  unfolding effect
  wake_others thread by at reads c other =
      blocked_if (touches c (entry.Wake thread by at reads)) (woken p by at c (blocked_of thread (m by)) (m c)) (m c) (by_found (blocked_of thread (m by)))
    where
      by_found : (found : Option Blocked) → (woken p by at c found (m c)).blocked ≡ (m c).blocked
      by_found None = refl
      by_found (Some b) = woken_blocked by at c b (m c) ∙ ap (λ x. (cond x (released b.task.id (m c)) (m c)).blocked) other

  pub wake_own : (thread by at : ℕ) (reads : List ℕ) (b : Blocked) → blocked_of thread (m by) ≡ Some b
      → (moved p plan round (entry.Wake thread by at reads) m by).blocked ≡ without_first (is_blocked_task b.task.id) (m by).blocked
  unfolding effect touches released
  wake_own thread by at reads b is =
      let own : eqb by by ≡ true = grind (arith, nat_tests) in
      ap (λ x. (cond (x || (at == by)) (woken p by at by (blocked_of thread (m by)) (m by)) (m by)).blocked) own
      ∙ (ap (λ o. (woken p by at by o (m by)).blocked) is
      ∙ (woken_blocked by at by b (m by) ∙ ap (λ x. (cond x (released b.task.id (m by)) (m by)).blocked) own))

  -- any entry
  woken_change : (by at c : ℕ) (b : Option Blocked) (core : ModelCore) → Change round core.blocked (woken p by at c b core).blocked
  unfolding released
  woken_change by at c None core = stays refl
  woken_change by at c (Some b) core =
      elim (by == c) as (λ x. (woken p by at c (Some b) core).blocked ≡ (cond x (released b.task.id core) core).blocked → Change round core.blocked (woken p by at c (Some b) core).blocked) [
        | true ↦ λ is. leaves b.task.id is
        | false ↦ λ is. stays is
      ] (woken_blocked by at c b core)

  effect_change : (e : Entry) (c : ℕ) → Change round (m c).blocked (effect p plan round e m c).blocked
  unfolding effect
  effect_change (entry.Round number) c = stays refl
  effect_change (entry.Enter thread by at reads) c = stays (entered_blocked (planned_of plan thread) (m c))
  effect_change (entry.Wake thread by at reads) c = woken_change by at c (blocked_of thread (m by)) (m c)
  effect_change (entry.Work by what) c = work_change p plan fits round (m c)
  effect_change (entry.Steal by from threads reads) c = stays (stolen_blocked by from c threads (m from) (m c))
  effect_change (entry.Fail by from reads) c = stays refl
  effect_change (entry.Pass by reads) c = stays refl

  pub moved_change : (e : Entry) (c : ℕ) → Change round (m c).blocked (moved p plan round e m c).blocked
  moved_change e c = elim (touches c e) as (λ b. Change round (m c).blocked (cond b (effect p plan round e m c) (m c)).blocked) [ true ↦ effect_change e c | false ↦ stays refl ]

-- what is left of a list stood in it
later_in : {X : Type 0} (x y : X) (xs : List X) → Contains xs y → Contains (x ∷ xs) y
later_in x y xs (k, inside, is) = (suc k, omega arith, is)

front_or_later : {X : Type 0} (x y : X) (left xs : List X) → (Contains left y → Contains xs y) → Contains (x ∷ left) y → Contains (x ∷ xs) y
front_or_later x y left xs later (zero, inside, is) = (0, omega arith, is)
front_or_later x y left xs later (suc k, inside, is) = later_in x y xs (later (k, omega arith, is))

left_stood : {X : Type 0} (test : X → Bool) (xs : List X) (y : X) → Contains (without_first test xs) y → Contains xs y
left_stood test [] y is = is
left_stood test (x ∷ xs) y is =
    let rest : Contains (without_first test xs) y → Contains xs y = left_stood test xs y in
    elim (test x) as (λ b. Contains (cond b xs (x ∷ without_first test xs)) y → Contains (x ∷ xs) y) [
      | true ↦ later_in x y xs
      | false ↦ front_or_later x y (without_first test xs) xs rest
    ] is

fewer_left : {X : Type 0} (f test : X → Bool) (xs : List X) → count_by f (without_first test xs) ≤ count_by f xs
fewer_left f test [] = omega arith
fewer_left f test (x ∷ xs) =
    let rest = fewer_left f test xs in
    let one = sum_by-cons (λ y. counted (f y)) x xs in
    let two = sum_by-cons (λ y. counted (f y)) x (without_first test xs) in
    elim (test x) as (λ b. count_by f (cond b xs (x ∷ without_first test xs)) ≤ count_by f (x ∷ xs)) [ true ↦ omega arith | false ↦ omega arith ]

-- those that wake later aren't due
in_front_of : (round : ℕ) (old added : List Blocked) (b : Blocked) → All (λ (x : Blocked). round < x.wake) added → b.wake ≤ round → Contains (old ++ added) b → Contains old b
in_front_of round [] added b later due (k, inside, is) = absurd (let wake = later k b inside in let same : (get_or added k b).wake ≡ b.wake = ap (λ (x : Blocked). x.wake) is in omega arith)
in_front_of round (x ∷ old) added b later due (zero, inside, is) = (0, omega arith, is)
in_front_of round (x ∷ old) added b later due (suc k, inside, is) = later_in x b old (in_front_of round old added b later due (k, omega arith, is))

none_due : (round : ℕ) (added : List Blocked) → All (λ (b : Blocked). round < b.wake) added → count_by (is_due_blocked round) added ≡ 0
none_due round [] later = refl
none_due round (b ∷ added) later =
    let wake : round < b.wake = later 0 b (omega arith) in
    let test : nat_le b.wake round ≡ false = grind (arith, nat_tests) in
    let here : counted (nat_le b.wake round) ≡ 0 = ap counted test in
    omega (arith, sum_by-cons (λ (x : Blocked). counted (is_due_blocked round x)) b added, none_due round added (λ k d inside. later (suc k) d (omega arith)))

change_was : (round : ℕ) (old new : List Blocked) → Change round old new → (b : Blocked) → b.wake ≤ round → Contains new b → Contains old b
change_was round old new (stays is) b due has = subst (λ (list : List Blocked). Contains list b) is has
change_was round old new (leaves id is) b due has = left_stood (is_blocked_task id) old b (subst (λ (list : List Blocked). Contains list b) is has)
change_was round old new (grows added is later) b due has = in_front_of round old added b later due (subst (λ (list : List Blocked). Contains list b) is has)

change_count : (round : ℕ) (old new : List Blocked) → Change round old new → count_by (is_due_blocked round) new ≤ count_by (is_due_blocked round) old
change_count round old new (stays is) = let same = ap (count_by (is_due_blocked round)) is in omega arith
change_count round old new (leaves id is) = let same = ap (count_by (is_due_blocked round)) is in let fewer = fewer_left (is_due_blocked round) (is_blocked_task id) old in omega arith
change_count round old new (grows added is later) =
    let same = ap (count_by (is_due_blocked round)) is in
    omega (arith, sum_by-append (λ (x : Blocked). counted (is_due_blocked round x)) old added, none_due round added later)

pub none_falls_due : NoneFallsDueLaw
none_falls_due p plan h e fits =
    let change : (c : ℕ) → Change (round_of h) (after p plan h c).blocked (after p plan (h ++ e ∷ []) c).blocked =
    λ c. subst (λ (m : Cores). Change (round_of h) (after p plan h c).blocked (m c).blocked) (sym (one_more p plan h e)) (moved_change p plan fits (round_of h) (after p plan h) e c) in
    record {
      was_blocked = λ c b due has. change_was (round_of h) (after p plan h c).blocked (after p plan (h ++ e ∷ []) c).blocked (change c) b due has;
      no_more = λ c. change_count (round_of h) (after p plan h c).blocked (after p plan (h ++ e ∷ []) c).blocked (change c);
    }
