-- From round to round: what is counted is so of every history with which the opening seat's view agrees.
use Rattle.std.proofs.Common.{◌≡◌, ℕ, zero, suc, ◌+◌, ◌==◌, ◌<◌, ◌≤◌, ◌||◌, ◌&&◌, not, nat_lt, Bool, true, false, List, [], ◌∷◌, ◌++◌, map, length, All, get_or, refl, sym, ap, ◌∙◌, subst, arith}
use Rattle.std.specs.List.{list_all, list_any, range_with_len, sum_by}
use Rattle.std.proofs.lemmas.Bool.Decides.{nat_tests}
use Rattle.std.proofs.lemmas.List.Folds.{list_any-append}
use Rattle.std.proofs.lemmas.List.{length-map}
use Rattle.std.proofs.lemmas.List.Sums.{sum_by-cons}
use mathlib.Core.Option.{some}
use lib.ListN.{get_elem?}
use Rattle.sched_base.specs.declared.limits.TheConstants.{MAX_ENTRIES, MAX_THREADS}
use Rattle.policy_tree.specs.declared.typed.Policy.{Policy}
use Rattle.policy_tree.specs.Meaning.{Meaning, meaning_of}
use Rattle.round_laws.proofs.MainTheorem.{main_theorem}
use Rattle.round_model.specs.declared.entry.Entry.{Entry}
use Rattle.round_model.specs.declared.entry.Entry.TheVariants as entry
use Rattle.round_model.specs.declared.plan.Plan.{Plan}
use Rattle.round_model.specs.declared.plan.Planned.{Planned}
use Rattle.round_model.specs.After.{after}
use Rattle.round_model.specs.Cores.{core_numbers}
use Rattle.round_model.specs.Entries.{ends}
use Rattle.round_model.specs.Fits.{Fits}
use Rattle.round_model.specs.Legal.{IsComplete, Legal, has_ended, is_complete, is_due, rounds_begun}
use Rattle.round_model.specs.Scenes.{has_attempted, own_entries}
use Rattle.round_model.proofs.Between.{has_ended_split}
use Rattle.round_model.proofs.Histories.{open_round}
use Rattle.serial_steps.specs.SerialEnds.{RoundFits}
use Rattle.core_state.specs.declared.logged.Logged.{Logged}
use Rattle.core_state.specs.Views.{ClosedView}
use Rattle.core_table.specs.declared.views.Role.TheVariants as role
use Rattle.core_table.specs.declared.views.Turn.{Turn}
use Rattle.core_table.specs.declared.views.Turn.TheVariants as turn
use Rattle.core_table.specs.declared.views.View.{View}
use Rattle.core_table.specs.Ends.{IsClosed}
use Rattle.core_table.specs.Logs.{own_log}
use Rattle.core_table.specs.Told.{Agrees, HasAllBack, IsKnown, IsTrueRole, IsTrueTurn, MayBeginRound}
use Rattle.core_table.specs.Views.{all_idle, first_view, meaning_in}
use Rattle.core_table.proofs.Beginning.{idle_at}
use Rattle.core_table.proofs.FirstRound.{back_first}
use Rattle.core_table.proofs.Histories.{entry_at, own_is}
use Rattle.parallel_play.specs.declared.sums.Tally.{Tally}
use Rattle.parallel_play.specs.Playing.{BeganAndPlayed, HavePassed, IsPlayed, entries_in, entries_of, log_in, merged_in}
use Rattle.parallel_play.specs.Runs.{AllPassed, AreLeftBy, HadRoom, RunsFull, RunsWhole}
use Rattle.parallel_play.specs.Tallies.{IsEmpty, due_by, flag_of}
use Rattle.parallel_play.proofs.Beginnings.{none_had, one_had}
use Rattle.parallel_play.proofs.Seating.{begun_idle, played_back}
use Rattle.parallel_play.proofs.Summing.{all_numbers, any_by_number, any_same, entries_split, sums_by_number}

-- so many rounds have begun in the history, and all else is as counted
pub record IsCounted (plan : Plan) (h : List Entry) (begun : ℕ) (t : Tally) : Type 0 where
  pub rounds : rounds_begun h ≡ begun
  pub complete : IsComplete plan h
  pub entries : length h ≡ t.entries
  pub ended : (p : Planned) → p.id ≤ MAX_THREADS → has_ended h p ≡ flag_of t p.id
  pub roomy : HadRoom plan h

-- between two rounds
pub record IsBetween (begun : ℕ) (t : Tally) (v : View) : Type 0 where
  pub back : HasAllBack v
  pub free : v.held ≡ []
  pub known : IsKnown v
  pub counted : (h : List Entry) → Agrees v h → IsCounted v.plan h begun t

-- what a core's seat brought back is what the history has
came_back : (g : List Entry) (c : ℕ) (t : Turn) → IsPlayed t → IsTrueTurn g c t → (log_in t ≡ own_log c g) × (has_attempted (own_entries g c) ≡ true)
came_back g c turn.Idle played is = absurd played
came_back g c turn.Out played is = absurd played
came_back g c (turn.Done own) played is =
    (sym is, ap has_attempted (sym (own_is c g) ∙ ap (map (λ (l : Logged). l.entry)) is) ∙ played)

-- before the first round
module _ (policy : Policy) (plan : Plan) (t : Tally) (empty : IsEmpty t) where
  nothing_yet : (h : List Entry) → Agrees (first_view policy plan) h → IsCounted plan h 0 t
  unfolding is_complete
  nothing_yet h ag =
      let p : Meaning = meaning_of policy in
      let none : rounds_begun h ≡ 0 = sym (open_round p plan h ag.legal) ∙ sym ag.dated.round in
      let idle : (c : ℕ) (x : Turn) → get_elem? (all_idle plan.cores) c ≡ some x → length (log_in x) ≡ length (own_entries h c) =
      λ c x there. let still = idle_at plan.cores c x there in let own = subst (IsTrueTurn h c) still (ag.role.are_true c x there) in
      ap (λ (y : Turn). length (log_in y)) still ∙ ap length (sym (ap (map (λ (l : Logged). l.entry)) own) ∙ own_is c h) in
      let zero : entries_of (all_idle plan.cores) ≡ 0 = all_nothing plan.cores in
      let sums = sums_by_number (all_idle plan.cores) (λ (x : Turn). length (log_in x)) (λ c. length (own_entries h c)) idle in
      let wide = ag.role.count in let total = ap (λ n. sum_by (λ c. length (own_entries h c)) (range_with_len 0 n)) wide in
      let split = entries_split p plan h ag.legal in let start = ag.dated.start in
      let long : length h ≡ 0 = omega arith in
      record {
        rounds = none;
        complete = ap (λ n. (n == 0) || list_all (λ c. has_attempted (own_entries h c)) (core_numbers plan)) none;
        entries = long ∙ sym empty.entries;
        ended = λ q low. ap (λ (l : List Entry). has_ended l q) (none_there h long) ∙ sym (empty.ended q.id);
        roomy = subst (HadRoom plan) (sym (none_there h long)) (none_had plan);
      }
    where
      all_nothing : (n : ℕ) → entries_of (all_idle n) ≡ 0
      all_nothing zero = refl
      all_nothing (suc n) = let cons : entries_of (all_idle (suc n)) ≡ 0 + entries_of (all_idle n) = sum_by-cons (λ (x : Turn). length (log_in x)) turn.Idle (all_idle n) in let rest = all_nothing n in omega arith

      none_there : (l : List Entry) → length l ≡ 0 → l ≡ []
      none_there [] is = refl
      none_there (x ∷ xs) is = absurd (omega arith)

  pub first_between : (v : View) → v ≡ first_view policy plan → IsKnown (first_view policy plan) → IsBetween 0 t v
  first_between v is known = subst (IsBetween 0 t) (sym is) (record { back = back_first policy plan; free = refl; known = known; counted = nothing_yet })

-- whether a round is due is known
due_known : (plan : Plan) (h : List Entry) (begun : ℕ) (t : Tally) → All (λ (p : Planned). p.id ≤ MAX_THREADS) plan.threads → IsCounted plan h begun t → is_due plan h ≡ due_by plan begun t
unfolding is_due
due_known plan h begun t ids counted =
    ap (λ n. nat_lt n plan.rounds && list_any (λ (p : Planned). not (has_ended h p)) plan.threads) counted.rounds
    ∙ ap (λ b. nat_lt begun plan.rounds && b) (any_same (λ (p : Planned). not (has_ended h p)) (λ (p : Planned). not (flag_of t p.id)) plan.threads (λ k d low. ap not (counted.ended (get_or plan.threads k d) (ids k d low))))

pub ids_few : (p : Meaning) (plan : Plan) → Fits p plan → All (λ (q : Planned). q.id ≤ MAX_THREADS) plan.threads
ids_few p plan fits k d low = (fits.threads k d low).id_small

module _ (begun : ℕ) (t : Tally) (v : View) (between : IsBetween begun t v) where
  pub entries_few : t.entries ≤ MAX_ENTRIES
  entries_few =
      let h = between.known.0 in let ag = between.known.1 in let count = (between.counted h ag).entries in let room = ag.reserve in let most = ag.limits.few_entries in omega arith

  -- the next round may begin
  pub may_begin : due_by v.plan begun t ≡ true → RoundFits v.plan t.entries → MayBeginRound v (begun + 1)
  may_begin due room h ag =
      let counted = between.counted h ag in
      record {
        next = record {
          complete = counted.complete;
          due = due_known v.plan h begun t (ids_few (meaning_in v) v.plan ag.fits) counted ∙ due;
          next = ap (λ n. n + 1) (sym counted.rounds);
        };
        room = subst (RoundFits v.plan) (sym counted.entries) room;
      }

  -- and once the cores have played, one more round is over
  module _ (now : Tally) (w : View) (b : BeganAndPlayed (begun + 1) t now v w) (room : RoundFits v.plan t.entries) where
    abbrev h₀ : List Entry
    h₀ = b.begins.history

    before : IsCounted v.plan h₀ begun t
    before = between.counted h₀ b.begins.before

    plan_same : w.plan ≡ v.plan
    plan_same = ap (λ (u : View). u.plan) b.played.rest ∙ ap (λ (u : View). u.plan) b.begins.view

    role_is : w.role ≡ role.Opening (h₀ ++ entry.Round (begun + 1) ∷ []) b.played.turns
    role_is = b.played.role ∙ ap (λ m. role.Opening m b.played.turns) (ap (λ (u : View). merged_in u.role) b.begins.view)

    module _ (g : List Entry) (ag : Agrees w g) where
      opening : IsTrueRole (meaning_in w) w.plan g w.own (role.Opening (h₀ ++ entry.Round (begun + 1) ∷ []) b.played.turns)
      opening = subst (IsTrueRole (meaning_in w) w.plan g w.own) role_is ag.role

      back_in : (c : ℕ) (x : Turn) → get_elem? b.played.turns c ≡ some x → (log_in x ≡ own_log c g) × (has_attempted (own_entries g c) ≡ true)
      back_in c x there = came_back g c x (b.played.later c x (omega arith) there) (opening.are_true c x there)

      wide : length b.played.turns ≡ w.plan.cores
      wide = opening.count

      total : entries_of b.played.turns ≡ sum_by (λ c. length (own_entries g c)) (core_numbers w.plan)
      total =
          sums_by_number b.played.turns (λ (x : Turn). length (log_in x)) (λ c. length (own_entries g c))
          (λ c x there. let came = back_in c x there in long_as (log_in x) (own_log c g) came.0 ∙ ap length (own_is c g))
          ∙ ap (λ n. sum_by (λ c. length (own_entries g c)) (range_with_len 0 n)) wide
        where
          long_as : (l k : List Logged) → l ≡ k → length l ≡ length (map (λ (x : Logged). x.entry) k)
          long_as l k same = ap length same ∙ sym (length-map k (λ (x : Logged). x.entry))

      any_total : (id : ℕ) → list_any (λ (x : Turn). list_any (ends id) (entries_in x)) b.played.turns ≡ list_any (λ c. list_any (ends id) (own_entries g c)) (core_numbers w.plan)
      any_total id =
          any_by_number b.played.turns (λ (x : Turn). list_any (ends id) (entries_in x)) (λ c. list_any (ends id) (own_entries g c))
          (λ c x there. let came = back_in c x there in any_as (log_in x) (own_log c g) came.0 ∙ ap (list_any (ends id)) (own_is c g))
          ∙ ap (λ n. list_any (λ c. list_any (ends id) (own_entries g c)) (range_with_len 0 n)) wide
        where
          any_as : (l k : List Logged) → l ≡ k → list_any (ends id) (map (λ (y : Logged). y.entry) l) ≡ list_any (ends id) (map (λ (y : Logged). y.entry) k)
          any_as l k same = ap (λ (m : List Logged). list_any (ends id) (map (λ (y : Logged). y.entry) m)) same

      tried : (c : ℕ) → c < w.plan.cores → has_attempted (own_entries g c) ≡ true
      tried c low = let there = entry_at b.played.turns c (let count = wide in omega arith) in (back_in c there.0 there.1).1

      long : length g ≡ t.entries + 1 + entries_of b.played.turns
      long =
          let split = entries_split (meaning_in w) w.plan g ag.legal in let sums = total in let started = ag.dated.start in
          let start = ap (λ (u : View). u.start) b.played.rest ∙ ap (λ (u : View). u.start) b.begins.view in let at = b.begins.at in let count = before.entries in
          omega arith

      pub one_more : IsCounted w.plan g (begun + 1) now
      unfolding is_complete
      one_more = record {
        rounds = sym (open_round (meaning_in w) w.plan g ag.legal) ∙ (sym ag.dated.round ∙ (ap (λ (u : View). u.round) b.played.rest ∙ ap (λ (u : View). u.round) b.begins.view));
        complete = ap (λ x. (rounds_begun g == 0) || x) (all_numbers (λ c. has_attempted (own_entries g c)) 0 w.plan.cores (λ c low. tried c (omega arith))) ∙ or_true (rounds_begun g == 0);
        entries =
            let count = long in let room = ag.reserve in let most = ag.limits.few_entries in let more = b.more in let sum = b.played.entries in
            omega arith;
        ended = λ q low.
            has_ended_split (meaning_in w) w.plan g q ag.legal
            ∙ (ap (λ (l : List Entry). has_ended l q || list_any (λ c. list_any (ends q.id) (own_entries g c)) (core_numbers w.plan)) (sym opening.is_merged)
            ∙ (ap (λ x. x || list_any (λ c. list_any (ends q.id) (own_entries g c)) (core_numbers w.plan)) (list_any-append (ends q.id) h₀ (entry.Round (begun + 1) ∷ []) ∙ (or_false (has_ended h₀ q) ∙ (before.ended q low ∙ ap (λ (l : List Bool). get_or l q.id false) (sym b.same))))
            ∙ (ap (λ x. flag_of b.counted q.id || x) (sym (any_total q.id)) ∙ sym (b.played.ended q.id low))));
        roomy = one_had w.plan h₀ g (begun + 1) opening.is_merged (subst (λ (x : Plan). HadRoom x h₀) (sym plan_same) before.roomy)
            (subst (λ (x : Plan). RoundFits x (length h₀)) (sym plan_same) (subst (RoundFits v.plan) (sym before.entries) room));
      }
        where
          or_true : (x : Bool) → (x || true) ≡ true
          or_true true = refl
          or_true false = refl

          or_false : (x : Bool) → (x || false) ≡ x
          or_false true = refl
          or_false false = refl

    pub next_between : IsBetween (begun + 1) now w
    next_between =
        let idle = begun_idle (begun + 1) b.at v b.opened b.begins between.free (omega arith) in
        record {
          back = played_back b.counted now b.opened w b.played;
          free = ap (λ (u : View). u.held) b.played.rest ∙ idle.free;
          known = b.played.known (let plan = ap (λ (u : View). u.plan.cores) b.begins.view in let some_cores = between.known.1.fits.some_cores in omega arith);
          counted = one_more;
        }

  -- how a run ends
  module _ (p : Meaning) (plan : Plan) (is_p : meaning_in v ≡ p) (is_plan : v.plan ≡ plan) (closed : ClosedView) (ends_so : IsClosed v closed)
      (Passed : ℕ → ℕ → Type 0) (gone : AllPassed Passed plan begun) where
    of_these : (P : Meaning → Plan → Type 0) → P (meaning_in v) v.plan → P p plan
    of_these P holds = subst (λ (x : Meaning × Plan). P x.0 x.1) (λ i. (is_p i, is_plan i)) holds

    ag : Agrees v ends_so.history
    ag = ends_so.known

    counted_now : IsCounted plan ends_so.history begun t
    counted_now = subst (λ (x : Plan). IsCounted x ends_so.history begun t) is_plan (between.counted ends_so.history ag)

    left_by : AreLeftBy p plan Passed ends_so.history closed
    left_by =
        let legal = of_these (λ q pl. Legal q pl ends_so.history) ag.legal in
        record {
          cores = λ c y there. of_these (λ q pl. y.core ≡ after q pl ends_so.history c) (ends_so.cores c y there).core;
          logs = ends_so.logs;
          legal = legal;
          count = of_these (λ q pl. length closed.cores ≡ pl.cores) ends_so.count;
          few = of_these (λ q pl. length ends_so.history ≤ pl.limit) (let room = ag.reserve in omega arith);
          roomy = counted_now.roomy;
          passed = λ c r inside early. gone c r inside (let count = counted_now.rounds in omega arith);
          keeps = λ meets. main_theorem p meets plan ends_so.history (of_these Fits ag.fits) legal;
        }

    due_now : is_due plan ends_so.history ≡ due_by plan begun t
    due_now = due_known plan ends_so.history begun t (ids_few p plan (of_these Fits ag.fits)) counted_now

    pub ends_whole : due_by plan begun t ≡ false → RunsWhole p plan Passed closed
    ends_whole none = record {
      history = ends_so.history;
      left = left_by;
      whole = record { legal = left_by.legal; complete = counted_now.complete; finished = due_now ∙ none };
    }

    pub ends_full : due_by plan begun t ≡ true → (RoundFits plan t.entries → ⊥) → RunsFull p plan Passed closed
    ends_full due full = record {
      history = ends_so.history;
      left = left_by;
      complete = counted_now.complete;
      full = record { due = due_now ∙ due; full = let count = counted_now.entries in let over : RoundFits plan t.entries → ⊥ = full in omega arith };
    }

-- behind the last round of the plan none is due
pub due_stops : (plan : Plan) (begun : ℕ) (t : Tally) → plan.rounds ≤ begun → due_by plan begun t ≡ false
due_stops plan begun t over =
    let none : nat_lt begun plan.rounds ≡ false = grind (arith, over, nat_tests) in
    ap (λ b. b && list_any (λ (p : Planned). not (flag_of t p.id)) plan.threads) none

-- once each core has passed the gate in one more round
pub passed_more : (Passed : ℕ → ℕ → Type 0) (plan : Plan) (begun : ℕ) → AllPassed Passed plan begun → HavePassed Passed plan 0 (begun + 1) → AllPassed Passed plan (begun + 1)
passed_more Passed plan begun before now c r inside early = by (nat_lt r begun) refl
  where
    by : (b : Bool) → nat_lt r begun ≡ b → Passed c (r + 1)
    by true less = before c r inside (grind (arith, less, nat_tests))
    by false most = let same : begun ≡ r = grind (arith, most, early, nat_tests) in subst (λ k. Passed c (k + 1)) same (now c (omega arith) inside)
