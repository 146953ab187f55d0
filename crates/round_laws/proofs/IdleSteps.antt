-- What one entry does to thread counts and to the number of idle cores: only an entry that blocks or ends a thread raises
-- that, by one at most, and the steal of an idle core lowers it.
use Rattle.std.proofs.Common.{◌≡◌, ◌≢◌, ℕ, suc, ◌+◌, ◌≤◌, ◌==◌, ◌||◌, eqb, Bool, true, false, cond, List, [], ◌∷◌, ◌++◌, option_to_list, take, fold, Option, Some, None, length, count_by, refl, sym, ap, ◌∙◌, arith}
use Rattle.std.proofs.lemmas.Bool.Decides.{nat_tests}
use Rattle.std.proofs.lemmas.List.{length-append}
use Rattle.std.proofs.lemmas.List.Sums.{sum_by_push}
use mathlib.Core.Option.{some}
use lib.ListN.{get_elem?}
use Rattle.sched_base.specs.declared.task.Task.{Task}
use Rattle.policy_tree.specs.declared.typed.Event.{Event}
use Rattle.policy_tree.specs.declared.typed.Event.TheVariants as event
use Rattle.policy_tree.specs.declared.typed.Put.{Put}
use Rattle.policy_tree.specs.declared.typed.Put.TheVariants as put
use Rattle.policy_tree.specs.Meaning.{Meaning}
use Rattle.policy_eval.specs.Events.{outcomes_of}
use Rattle.policy_eval.specs.Obligations.{MeetsObligations}
use Rattle.round_model.specs.declared.entry.Did.{Did}
use Rattle.round_model.specs.declared.entry.Entry.{Entry}
use Rattle.round_model.specs.declared.entry.Entry.TheVariants as entry
use Rattle.round_model.specs.declared.plan.Burst.{Burst}
use Rattle.round_model.specs.declared.plan.Plan.{Plan}
use Rattle.round_model.specs.declared.plan.Planned.{Planned}
use Rattle.round_model.specs.declared.state.Blocked.{Blocked}
use Rattle.round_model.specs.declared.state.CountAndLoad.{CountAndLoad}
use Rattle.round_model.specs.declared.state.ModelCore.{ModelCore}
use Rattle.round_model.specs.After.{after, effect, entered, moved, round_of, woken}
use Rattle.round_model.specs.Cores.{Cores, thread_count}
use Rattle.round_model.specs.Entries.{touches}
use Rattle.round_model.specs.Fits.{Fits}
use Rattle.round_model.specs.Kinds.{is_steal}
use Rattle.round_model.specs.Legal.{Legal}
use Rattle.round_model.specs.Moves.{admitted, blocked_of, core_after_event, released, with_outcome, with_task}
use Rattle.round_model.specs.Programs.{Meeting, blocking, burst_of, ending_now, entering_task, meeting_of, place_after, planned_of, tick, yielding}
use Rattle.round_model.specs.Rounds.{disturbs, is_leaving}
use Rattle.round_model.specs.Work.{after_meeting, after_unit, core_after_work, elected, run_over, worked}
use Rattle.round_laws.specs.IdleBound.{IdleRisesOnlyBy, idle_at, takes_off}
use Rattle.round_laws.proofs.MoveObligations.{move_obligations}
use Rattle.round_laws.proofs.Amounts.{amount_elected, amount_taken, count_is}
use Rattle.round_laws.proofs.IdleCounts.{idle_fewer, idle_no_more, idle_one_more, idle_stays}
use Rattle.round_laws.proofs.KeptLoads.{keeps_loads}
use Rattle.round_laws.proofs.MoveRows.{AreMoves, steal_at}
use Rattle.round_laws.proofs.RowCounts.{row_more, row_there}
use Rattle.round_laws.proofs.Positions.{entry_more, state_behind}
use Rattle.round_laws.proofs.Thefts.{IsMove}

-- a core to which threads come has no fewer
put_grows : (place : Put) (wake : ℕ) (t : Task) (core : ModelCore) → thread_count core ≤ thread_count (with_task place wake t core)
put_grows put.Queue wake t core =
    omega (arith, length-append (option_to_list core.current) (core.queue ++ t ∷ []), length-append core.queue (t ∷ []), length-append (option_to_list core.current) core.queue)
put_grows put.Keep wake t core = by_current core.current
  where
    by_current : (current : Option Task) → length (option_to_list current ++ core.queue) ≤ suc (length core.queue)
    by_current None = omega arith
    by_current (Some x) = omega arith
put_grows put.Block wake t core = omega arith

puts_grow : (wake : ℕ) (outcomes : List (Task × Put)) (core : ModelCore) → thread_count core ≤ thread_count (fold (with_outcome wake) core outcomes)
puts_grow wake [] core = omega arith
puts_grow wake (o ∷ outcomes) core =
    let one = put_grows o.1 wake o.0 core in
    let rest = puts_grow wake outcomes (with_outcome wake core o) in
    omega arith

module _ (p : Meaning) where
  event_grows : (e : Event) (fresh : Bool) (wake : ℕ) (t : Task) (core : ModelCore) → thread_count core ≤ thread_count (core_after_event p e fresh wake t core)
  unfolding core_after_event
  event_grows e fresh wake t core = puts_grow wake (outcomes_of p e fresh core.consts t) core

  released_keeps : (b : Bool) (id : ℕ) (core : ModelCore) → thread_count core ≤ thread_count (cond b (released id core) core)
  unfolding released
  released_keeps true id core = omega arith
  released_keeps false id core = omega arith

  entered_grows : (found : Option Planned) (core : ModelCore) → thread_count core ≤ thread_count (entered p found core)
  entered_grows None core = omega arith
  entered_grows (Some t) core = event_grows event.Enqueue true 0 (entering_task p t) core

  comes_or_not : (b : Bool) (t : Task) (core : ModelCore) → thread_count core ≤ thread_count (cond b (admitted p false t core) core)
  comes_or_not true t core = event_grows event.Enqueue false 0 t core
  comes_or_not false t core = omega arith

  woken_grows : (by at c : ℕ) (found : Option Blocked) (core : ModelCore) → thread_count core ≤ thread_count (woken p by at c found core)
  woken_grows by at c None core = omega arith
  woken_grows by at c (Some b) core =
      let left = cond (by == c) (released b.task.id core) core in
      let leaves = released_keeps (by == c) b.task.id core in
      let comes = comes_or_not (at == c) b.task left in
      omega arith

  -- a unit of work takes one thread at most from its core
  meeting_grows : (round : ℕ) (m : Meeting) (t : Task) (core : ModelCore) → thread_count core ≤ thread_count (after_meeting p round m t core).core
  meeting_grows round tick t core = event_grows event.Tick false 0 t core
  meeting_grows round yielding t core = event_grows event.Yield false 0 t core
  meeting_grows round (blocking rounds) t core = event_grows event.Block false (round + rounds) t core
  meeting_grows round ending_now t core = omega arith

  unit_takes_one : (round : ℕ) (core : ModelCore) (t : Task) → core.current ≡ Some t → (found : Option Burst) → thread_count core ≤ thread_count (after_unit p round core t found).core + 1
  unit_takes_one round core t is None = omega arith
  unit_takes_one round core t is (Some b) =
      let left : ModelCore = record core { current = None } in
      let ran : Task = record t { place = place_after b t.place } in
      let rest = meeting_grows round (meeting_of b t.place) ran left in
      omega (arith, amount_taken (λ w. 1) t core is, count_is left, count_is core)

  run_takes_one : (plan : Plan) (round : ℕ) (core : ModelCore) (current : Option Task) → core.current ≡ current → thread_count core ≤ thread_count (run_over p plan round core current).core + 1
  run_takes_one plan round core None is = omega arith
  run_takes_one plan round core (Some t) is = unit_takes_one round core t is (burst_of plan t)

  work_takes_one : (plan : Plan) (round : ℕ) (core : ModelCore) → thread_count core ≤ thread_count (core_after_work p plan round core) + 1
  unfolding worked
  work_takes_one plan round core =
      let mid = elected p core in
      let run = run_takes_one plan round mid mid.current refl in
      omega (arith, amount_elected (λ w. 1) p core, count_is mid, count_is core)

-- one of two cores, neither of which has fewer
either_grows : (b : Bool) (new old : ModelCore) → thread_count old ≤ thread_count new → thread_count old ≤ thread_count (cond b new old)
either_grows true new old grows = grows
either_grows false new old grows = omega arith

module _ (p : Meaning) (plan : Plan) (round : ℕ) (m : Cores) where
  enter_grows : (thread by at : ℕ) (reads : List ℕ) (c : ℕ) → thread_count (m c) ≤ thread_count (moved p plan round (entry.Enter thread by at reads) m c)
  unfolding touches effect
  enter_grows thread by at reads c = either_grows (at == c) (entered p (planned_of plan thread) (m c)) (m c) (entered_grows p (planned_of plan thread) (m c))

  wake_grows : (thread by at : ℕ) (reads : List ℕ) (c : ℕ) → thread_count (m c) ≤ thread_count (moved p plan round (entry.Wake thread by at reads) m c)
  unfolding touches effect
  wake_grows thread by at reads c =
      either_grows ((by == c) || (at == c)) (woken p by at c (blocked_of thread (m by)) (m c)) (m c) (woken_grows p by at c (blocked_of thread (m by)) (m c))

  -- a unit of work concerns its core alone
  work_elsewhere : (by : ℕ) (what : Did) (c : ℕ) → c ≢ by → moved p plan round (entry.Work by what) m c ≡ m c
  unfolding touches effect
  work_elsewhere by what c apart =
      let other : eqb by c ≡ false = let swapped : by ≢ c = λ is. apart (sym is) in grind (arith, nat_tests) in
      ap (λ b. cond b (core_after_work p plan round (m c)) (m c)) other

  work_here : (by : ℕ) (what : Did) → moved p plan round (entry.Work by what) m by ≡ core_after_work p plan round (m by)
  unfolding touches effect
  work_here by what = let same : eqb by by ≡ true = grind (arith, nat_tests) in ap (λ b. cond b (core_after_work p plan round (m by)) (m by)) same

-- how many of the first k entries block or end a thread
abbrev pub off_before : List Entry → ℕ → ℕ
off_before h k = count_by takes_off (take k h)

pub off_more : (h : List Entry) (k : ℕ) (e : Entry) → get_elem? h k ≡ some e → off_before h (suc k) ≡ off_before h k + cond (takes_off e) 1 0
off_more h k e is = ap (count_by takes_off) (entry_more h k e is) ∙ sum_by_push (λ x. cond (takes_off x) 1 0) (take k h) e

module _ (p : Meaning) (plan : Plan) (h : List Entry) where
  -- the thread count of a core at a position
  abbrev pub count_at : ℕ → ℕ → ℕ
  count_at k c = thread_count (after p plan (take k h) c)

  count_behind : (k c : ℕ) (e : Entry) → get_elem? h k ≡ some e → count_at (suc k) c ≡ thread_count (moved p plan (round_of (take k h)) e (after p plan (take k h)) c)
  count_behind k c e is = ap (λ (m : Cores). thread_count (m c)) (state_behind p plan h k e is)

  -- where a thread enters or wakes no core has fewer
  pub enter_at : (k thread by at : ℕ) (reads : List ℕ) → get_elem? h k ≡ some (entry.Enter thread by at reads) → (c : ℕ) → count_at k c ≤ count_at (suc k) c
  enter_at k thread by at reads is c =
      let grows = enter_grows p plan (round_of (take k h)) (after p plan (take k h)) thread by at reads c in
      omega (arith, count_behind k c (entry.Enter thread by at reads) is)

  pub wake_at : (k thread by at : ℕ) (reads : List ℕ) → get_elem? h k ≡ some (entry.Wake thread by at reads) → (c : ℕ) → count_at k c ≤ count_at (suc k) c
  wake_at k thread by at reads is c =
      let grows = wake_grows p plan (round_of (take k h)) (after p plan (take k h)) thread by at reads c in
      omega (arith, count_behind k c (entry.Wake thread by at reads) is)

  -- a unit of work takes one thread at most from its core, and none from others
  pub work_at : (k by : ℕ) (what : Did) → get_elem? h k ≡ some (entry.Work by what) → count_at k by ≤ count_at (suc k) by + 1
  work_at k by what is =
      let m = after p plan (take k h) in
      let one = work_takes_one p plan (round_of (take k h)) (m by) in
      omega (arith, count_behind k by (entry.Work by what) is, ap thread_count (work_here p plan (round_of (take k h)) m by what))

  pub work_others : (k by : ℕ) (what : Did) → get_elem? h k ≡ some (entry.Work by what) → (c : ℕ) → c ≢ by → count_at (suc k) c ≡ count_at k c
  work_others k by what is c apart =
      let m = after p plan (take k h) in
      count_behind k c (entry.Work by what) is ∙ ap thread_count (work_elsewhere p plan (round_of (take k h)) m by what c apart)

-- a move makes no core idle
move_keeps : (plan : Plan) (by from thread : ℕ) (m w : Cores) → IsMove plan by from thread m w → (c : ℕ) → thread_count (w c) ≡ 0 → thread_count (m c) ≡ 0
move_keeps plan by from thread m w move c none =
    let two = move.overloaded in
    let not_thief : c ≢ by = λ is. let same : thread_count (w c) ≡ thread_count (w by) = ap (λ k. thread_count (w k)) is in let more = move.more in omega arith in
    let not_victim : c ≢ from = λ is. let same : thread_count (w c) ≡ thread_count (w from) = ap (λ k. thread_count (w k)) is in let fewer = move.fewer in omega arith in
    let same = ap (λ (s : CountAndLoad). s.nr) (move.others c not_thief not_victim) in
    omega arith

-- nor does a row of them
row_keeps : (plan : Plan) (by from : ℕ) (threads : List ℕ) (m w : Cores) → AreMoves plan by from threads m w → (c : ℕ) → thread_count (w c) ≡ 0 → thread_count (m c) ≡ 0
row_keeps plan by from [] m w same c none = ap thread_count (sym (same c)) ∙ none
row_keeps plan by from (thread ∷ threads) m w (k, move, rest) c none = move_keeps plan by from thread m k move c (row_keeps plan by from threads k w rest c none)

module _ (p : Meaning) (plan : Plan) (h : List Entry) (fits : Fits p plan) (meets : MeetsObligations p) (legal : Legal p plan h) where
  -- an entry that is no steal and doesn't disturb leaves their number
  calm_stays : (k : ℕ) (e : Entry) → get_elem? h k ≡ some e → is_steal e ≡ false → disturbs e ≡ false → idle_at p plan h (suc k) ≤ idle_at p plan h k
  calm_stays k e is other calm = idle_stays plan (after p plan (take k h)) (after p plan (take (suc k) h)) (λ c there. keeps_loads p plan h fits (move_obligations p meets) legal k c e is other calm there)

  leaves_one : (k by : ℕ) (what : Did) → get_elem? h k ≡ some (entry.Work by what) → idle_at p plan h (suc k) ≤ idle_at p plan h k + 1
  leaves_one k by what is =
      idle_one_more plan (after p plan (take k h)) (after p plan (take (suc k) h)) by
      (λ c there apart none. sym (work_others p plan h k by what is c apart) ∙ none)

  pub rises_only_by : IdleRisesOnlyBy p plan h
  rises_only_by k (entry.Round number) is = let calm = calm_stays k (entry.Round number) is refl refl in omega arith
  rises_only_by k (entry.Enter thread by at reads) is =
      let keep = idle_no_more plan (after p plan (take k h)) (after p plan (take (suc k) h)) (λ c there none. let grows = enter_at p plan h k thread by at reads is c in omega arith) in
      omega arith
  rises_only_by k (entry.Wake thread by at reads) is =
      let keep = idle_no_more plan (after p plan (take k h)) (after p plan (take (suc k) h)) (λ c there none. let grows = wake_at p plan h k thread by at reads is c in omega arith) in
      omega arith
  rises_only_by k (entry.Work by what) is =
      elim (is_leaving what) as (λ b. is_leaving what ≡ b → idle_at p plan h (suc k) ≤ idle_at p plan h k + cond b 1 0) [
        | true ↦ λ gone. leaves_one k by what is
        | false ↦ λ stays. let calm = calm_stays k (entry.Work by what) is refl stays in omega arith
      ] refl
  rises_only_by k (entry.Steal by from threads reads) is =
      let m = after p plan (take k h) in
      let w = after p plan (take (suc k) h) in
      let keep = idle_no_more plan m w (λ c there. row_keeps plan by from threads m w (steal_at p plan h fits (move_obligations p meets) legal k by from threads reads is).1 c) in
      omega arith
  rises_only_by k (entry.Fail by from reads) is = let calm = calm_stays k (entry.Fail by from reads) is refl refl in omega arith
  rises_only_by k (entry.Pass by reads) is = let calm = calm_stays k (entry.Pass by reads) is refl refl in omega arith

  -- a steal by an idle core lowers it
  pub idle_steal_lowers : (k by from : ℕ) (threads reads : List ℕ) → get_elem? h k ≡ some (entry.Steal by from threads reads) → thread_count (after p plan (take k h) by) ≡ 0
      → idle_at p plan h (suc k) + 1 ≤ idle_at p plan h k
  idle_steal_lowers k by from threads reads is idle =
      let m = after p plan (take k h) in
      let w = after p plan (take (suc k) h) in
      let steal = steal_at p plan h fits (move_obligations p meets) legal k by from threads reads is in
      let enough = steal.0 in
      let row = steal.1 in
      idle_fewer plan m w (λ c there. row_keeps plan by from threads m w row c) by (row_there plan by from threads m w enough row).own idle
      (omega (arith, row_more plan by from threads m w row))
