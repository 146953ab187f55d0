-- A thread wakes: what each step asks, and what they come to.
use Rattle.std.proofs.Common.{◌≡◌, ℕ, ◌<◌, List, [], ◌∷◌, ◌++◌, All, IsSome, Some, length, option_map, false, arith}
use Rattle.sched_base.specs.declared.limits.TheConstants.{MAX_ENTRIES}
use Rattle.sched_base.specs.declared.task.Task.{Task}
use Rattle.policy_tree.specs.Meaning.{Meaning}
use Rattle.policy_eval.specs.Fitting.{IsTask}
use Rattle.policy_eval.specs.Obligations.{MeetsHandlerObligations}
use Rattle.round_model.specs.declared.entry.Entry.{Entry}
use Rattle.round_model.specs.declared.entry.Entry.TheVariants as entry
use Rattle.round_model.specs.declared.plan.Plan.{Plan}
use Rattle.round_model.specs.declared.state.Blocked.{Blocked}
use Rattle.round_model.specs.After.{after, round_of}
use Rattle.round_model.specs.Updates.{updated}
use Rattle.round_model.specs.Cores.{Cores}
use Rattle.round_model.specs.Fits.{Fits}
use Rattle.round_model.specs.Moves.{admitted, blocked_of, released}
use Rattle.round_model.proofs.Keeping.{holds_released, standing_released}
use Rattle.round_model.proofs.Moved.{blocked_found, blocked_task_fits}
use Rattle.round_model.proofs.There.{are_there}
use Rattle.core_moves.specs.Code.Changes.{Becomes, CanAdmit, CanLog, HoldsAt, Notes}
use Rattle.core_moves.specs.Cores.{AreCoresOf, CoresView, Shows, shown}
use Rattle.core_moves.specs.Moves.{MayMove}
use Rattle.core_moves.proofs.Effects.{wakes}
use Rattle.core_moves.proofs.Found.{wake_blocked}
use Rattle.core_moves.proofs.Reached.{can_admit, core_holds}
use Rattle.core_moves.proofs.Shown.{can_log, entries_fit, holds_shown, shown_after, shown_count, shown_some}

module _ (p : Meaning) (plan : Plan) (h : List Entry) (thread by at : ℕ) (reads : List ℕ) (old : CoresView)
    (may : MayMove p plan h (entry.Wake thread by at reads) old) where
  there : (by < plan.cores) × (at < plan.cores)
  there = are_there p plan h (entry.Wake thread by at reads) may.next

  blocked_there : IsSome (blocked_of thread (after p plan h by))
  blocked_there = wake_blocked p plan h thread by at reads may.next

  pub by_in : by < length old.cores
  by_in = let count = shown_count p plan h (after p plan h) old may.are in let inside = there.0 in omega arith

  pub is_blocked : HoldsAt old.cores by (λ y. IsSome (blocked_of thread y.core))
  is_blocked = holds_shown p plan h (after p plan h) old may.are (λ y. IsSome (blocked_of thread y.core)) by there.0 blocked_there

  module _ (mid : CoresView) (t : Task) (taken : HoldsAt old.cores by (λ y. option_map (λ (b : Blocked). b.task) (blocked_of thread y.core) ≡ Some t))
      (left : Becomes p by (released thread) old mid) where
    without : Cores
    without = updated (after p plan h) by (released thread (after p plan h by))

    shows_mid : Shows p plan h without mid
    unfolding without
    shows_mid = left plan h (after p plan h) there.0 may.are

    task_is : option_map (λ (b : Blocked). b.task) (blocked_of thread (after p plan h by)) ≡ Some t
    task_is = taken (shown p plan h (after p plan h) by) (shown_some p plan h (after p plan h) old may.are by there.0)

    pub at_in : at < length mid.cores
    at_in = let count = shown_count p plan h without mid shows_mid in let inside = there.1 in omega arith

    pub task_fits : Fits p plan → MeetsHandlerObligations p → IsTask p t
    task_fits fits handlers = blocked_task_fits p (after p plan h by) (core_holds p plan fits handlers h may.legal by there.0).blocked thread t task_is

    pub can_come : Fits p plan → MeetsHandlerObligations p → HoldsAt mid.cores at (CanAdmit p)
    unfolding without
    can_come fits handlers =
        holds_shown p plan h without mid shows_mid (CanAdmit p) at there.1
        (can_admit p plan fits handlers h may.legal by at (released thread) there.0 there.1 (standing_released p thread (after p plan h by) blocked_there)
        (holds_released p thread (after p plan h by) (core_holds p plan fits handlers h may.legal by there.0)))

    module _ (last : CoresView) (came : Becomes p at (admitted p false t) mid last) where
      placed : Cores
      placed = updated without at (admitted p false t (without at))

      shows : Shows p plan h placed last
      unfolding placed
      shows = came plan h without there.1 shows_mid

      pub entries_few : last.entries < MAX_ENTRIES
      entries_few = entries_fit p plan h placed last shows may.room

      pub can_note : All (CanLog last.entries) last.cores
      can_note = can_log p plan h placed last shows may.room

      pub ends : (new : CoresView) → Notes (entry.Wake thread by at reads) last new → AreCoresOf p plan (h ++ entry.Wake thread by at reads ∷ []) new
      unfolding placed without
      ends new noted =
          let found = blocked_found (blocked_of thread (after p plan h by)) t task_is in
          shown_after p plan h (entry.Wake thread by at reads) placed new
          (wakes p plan (round_of h) (after p plan h) thread by at reads found.0 t found.1 found.2) (noted p plan h placed shows)
