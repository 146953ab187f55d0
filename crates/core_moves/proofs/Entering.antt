-- A thread enters: what each step asks, and what they come to.
use Rattle.std.proofs.Common.{◌≡◌, ℕ, ◌<◌, List, [], ◌∷◌, ◌++◌, All, IsSome, Some, length, true, ap, ◌∙◌, arith}
use Rattle.sched_base.specs.declared.limits.TheConstants.{MAX_ENTRIES}
use Rattle.sched_base.specs.declared.task.Task.{Task}
use Rattle.policy_tree.specs.Meaning.{Meaning}
use Rattle.policy_eval.specs.Obligations.{MeetsHandlerObligations}
use Rattle.round_model.specs.declared.entry.Entry.{Entry}
use Rattle.round_model.specs.declared.entry.Entry.TheVariants as entry
use Rattle.round_model.specs.declared.plan.Plan.{Plan}
use Rattle.round_model.specs.declared.plan.Planned.{Planned}
use Rattle.round_model.specs.After.{after, round_of}
use Rattle.round_model.specs.Updates.{updated}
use Rattle.round_model.specs.Cores.{Cores}
use Rattle.round_model.specs.Fits.{Fits}
use Rattle.round_model.specs.Moves.{admitted}
use Rattle.round_model.specs.Programs.{entering_task, planned_of}
use Rattle.round_model.proofs.Moved.{moved_enter}
use Rattle.round_model.proofs.There.{are_there}
use Rattle.core_moves.specs.Code.Changes.{Becomes, CanAdmit, CanLog, HoldsAt, Notes}
use Rattle.core_moves.specs.Cores.{AreCoresOf, CoresView, Shows}
use Rattle.core_moves.specs.Moves.{MayMove}
use Rattle.core_moves.proofs.Found.{enter_planned}
use Rattle.core_moves.proofs.Reached.{can_enter}
use Rattle.core_moves.proofs.Shown.{can_log, entries_fit, holds_shown, shown_after, shown_count}

module _ (p : Meaning) (plan : Plan) (h : List Entry) (thread by at : ℕ) (reads : List ℕ) (old : CoresView)
    (may : MayMove p plan h (entry.Enter thread by at reads) old) where
  there : at < plan.cores
  there = are_there p plan h (entry.Enter thread by at reads) may.next

  pub is_planned : IsSome (planned_of plan thread)
  is_planned = enter_planned p plan h thread by at reads may.next

  pub at_in : at < length old.cores
  at_in = let count = shown_count p plan h (after p plan h) old may.are in let inside = there in omega arith

  pub can_come : Fits p plan → MeetsHandlerObligations p → HoldsAt old.cores at (CanAdmit p)
  can_come fits handlers =
      holds_shown p plan h (after p plan h) old may.are (CanAdmit p) at there (can_enter p plan fits handlers h may.legal thread by at reads there may.next)

  module _ (last : CoresView) (t : Planned) (is : planned_of plan thread ≡ Some t) (task : Task) (made : task ≡ entering_task p t)
      (came : Becomes p at (admitted p true task) old last) where
    placed : Cores
    placed = updated (after p plan h) at (admitted p true task (after p plan h at))

    shows : Shows p plan h placed last
    unfolding placed
    shows = came plan h (after p plan h) there may.are

    pub entries_few : last.entries < MAX_ENTRIES
    entries_few = entries_fit p plan h placed last shows may.room

    pub can_note : All (CanLog last.entries) last.cores
    can_note = can_log p plan h placed last shows may.room

    pub ends : (new : CoresView) → Notes (entry.Enter thread by at reads) last new → AreCoresOf p plan (h ++ entry.Enter thread by at reads ∷ []) new
    unfolding placed
    ends new noted =
        shown_after p plan h (entry.Enter thread by at reads) placed new
        (λ c. ap (λ (x : Task). updated (after p plan h) at (admitted p true x (after p plan h at)) c) made
        ∙ moved_enter p plan (round_of h) (after p plan h) thread by at reads (Some t) is c) (noted p plan h placed shows)
