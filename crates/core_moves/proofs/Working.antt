-- A core runs its unit: what each step asks, and what they come to.
use Rattle.std.proofs.Common.{ℕ, ◌<◌, ◌≤◌, List, All, length, ap, ◌∙◌, arith}
use Rattle.sched_base.specs.declared.limits.TheConstants.{MAX_ENTRIES, MAX_ROUNDS}
use Rattle.policy_tree.specs.Meaning.{Meaning}
use Rattle.policy_eval.specs.Obligations.{MeetsHandlerObligations}
use Rattle.round_model.specs.declared.entry.Did.{Did}
use Rattle.round_model.specs.declared.entry.Entry.{Entry}
use Rattle.round_model.specs.declared.entry.Entry.TheVariants as entry
use Rattle.round_model.specs.declared.plan.Plan.{Plan}
use Rattle.round_model.specs.After.{after, round_of}
use Rattle.round_model.specs.Updates.{updated}
use Rattle.round_model.specs.Cores.{Cores}
use Rattle.round_model.specs.Fits.{Fits}
use Rattle.round_model.specs.Work.{IsOutcomeOfWork, core_after_work}
use Rattle.round_model.proofs.Moved.{moved_work}
use Rattle.core_moves.specs.Code.Changes.{Becomes, CanLog, CanRun, HoldsAt, Notes}
use Rattle.core_moves.specs.Cores.{CoresView, Shows, shown}
use Rattle.core_moves.specs.Moves.{MayWork, Works}
use Rattle.core_moves.proofs.Reached.{can_run, round_within}
use Rattle.core_moves.proofs.Shown.{can_log, entries_fit, holds_shown, shown_after, shown_count, shown_some}

module _ (p : Meaning) (plan : Plan) (h : List Entry) (core round : ℕ) (old : CoresView) (may : MayWork p plan h core round old) where
  pub core_in : core < length old.cores
  core_in = let count = shown_count p plan h (after p plan h) old may.are in let inside = may.there in omega arith

  pub runs : Fits p plan → MeetsHandlerObligations p → HoldsAt old.cores core (CanRun p plan)
  runs fits handlers = holds_shown p plan h (after p plan h) old may.are (CanRun p plan) core may.there (can_run p plan fits handlers h may.legal core may.there)

  pub round_few : round ≤ MAX_ROUNDS
  round_few = let within = round_within p plan may.are.limits h may.legal in let now = may.now in omega arith

  module _ (last : CoresView) (ran : Becomes p core (core_after_work p plan round) old last) where
    worked : Cores
    worked = updated (after p plan h) core (core_after_work p plan round (after p plan h core))

    shows : Shows p plan h worked last
    unfolding worked
    shows = ran plan h (after p plan h) may.there may.are

    pub entries_few : last.entries < MAX_ENTRIES
    entries_few = entries_fit p plan h worked last shows may.room

    pub can_note : All (CanLog last.entries) last.cores
    can_note = can_log p plan h worked last shows may.room

    pub ends : (new : CoresView) (did : Did) → HoldsAt old.cores core (λ y. IsOutcomeOfWork p plan round y.core did) → Notes (entry.Work core did) last new
        → Works p plan h core round did new
    unfolding worked
    ends new did said noted = record {
      outcome = said (shown p plan h (after p plan h) core) (shown_some p plan h (after p plan h) old may.are core may.there);
      are = shown_after p plan h (entry.Work core did) worked new
          (λ c. ap (λ n. updated (after p plan h) core (core_after_work p plan n (after p plan h core)) c) may.now ∙ moved_work p plan (round_of h) (after p plan h) core did c)
          (noted p plan h worked shows);
    }
