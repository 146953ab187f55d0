-- Bursts that a task finds, and what an idle core's unit and an arriving thread come to.
use Rattle.std.proofs.Common.{◌≡◌, ℕ, zero, suc, ◌<◌, ◌≤◌, Bool, true, false, cond, List, [], ◌∷◌, Option, Some, None, IfSome, fold, slice_get, option_and_then, ap, ◌∙◌, subst, arith}
use Rattle.std.proofs.lemmas.Option.{slice_get_within}
use Rattle.sched_base.specs.declared.limits.TheConstants.{MAX_BLOCK_ROUNDS, MAX_BURSTS}
use Rattle.sched_base.specs.declared.task.Place.{Place}
use Rattle.sched_base.specs.declared.task.Task.{Task}
use Rattle.policy_tree.specs.declared.typed.Event.TheVariants as event
use Rattle.policy_tree.specs.declared.typed.Put.{Put}
use Rattle.policy_tree.specs.Meaning.{Meaning}
use Rattle.policy_eval.specs.Events.{outcomes_of}
use Rattle.policy_eval.specs.Orders.{best_and_rest}
use Rattle.round_model.specs.declared.entry.Did.TheVariants as did
use Rattle.round_model.specs.declared.plan.Burst.{Burst}
use Rattle.round_model.specs.declared.plan.Ending.{Ending}
use Rattle.round_model.specs.declared.plan.Ending.TheVariants as ending
use Rattle.round_model.specs.declared.plan.Plan.{Plan}
use Rattle.round_model.specs.declared.plan.Planned.{Planned}
use Rattle.round_model.specs.declared.state.ModelCore.{ModelCore}
use Rattle.round_model.specs.Fits.{Fits, IsLast, IsMiddle, IsProgram, ThreadFits}
use Rattle.round_model.specs.Moves.{admitted, core_after_event, with_outcome, with_task}
use Rattle.round_model.specs.Programs.{blocking, burst_of, is_last_unit, meeting_at_end, meeting_of, planned_of, tick}
use Rattle.round_model.specs.UnitSteps.{IsIdleCore}
use Rattle.round_model.specs.Work.{before, elected, elected_over, run_over, with_current, worked}
use Rattle.round_model.proofs.Directories.{is_thread}
use Rattle.round_model.proofs.Finding.{find-All}

-- nothing to run
pub unit_idle : (p : Meaning) (plan : Plan) (round : ℕ) (core : ModelCore) → IsIdleCore core → worked p plan round core ≡ record { core = core; dids = did.Nothing ∷ [] }
unfolding worked
unit_idle p plan round core idle =
    let stays : elected p core ≡ core =
    ap (elected_over p core) idle.current ∙ ap (λ tasks. with_current core (best_and_rest (before p.elect) tasks)) idle.queue in
    ap (λ (c : ModelCore). run_over p plan round c c.current) stays ∙ ap (run_over p plan round core) idle.current

-- what the numbers of a burst are
pub record BurstFits (b : Burst) (at : ℕ) : Type 0 where
  pub units : 1 ≤ b.units
  pub place : at < MAX_BURSTS
  pub rounds : (rounds : ℕ) → b.ending ≡ ending.Block rounds → rounds ≤ MAX_BLOCK_ROUNDS

last_rounds : (b : Burst) (e : Ending) → IsLast b e → (rounds : ℕ) → e ≡ ending.Block rounds → rounds ≤ MAX_BLOCK_ROUNDS
last_rounds b ending.Yield last rounds is = absurd last
last_rounds b (ending.Block k) last rounds is = absurd last
last_rounds b ending.End last rounds is = absurd (cc)
last_rounds b ending.Forever last rounds is = absurd (cc)

middle_rounds : (e : Ending) → IsMiddle e → (rounds : ℕ) → e ≡ ending.Block rounds → rounds ≤ MAX_BLOCK_ROUNDS
middle_rounds ending.Yield middle rounds is = absurd (cc)
middle_rounds (ending.Block k) middle rounds is = let same : k ≡ rounds = cc in let small = middle.1 in omega arith
middle_rounds ending.End middle rounds is = absurd middle
middle_rounds ending.Forever middle rounds is = absurd middle

-- each burst of a program
program_at : (bursts : List Burst) → IsProgram bursts → (at : ℕ) (b : Burst) → slice_get bursts at ≡ Some b → at < MAX_BURSTS → BurstFits b at
program_at [] fits at b is small = absurd fits
program_at (c ∷ []) fits zero b is small =
    let same : c ≡ b = cc in subst (λ (x : Burst). BurstFits x 0) same (record { units = fits.0; place = small; rounds = last_rounds c c.ending fits.2 })
program_at (c ∷ []) fits (suc at) b is small = absurd (cc)
program_at (c ∷ d ∷ rest) fits zero b is small =
    let same : c ≡ b = cc in subst (λ (x : Burst). BurstFits x 0) same (record { units = fits.0; place = small; rounds = middle_rounds c.ending fits.2 })
program_at (c ∷ d ∷ rest) fits (suc at) b is small =
    let there = program_at (d ∷ rest) fits.3 at b is (omega arith) in record { units = there.units; place = small; rounds = there.rounds }

burst_found : (p : Meaning) (plan : Plan) → Fits p plan → (at : ℕ) (b : Burst) (found : Option Planned) → IfSome found (ThreadFits p plan.cores)
    → option_and_then (λ (q : Planned). slice_get q.bursts at) found ≡ Some b → BurstFits b at
burst_found p plan fits at b None thread is = absurd (cc)
burst_found p plan fits at b (Some q) thread is =
    let within = slice_get_within q.bursts at b is in let few = thread.few_bursts in program_at q.bursts thread.program at b is (omega arith)

-- the burst that a task runs next
pub burst_fits : (p : Meaning) (plan : Plan) → Fits p plan → (t : Task) (b : Burst) → burst_of plan t ≡ Some b → BurstFits b t.place.burst
burst_fits p plan fits t b is =
    burst_found p plan fits t.place.burst b (planned_of plan t.id) (find-All (is_thread t.id) (ThreadFits p plan.cores) plan.threads fits.threads) is

ends_blocking : (e : Ending) (rounds : ℕ) → meeting_at_end e ≡ blocking rounds → e ≡ ending.Block rounds
ends_blocking ending.Yield rounds is = absurd (cc)
ends_blocking (ending.Block k) rounds is = let same : k ≡ rounds = cc in ap ending.Block same
ends_blocking ending.End rounds is = absurd (cc)
ends_blocking ending.Forever rounds is = absurd (cc)

-- a task blocks for as many rounds as its burst says
pub blocking_ends : (b : Burst) (at : Place) (rounds : ℕ) → meeting_of b at ≡ blocking rounds → b.ending ≡ ending.Block rounds
blocking_ends b at rounds is = at_last (is_last_unit b at) is
  where
    at_last : (last : Bool) → cond last (meeting_at_end b.ending) tick ≡ blocking rounds → b.ending ≡ ending.Block rounds
    at_last true e = ends_blocking b.ending rounds e
    at_last false e = absurd (cc)

-- with one outcome of its enqueue event a thread is put once
pub admitted_once : (p : Meaning) (fresh : Bool) (t : Task) (core : ModelCore) (outcome : Task × Put)
    → outcomes_of p event.Enqueue fresh core.consts t ≡ outcome ∷ [] → admitted p fresh t core ≡ with_task outcome.1 0 outcome.0 core
unfolding core_after_event
admitted_once p fresh t core outcome one = ap (fold (with_outcome 0) core) one
