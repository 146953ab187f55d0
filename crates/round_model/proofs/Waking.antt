-- What an entry makes of a core's blocked threads: it leaves them, takes one out, or adds some that wake in a later round.
use Rattle.std.proofs.Common.{◌≡◌, ℕ, zero, suc, ◌+◌, ◌<◌, ◌≤◌, ℤ, Bool, true, false, cond, List, [], ◌∷◌, ◌++◌, filter, fold, map, slice_get, All, IfSome, Option, Some, None, option_and_then, refl, sym, ap, ◌∙◌, subst, arith}
use Rattle.std.specs.List.{AllByRecursion}
use Rattle.std.proofs.lemmas.List.{append-nil, append_assoc}
use Rattle.sched_base.specs.declared.task.Task.{Task}
use Rattle.policy_tree.specs.declared.typed.Event.{Event}
use Rattle.policy_tree.specs.declared.typed.Event.TheVariants as event
use Rattle.policy_tree.specs.declared.typed.Put.{Put}
use Rattle.policy_tree.specs.declared.typed.Put.TheVariants as put
use Rattle.policy_tree.specs.Meaning.{CaseTree, Meaning, cases_on}
use Rattle.policy_eval.specs.Events.{holding_cases, outcome_of_case, outcomes_of, seen_by_handler}
use Rattle.policy_eval.specs.Orders.{best_and_rest}
use Rattle.policy_eval.specs.Resolved.{IsResolved, IsResolvedCase}
use Rattle.policy_eval.specs.Sites.{AllowsPut}
use Rattle.policy_eval.specs.Values.{holds}
use Rattle.round_model.specs.declared.plan.Burst.{Burst}
use Rattle.round_model.specs.declared.plan.Ending.{Ending}
use Rattle.round_model.specs.declared.plan.Ending.TheVariants as ending
use Rattle.round_model.specs.declared.plan.Plan.{Plan}
use Rattle.round_model.specs.declared.plan.Planned.{Planned}
use Rattle.round_model.specs.declared.state.Blocked.{Blocked}
use Rattle.round_model.specs.declared.state.ModelCore.{ModelCore}
use Rattle.round_model.specs.Fits.{Fits, IsLast, IsMiddle, IsProgram, ThreadFits}
use Rattle.round_model.specs.Moves.{admitted, core_after_event, is_blocked_task, with_outcome, with_task, without_first}
use Rattle.round_model.specs.Programs.{Meeting, blocking, burst_of, ending_now, meeting_of, place_after, planned_of, tick, yielding}
use Rattle.round_model.specs.Work.{after_meeting, after_unit, before, core_after_work, elected, elected_over, run_over, with_current, worked}
use Rattle.round_model.proofs.Directories.{is_thread}
use Rattle.round_model.proofs.Finding.{find-All}
use Rattle.round_model.proofs.Keeping.{All-append, All-one}
use Rattle.round_model.proofs.Units.{blocking_ends}

-- what becomes of the blocked threads of a core in that round
pub data Change (round : ℕ) (old new : List Blocked) : Type 0 where
  stays : new ≡ old → Change round old new
  leaves : (id : ℕ) → new ≡ without_first (is_blocked_task id) old → Change round old new
  grows : (added : List Blocked) → new ≡ old ++ added → All (λ (b : Blocked). round < b.wake) added → Change round old new

-- where each case of the event may put its thread
allowed_among : (p : Meaning) (e : Event) (fresh : Bool) (consts : List ℤ) (t : Task) (test : CaseTree → Bool) (cases : List CaseTree) → All (IsResolvedCase p e) cases
    → AllByRecursion (λ (o : Task × Put). AllowsPut e o.1) (map (outcome_of_case p fresh consts t) (filter test cases))
allowed_among p e fresh consts t test [] each = tt
allowed_among p e fresh consts t test (c ∷ cases) each =
    let rest = allowed_among p e fresh consts t test cases (λ k d inside. each (suc k) d (omega arith)) in
    elim (test c) as (λ b. AllByRecursion (λ (o : Task × Put). AllowsPut e o.1) (map (outcome_of_case p fresh consts t) (cond b (c ∷ filter test cases) (filter test cases)))) [
      | true ↦ ((each 0 c (omega arith)).put, rest)
      | false ↦ rest
    ]

pub allowed_outcomes : (p : Meaning) → IsResolved p → (e : Event) (fresh : Bool) (consts : List ℤ) (t : Task)
    → AllByRecursion (λ (o : Task × Put). AllowsPut e o.1) (outcomes_of p e fresh consts t)
unfolding outcomes_of holding_cases
allowed_outcomes p resolved e fresh consts t =
    allowed_among p e fresh consts t (λ (c : CaseTree). holds (seen_by_handler fresh consts t) c.guard) (cases_on p.handlers e) (resolved.handlers e).cases

-- an event whose cases never block leaves the blocked threads
NeverBlocks : Event → Type 0
NeverBlocks e = AllowsPut e put.Block → ⊥

unblocked_put : (e : Event) → NeverBlocks e → (place : Put) (wake : ℕ) (t : Task) (core : ModelCore) → AllowsPut e place → (with_task place wake t core).blocked ≡ core.blocked
unfolding NeverBlocks
unblocked_put e never put.Queue wake t core allowed = refl
unblocked_put e never put.Keep wake t core allowed = refl
unblocked_put e never put.Block wake t core allowed = absurd (never allowed)

unblocked_outcomes : (e : Event) → NeverBlocks e → (wake : ℕ) (outcomes : List (Task × Put)) (core : ModelCore) → AllByRecursion (λ (o : Task × Put). AllowsPut e o.1) outcomes
    → (fold (with_outcome wake) core outcomes).blocked ≡ core.blocked
unblocked_outcomes e never wake [] core allowed = refl
unblocked_outcomes e never wake (o ∷ outcomes) core allowed =
    unblocked_outcomes e never wake outcomes (with_outcome wake core o) allowed.1 ∙ unblocked_put e never o.1 wake o.0 core allowed.0

unblocked_event : (p : Meaning) → IsResolved p → (e : Event) → NeverBlocks e → (fresh : Bool) (wake : ℕ) (t : Task) (core : ModelCore)
    → (core_after_event p e fresh wake t core).blocked ≡ core.blocked
unfolding core_after_event
unblocked_event p resolved e never fresh wake t core = unblocked_outcomes e never wake (outcomes_of p e fresh core.consts t) core (allowed_outcomes p resolved e fresh core.consts t)

pub unblocked_admitted : (p : Meaning) → IsResolved p → (fresh : Bool) (t : Task) (core : ModelCore) → (admitted p fresh t core).blocked ≡ core.blocked
unfolding NeverBlocks
unblocked_admitted p resolved fresh t core = unblocked_event p resolved event.Enqueue (λ never. never) fresh 0 t core

-- outcomes with one wake round add threads of that round
pub record Grown (wake : ℕ) (old new : List Blocked) : Type 0 where
  pub added : List Blocked
  pub is : new ≡ old ++ added
  pub each : All (λ (b : Blocked). b.wake ≡ wake) added

grown_put : (place : Put) (wake : ℕ) (t : Task) (core : ModelCore) → Grown wake core.blocked (with_task place wake t core).blocked
grown_put put.Queue wake t core = record { added = []; is = sym (append-nil core.blocked); each = λ k d inside. absurd (omega arith) }
grown_put put.Keep wake t core = record { added = []; is = sym (append-nil core.blocked); each = λ k d inside. absurd (omega arith) }
grown_put put.Block wake t core =
    let b : Blocked = record { task = t; wake = wake } in
    record { added = b ∷ []; is = refl; each = All-one (λ (x : Blocked). x.wake ≡ wake) b refl }

grown_outcomes : (wake : ℕ) (outcomes : List (Task × Put)) (core : ModelCore) → Grown wake core.blocked (fold (with_outcome wake) core outcomes).blocked
grown_outcomes wake [] core = record { added = []; is = sym (append-nil core.blocked); each = λ k d inside. absurd (omega arith) }
grown_outcomes wake (o ∷ outcomes) core =
    let first = grown_put o.1 wake o.0 core in
    let rest = grown_outcomes wake outcomes (with_outcome wake core o) in
    record {
      added = first.added ++ rest.added;
      is = rest.is ∙ (ap (λ (list : List Blocked). list ++ rest.added) first.is ∙ append_assoc core.blocked first.added rest.added);
      each = All-append (λ (x : Blocked). x.wake ≡ wake) first.added rest.added first.each rest.each;
    }

-- a burst that blocks does so for one round or more
last_waits : (b : Burst) (e : Ending) → IsLast b e → (rounds : ℕ) → e ≡ ending.Block rounds → 1 ≤ rounds
last_waits b ending.Yield last rounds is = absurd last
last_waits b (ending.Block k) last rounds is = absurd last
last_waits b ending.End last rounds is = absurd (cc)
last_waits b ending.Forever last rounds is = absurd (cc)

middle_waits : (e : Ending) → IsMiddle e → (rounds : ℕ) → e ≡ ending.Block rounds → 1 ≤ rounds
middle_waits ending.Yield middle rounds is = absurd (cc)
middle_waits (ending.Block k) middle rounds is = let same : k ≡ rounds = cc in let some = middle.0 in omega arith
middle_waits ending.End middle rounds is = absurd middle
middle_waits ending.Forever middle rounds is = absurd middle

program_waits : (bursts : List Burst) → IsProgram bursts → (at : ℕ) (b : Burst) → slice_get bursts at ≡ Some b → (rounds : ℕ) → b.ending ≡ ending.Block rounds → 1 ≤ rounds
program_waits [] fits at b is rounds blocks = absurd fits
program_waits (c ∷ []) fits zero b is rounds blocks = let same : c ≡ b = cc in last_waits c c.ending fits.2 rounds (ap (λ (x : Burst). x.ending) same ∙ blocks)
program_waits (c ∷ []) fits (suc at) b is rounds blocks = absurd (cc)
program_waits (c ∷ d ∷ rest) fits zero b is rounds blocks = let same : c ≡ b = cc in middle_waits c.ending fits.2 rounds (ap (λ (x : Burst). x.ending) same ∙ blocks)
program_waits (c ∷ d ∷ rest) fits (suc at) b is rounds blocks = program_waits (d ∷ rest) fits.3 at b is rounds blocks

burst_waits : (p : Meaning) (plan : Plan) → Fits p plan → (t : Task) (b : Burst) → burst_of plan t ≡ Some b → (rounds : ℕ) → b.ending ≡ ending.Block rounds → 1 ≤ rounds
burst_waits p plan fits t b is rounds blocks = found (planned_of plan t.id) (find-All (is_thread t.id) (ThreadFits p plan.cores) plan.threads fits.threads) is
  where
    found : (o : Option Planned) → IfSome o (ThreadFits p plan.cores) → option_and_then (λ (q : Planned). slice_get q.bursts t.place.burst) o ≡ Some b → 1 ≤ rounds
    found None thread e = absurd (cc)
    found (Some q) thread e = program_waits q.bursts thread.program t.place.burst b e rounds blocks

-- a unit of work
module _ (p : Meaning) (plan : Plan) (fits : Fits p plan) (round : ℕ) where
  meeting_change : (meeting : Meeting) → ((rounds : ℕ) → meeting ≡ blocking rounds → 1 ≤ rounds) → (t : Task) (core : ModelCore)
      → Change round core.blocked (after_meeting p round meeting t core).core.blocked
  unfolding NeverBlocks core_after_event
  meeting_change tick waits t core = stays (unblocked_event p fits.policy event.Tick (λ never. never) false 0 t core)
  meeting_change yielding waits t core = stays (unblocked_event p fits.policy event.Yield (λ never. never) false 0 t core)
  meeting_change (blocking rounds) waits t core =
      let grown = grown_outcomes (round + rounds) (outcomes_of p event.Block false core.consts t) core in
      let some = waits rounds refl in
      grows grown.added grown.is (λ k d inside. let wake = grown.each k d inside in omega arith)
  meeting_change ending_now waits t core = stays refl

  elected_blocked : (core : ModelCore) → (elected p core).blocked ≡ core.blocked
  elected_blocked core = by_current core.current
    where
      by_best : (best : Option (Task × List Task)) → (with_current core best).blocked ≡ core.blocked
      by_best None = refl
      by_best (Some best) = refl

      by_current : (current : Option Task) → (elected_over p core current).blocked ≡ core.blocked
      by_current None = by_best (best_and_rest (before p.elect) core.queue)
      by_current (Some t) = refl

  unit_change : (mid : ModelCore) (t : Task) (b : Option Burst) → burst_of plan t ≡ b → Change round mid.blocked (after_unit p round mid t b).core.blocked
  unit_change mid t None is = stays refl
  unit_change mid t (Some b) is =
      meeting_change (meeting_of b t.place) (λ rounds meets. burst_waits p plan fits t b is rounds (blocking_ends b t.place rounds meets)) (record t { place = place_after b t.place }) (record mid { current = None })

  run_change : (mid : ModelCore) (current : Option Task) → Change round mid.blocked (run_over p plan round mid current).core.blocked
  run_change mid None = stays refl
  run_change mid (Some t) = unit_change mid t (burst_of plan t) refl

  pub work_change : (core : ModelCore) → Change round core.blocked (core_after_work p plan round core).blocked
  unfolding worked
  work_change core = subst (λ (old : List Blocked). Change round old (core_after_work p plan round core).blocked) (elected_blocked core) (run_change (elected p core) (elected p core).current)
