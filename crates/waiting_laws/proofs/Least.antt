-- The law of the least value: each unit of a core runs the thread that waits, or brings it ahead, or raises one that lags behind it.
use Rattle.std.proofs.Common.{◌≡◌, ℕ, ℤ, suc, ◌+◌, ◌<◌, ◌≤◌, ◌⊎◌, inl, inr, false, cond, List, [], ◌∷◌, take, sum_by, Some, None, IsSomeAnd, Contains, slice_get, pos, ◌-ℤ◌, ◌<ℤ◌, ◌≤ℤ◌, refl, sym, ap, ◌∙◌, subst, arith}
use Rattle.std.proofs.lemmas.Bool.{cases_lt}
use Rattle.std.proofs.lemmas.Int.{ints}
use Rattle.std.proofs.lemmas.List.Sums.{sum_by_push}
use mathlib.Core.Option.{some}
use lib.ListN.{get_elem?}
use Rattle.sched_base.specs.declared.task.Task.{Task}
use Rattle.policy_tree.specs.Meaning.{Meaning}
use Rattle.policy_eval.specs.Fitting.{IsTask}
use Rattle.policy_eval.specs.Obligations.{MeetsHandlerObligations}
use Rattle.policy_eval.specs.Ranges.{range}
use Rattle.round_model.specs.declared.entry.Did.{Did}
use Rattle.round_model.specs.declared.entry.Entry.{Entry}
use Rattle.round_model.specs.declared.entry.Entry.TheVariants as entry
use Rattle.round_model.specs.declared.plan.Plan.{Plan}
use Rattle.round_model.specs.declared.state.ModelCore.{ModelCore}
use Rattle.round_model.specs.After.{after, after_from, round_of}
use Rattle.round_model.specs.Cores.{Cores, opening_state}
use Rattle.round_model.specs.Kept.{Holds}
use Rattle.round_model.specs.Fits.{Fits}
use Rattle.round_model.specs.Legal.{Legal}
use Rattle.round_model.specs.Moves.{taken_from}
use Rattle.round_model.specs.Work.{before}
use Rattle.round_model.proofs.Acting.{legal_said}
use Rattle.round_model.proofs.Takings.{sum-taken}
use Rattle.waiting_laws.specs.Least.{BringsTo, ElectsLeast, IsRaised, IsValued, LeastLaw, NoneComes, WaitsWith, lag, lags}
use Rattle.waiting_laws.specs.Slices.{value_in}
use Rattle.waiting_laws.specs.Waiting.{IsUnstolen, RunsIn, is_unit_of, thread_of, units_of}
use Rattle.waiting_laws.proofs.LeastQueues.{BestTaken, Split, SplitIfFound, itself, nearer, passed, splits, zero_less, zero_lower}
use Rattle.waiting_laws.proofs.LeastUnits.{Back, LeastStep, TakesOut, gone, quiet_queue, rests, runs, set_back, takes_out, work_least}
use Rattle.round_laws.proofs.Positions.{state_behind}
use Rattle.waiting_laws.proofs.TasksInRange.{core_in_range}
use Rattle.waiting_laws.proofs.Waiting.{runs_more}
use Rattle.waiting_laws.proofs.WaitingEntries.{Spares, Step, entry_step, waits, works}
use Rattle.waiting_laws.proofs.WaitingPlaces.{place-append, place-left}
use Rattle.waiting_laws.proofs.WaitingRanges.{one_of, place_inside, value_in_range}
use Rattle.waiting_laws.proofs.WaitingUnits.{goes_along, rounds_have_units, units_at_most, units_more, units_none, units_past}

-- a thread that is raised lags behind no more than before, and less if it did
lag_lower : (a : ℕ) (u high : ℤ) (t w : Task) → value_in a t ≤ℤ high → IsRaised high (value_in a t) (value_in a w) → lag a u w ≤ lag a u t
lag_lower a u high t w below (inl more) = zero_lower (u -ℤ value_in a w) (u -ℤ value_in a t) (omega (arith, ints))
lag_lower a u high t w below (inr most) = zero_lower (u -ℤ value_in a w) (u -ℤ value_in a t) (omega (arith, ints))

lag_less : (a : ℕ) (u high : ℤ) (t w : Task) → u ≤ℤ high → value_in a t <ℤ u → IsRaised high (value_in a t) (value_in a w) → suc (lag a u w) ≤ lag a u t
lag_less a u high t w below less (inl more) = zero_less (u -ℤ value_in a w) (u -ℤ value_in a t) (omega (arith, ints)) (omega (arith, ints))
lag_less a u high t w below less (inr most) = zero_less (u -ℤ value_in a w) (u -ℤ value_in a t) (omega (arith, ints)) (omega (arith, ints))

lag_some : (a : ℕ) (u : ℤ) (t : Task) → value_in a t <ℤ u → 1 ≤ lag a u t
lag_some a u t less = zero_less (pos 0) (u -ℤ value_in a t) (omega (arith, ints)) (omega (arith, ints))

-- a unit of a core: the thread that waits runs, or its place and the lags lessen together
module _ (a x : ℕ) (u high : ℤ) (below : u ≤ℤ high) where
  abbrev lags_of : List Task → ℕ
  lags_of queue = sum_by (lag a u) queue

  after_nearer : (t : Task) (rest queue : List Task) → value_in a t ≤ℤ high → Back a high t rest queue → lags_of queue ≤ lags_of rest + lag a u t
  after_nearer t rest queue most (gone is) = let same = ap lags_of is in omega arith
  after_nearer t rest queue most (set_back w is raised) =
      let same : lags_of queue ≡ lags_of rest + lag a u w = ap lags_of is ∙ sum_by_push (lag a u) rest w in
      let less = lag_lower a u high t w most raised in
      omega arith

  after_passed : (t : Task) (rest queue : List Task) → value_in a t <ℤ u → Back a high t rest queue → suc (lags_of queue) ≤ lags_of rest + lag a u t
  after_passed t rest queue less (gone is) = let same = ap lags_of is in let some_lag = lag_some a u t less in omega arith
  after_passed t rest queue less (set_back w is raised) =
      let same : lags_of queue ≡ lags_of rest + lag a u w = ap lags_of is ∙ sum_by_push (lag a u) rest w in
      let fewer = lag_less a u high t w below less raised in
      omega arith

  place_back : (t : Task) (rest queue : List Task) (place : ℕ) → Back a high t rest queue → IsSomeAnd (slice_get rest place) (IsValued a x u) → IsSomeAnd (slice_get queue place) (IsValued a x u)
  place_back t rest queue place (gone is) waiting = subst (λ (q : List Task). IsSomeAnd (slice_get q place) (IsValued a x u)) (sym is) waiting
  place_back t rest queue place (set_back w is raised) waiting =
      subst (λ (q : List Task). IsSomeAnd (slice_get q place) (IsValued a x u)) (sym is) (place-append (IsValued a x u) rest (w ∷ []) place waiting)

  -- the thread is the one that ran, or it waits, and one of place and lags is used up
  abbrev pub Lessens : (old new : List Task) (place : ℕ) → Did → Type 0
  Lessens old new place what = (thread_of what ≡ Some x)
      ⊎ ((ahead : ℕ) × (suc (ahead + lags_of new) ≤ place + lags_of old) × IsSomeAnd (slice_get new ahead) (IsValued a x u))

  pub unit_lessens : (p : Meaning) (old new : ModelCore) (what : Did) (place : ℕ) → ((t : Task) → IsTask p t → value_in a t ≤ℤ high) → LeastStep p a high old new what
      → IsSomeAnd (slice_get old.queue place) (IsValued a x u) → Lessens old.queue new.queue place what
  unit_lessens p old new what place most (runs t rest task is ran) waiting = by_past (split.past place waiting)
    where
      split : Split a x u old.queue (t, rest)
      split = subst (SplitIfFound a x u old.queue) is (splits a x u old.queue)

      by_past : BestTaken a x u place t rest → Lessens old.queue new.queue place what
      by_past (itself same) = inl (ran.names ∙ ap Some same)
      by_past (nearer ahead next there) =
          let all = split.lags in
          let left = after_nearer t rest new.queue (most t task) ran.back in
          inr (ahead, omega arith, place_back t rest new.queue ahead ran.back there)
      by_past (passed less there) =
          let all = split.lags in
          let left = after_passed t rest new.queue less ran.back in
          inr (place, omega arith, place_back t rest new.queue place ran.back there)
  unit_lessens p old new what place most (rests is none) waiting =
      let empty : old.queue ≡ [] = subst (SplitIfFound a x u old.queue) is (splits a x u old.queue) in
      absurd (subst (λ (q : List Task). IsSomeAnd (slice_get q place) (IsValued a x u)) empty waiting)

module _ (p : Meaning) (plan : Plan) (h : List Entry) (a : ℕ) (low high : ℤ) (fits : Fits p plan) (handlers : MeetsHandlerObligations p)
    (least : ElectsLeast p a low high) (legal : Legal p plan h) (c : ℕ) (there : c < plan.cores) where
  abbrev core_at : ℕ → ModelCore
  core_at k = after p plan (take k h) c

  in_range : (k : ℕ) → Holds p (core_at k)
  in_range k = core_in_range p plan fits (take k h) c there

  below_high : (t : Task) → IsTask p t → value_in a t ≤ℤ high
  below_high t task = (value_in_range p a (range low high) least.reaches t task).below

  step_at : (k : ℕ) (e : Entry) → get_elem? h k ≡ some e → (core_at k).current ≡ None → Step (LeastStep p a high) c e (core_at k) (core_at (suc k))
  step_at k e is none =
      let m = after p plan (take k h) in
      subst (λ (w : Cores). Step (LeastStep p a high) c e (m c) (w c)) (sym (state_behind p plan h k e is))
      (entry_step p fits.policy plan (round_of (take k h)) m c (LeastStep p a high) (λ what. work_least p fits.policy handlers a low high least plan (round_of (take k h)) (m c) what (in_range k) none) e (legal_said p plan (take k h) e (legal k e is)))

  step_current : (e : Entry) (old new : ModelCore) → old.current ≡ None → Step (LeastStep p a high) c e old new → new.current ≡ None
  step_current e old new none (waits no_unit same places) = same ∙ none
  step_current e old new none (works what is (runs t rest task best ran)) = ran.current
  step_current e old new none (works what is (rests best left)) = left

  opens : (core_at 0).current ≡ None
  unfolding after_from opening_state
  opens = refl

  -- between entries the core has no current thread
  none_current : (k : ℕ) → (core_at k).current ≡ None
  none_current k = goes_along h (λ k. (core_at k).current ≡ None) 0 opens (λ k same none. ap (λ (g : List Entry). (after p plan g c).current) same ∙ none) k (omega arith)
      (λ k e behind before is none. step_current e (core_at k) (core_at (suc k)) none (step_at k e is none))

  taken_at : (k : ℕ) (e : Entry) → get_elem? h k ≡ some e → is_unit_of c e ≡ false → ¬ BringsTo c e → TakesOut c e (core_at k).queue (core_at (suc k)).queue
  taken_at k e is no_unit quiet =
      let m = after p plan (take k h) in
      subst (λ (w : Cores). TakesOut c e (m c).queue (w c).queue) (sym (state_behind p plan h k e is)) (quiet_queue p plan (round_of (take k h)) m c e no_unit quiet)

  module _ (x : ℕ) (u : ℤ) (below : u ≤ℤ high) (place from : ℕ) where
    abbrev RunsOrWaits : ℕ → Type 0
    RunsOrWaits to = RunsIn h x c from to ⊎ ((ahead : ℕ) × (ahead + lags p plan h a c u to + units_of h c from to ≤ place + lags p plan h a c u from) × WaitsWith p plan h a x c u ahead to)

    by_taken : (k ahead : ℕ) (e : Entry) → Spares x c e → units_of h c from (suc k) ≡ units_of h c from k → TakesOut c e (core_at k).queue (core_at (suc k)).queue
        → ahead + lags p plan h a c u k + units_of h c from k ≤ place + lags p plan h a c u from → WaitsWith p plan h a x c u ahead k → RunsOrWaits (suc k)
    by_taken k ahead e spares no_more (takes_out threads is spared) enough waiting =
        let old = (core_at k).queue in
        let all = sum-taken (lag a u) threads old in
        let same : lags p plan h a c u (suc k) ≡ sum_by (lag a u) (taken_from threads old).left = ap (sum_by (lag a u)) is in
        let left = place-left (IsValued a x u) threads (λ t this found. spared x spares (subst (Contains threads) this.0 found)) old ahead waiting in
        let nearer_by = left.1 in
        inr (left.0, omega arith, subst (λ (q : List Task). IsSomeAnd (slice_get q left.0) (IsValued a x u)) (sym is) left.2)

    by_unit : (k ahead : ℕ) (what : Did) → from ≤ k → get_elem? h k ≡ some (entry.Work c what) → ahead + lags p plan h a c u k + units_of h c from (suc k) ≤ suc (place + lags p plan h a c u from)
        → Lessens a x u high below (core_at k).queue (core_at (suc k)).queue ahead what → RunsOrWaits (suc k)
    by_unit k ahead what behind is enough (inl names) = inl (record { position = k; not_before = behind; before = omega arith; what = what; works = is; runs = names })
    by_unit k ahead what behind is enough (inr (next, fewer, waiting)) = inr (next, omega arith, waiting)

    one_entry : (k : ℕ) (e : Entry) → from ≤ k → get_elem? h k ≡ some e → Spares x c e → ¬ BringsTo c e → Step (LeastStep p a high) c e (core_at k) (core_at (suc k)) → (ahead : ℕ)
        → ahead + lags p plan h a c u k + units_of h c from k ≤ place + lags p plan h a c u from → WaitsWith p plan h a x c u ahead k → RunsOrWaits (suc k)
    one_entry k e behind is spares quiet (waits no_unit same places) ahead enough waiting =
        let none : units_of h c from (suc k) ≡ units_of h c from k + 0 = units_more h c from k e is behind ∙ ap (λ b. units_of h c from k + cond b 1 0) no_unit in
        by_taken k ahead e spares (omega arith) (taken_at k e is no_unit quiet) enough waiting
    one_entry k e behind is spares quiet (works what unit step) ahead enough waiting =
        let one_more = units_at_most h c from k e is behind in
        by_unit k ahead what behind (subst (λ (w : Entry). get_elem? h k ≡ some w) unit is) (omega arith)
        (unit_lessens a x u high below p (core_at k) (core_at (suc k)) what ahead below_high step waiting)

    lessened : (to : ℕ) → from ≤ to → WaitsWith p plan h a x c u place from → IsUnstolen h x c from to → NoneComes h c from to → RunsOrWaits to
    lessened to before starts unstolen quiet = goes_along h RunsOrWaits from begun past to before on
      where
        begun : RunsOrWaits from
        begun = let none = units_none h c from from (omega arith) in inr (place, omega arith, starts)

        past : (k : ℕ) → take (suc k) h ≡ take k h → RunsOrWaits k → RunsOrWaits (suc k)
        past k same (inl run) = inl (runs_more h x c from k run)
        past k same (inr (ahead, enough, waiting)) =
            let no_more = units_past h c from k same in
            let no_lags : lags p plan h a c u (suc k) ≡ lags p plan h a c u k = ap (λ (g : List Entry). sum_by (lag a u) (after p plan g c).queue) same in
            inr (ahead, omega arith, subst (λ (g : List Entry). IsSomeAnd (slice_get (after p plan g c).queue ahead) (IsValued a x u)) (sym same) waiting)

        on : (k : ℕ) (e : Entry) → from ≤ k → k < to → get_elem? h k ≡ some e → RunsOrWaits k → RunsOrWaits (suc k)
        on k e behind before is (inl run) = inl (runs_more h x c from k run)
        on k e behind before is (inr (ahead, enough, waiting)) =
            one_entry k e behind is (λ by threads reads steal. unstolen k by threads reads behind before (subst (λ (w : Entry). get_elem? h k ≡ some w) steal is))
            (quiet k e behind before is) (step_at k e is (none_current k)) ahead enough waiting

  -- a value that a thread has lies below the upper end
  value_below : (x place from : ℕ) (u : ℤ) → WaitsWith p plan h a x c u place from → u ≤ℤ high
  value_below x place from u starts =
      let found = one_of (IsValued a x u) (IsTask p) (core_at from).queue place (in_range from).queue starts in
      let one = found.2 in
      subst (λ v. v ≤ℤ high) one.1 (below_high found.0 found.1)

  units_lessen : (x place from to : ℕ) (u : ℤ) → from ≤ to → WaitsWith p plan h a x c u place from → IsUnstolen h x c from to → NoneComes h c from to
      → RunsIn h x c from to ⊎ ((ahead : ℕ) × (ahead + lags p plan h a c u to + units_of h c from to ≤ place + lags p plan h a c u from) × WaitsWith p plan h a x c u ahead to)
  units_lessen x place from to u before starts unstolen quiet = lessened x u (value_below x place from u starts) place from to before starts unstolen quiet

  runs_by_lags : (x place from to : ℕ) (u : ℤ) → WaitsWith p plan h a x c u place from → IsUnstolen h x c from to → NoneComes h c from to
      → suc (place + lags p plan h a c u from) ≤ units_of h c from to → RunsIn h x c from to
  runs_by_lags x place from to u starts unstolen quiet enough = by_order (cases_lt to from)
    where
      by_result : RunsIn h x c from to ⊎ ((ahead : ℕ) × (ahead + lags p plan h a c u to + units_of h c from to ≤ place + lags p plan h a c u from) × WaitsWith p plan h a x c u ahead to) → RunsIn h x c from to
      by_result (inl run) = run
      by_result (inr (ahead, less, waiting)) = absurd (omega arith)

      by_order : (to < from) ⊎ (from ≤ to) → RunsIn h x c from to
      by_order (inl less) = let none = units_none h c from to (omega arith) in absurd (omega arith)
      by_order (inr before) = by_result (units_lessen x place from to u before starts unstolen quiet)

-- the law
pub least_law : LeastLaw
least_law p plan h a low high fits handlers least legal = record {
  units_lessen_lags = λ x c place from to u there before starts unstolen quiet. units_lessen p plan h a low high fits handlers least legal c there x place from to u before starts unstolen quiet;
  runs_by_lags = λ x c place from to u there starts unstolen quiet enough. runs_by_lags p plan h a low high fits handlers least legal c there x place from to u starts unstolen quiet enough;
  runs_by_others = λ x c place from to u there starts unstolen quiet enough.
      let inside = place_inside (IsValued a x u) (after p plan (take from h) c).queue place starts in
      runs_by_lags p plan h a low high fits handlers least legal c there x place from to u starts unstolen quiet (omega arith);
  runs_in_rounds = λ x c place first opening ending u there begins ends starts unstolen quiet.
      runs_by_lags p plan h a low high fits handlers least legal c there x place opening ending u starts unstolen quiet
      (rounds_have_units p plan h legal c there first opening begins (suc (place + lags p plan h a c u opening)) ending ends);
}
