-- Every thread that stands at a core has a burst to run next, and a unit of it is left.
use Rattle.std.proofs.Common.{◌≡◌, ℕ, zero, suc, ◌+◌, ◌<◌, ◌==◌, nat_le, not, ◌&&◌, ℤ, Bool, true, false, cond, List, [], ◌∷◌, map, fold, slice_get, All, IfSome, Option, Some, None, option_and_then, refl, sym, ap, subst, ◌∙◌, arith}
use Rattle.std.proofs.lemmas.Bool.Decides.{nat_tests}
use Rattle.sched_base.specs.declared.task.Place.{Place}
use Rattle.sched_base.specs.declared.task.Task.{Task}
use Rattle.policy_tree.specs.declared.typed.Attr.{Attr}
use Rattle.policy_tree.specs.declared.typed.Event.{Event}
use Rattle.policy_tree.specs.declared.typed.Event.TheVariants as event
use Rattle.policy_tree.specs.declared.typed.Put.{Put}
use Rattle.policy_tree.specs.declared.typed.Put.TheVariants as put
use Rattle.policy_tree.specs.Meaning.{CaseTree, Meaning, SetTree}
use Rattle.policy_eval.specs.Events.{holding_cases, outcome_of_case, outcomes_of, seen_by_handler, task_after_case, task_after_set, with_attribute}
use Rattle.policy_eval.specs.Orders.{best_and_rest, better_and_rest}
use Rattle.policy_eval.specs.Values.{value_of}
use Rattle.round_model.specs.declared.entry.Entry.{Entry}
use Rattle.round_model.specs.declared.entry.Entry.TheVariants as entry
use Rattle.round_model.specs.declared.plan.Burst.{Burst}
use Rattle.round_model.specs.declared.plan.Ending.{Ending}
use Rattle.round_model.specs.declared.plan.Ending.TheVariants as ending
use Rattle.round_model.specs.declared.plan.Plan.{Plan}
use Rattle.round_model.specs.declared.plan.Planned.{Planned}
use Rattle.round_model.specs.declared.state.Blocked.{Blocked}
use Rattle.round_model.specs.declared.state.ModelCore.{ModelCore}
use Rattle.round_model.specs.After.{after_from, effect, entered, moved, round_after, woken}
use Rattle.round_model.specs.Bursts.{BurstsLaw, HasBurst, HaveBursts, LiesIn}
use Rattle.round_model.specs.Cores.{Cores, opening_state}
use Rattle.round_model.specs.Entries.{touches}
use Rattle.round_model.specs.Fits.{Fits, IsLast, IsProgram, ThreadFits}
use Rattle.round_model.specs.Moves.{admitted, blocked_of, core_after_event, handed_all, is_blocked_task, received_all, released, taken_from, with_outcome, with_task}
use Rattle.round_model.specs.Programs.{Meeting, blocking, burst_of, ending_now, entering_task, is_endless, is_last_unit, meeting_at_end, meeting_of, place_after, planned_of, tick, yielding}
use Rattle.round_model.specs.Work.{after_meeting, after_unit, before, core_after_work, elected, elected_over, run_over, with_current, worked}
use Rattle.round_model.proofs.Directories.{is_thread}
use Rattle.round_model.proofs.Finding.{find-All, find-passes}
use Rattle.round_model.proofs.Keeping.{All-append, All-one, All-without}
use Rattle.round_model.proofs.Takings.{All-found, All-left}

-- a case changes the attributes of a thread alone
record IsSameButAttributes (t u : Task) : Type 0 where
  id : u.id ≡ t.id
  place : u.place ≡ t.place

attribute_set : (found : Option Attr) (at : ℕ) (x : ℤ) (t : Task) → IsSameButAttributes t (with_attribute found at x t)
attribute_set None at x t = record { id = refl; place = refl }
attribute_set (Some a) at x t = record { id = refl; place = refl }

sets_keep : (p : Meaning) (fresh : Bool) (consts : List ℤ) (sets : List SetTree) (t : Task) → IsSameButAttributes t (fold (task_after_set p fresh consts) t sets)
unfolding task_after_set
sets_keep p fresh consts [] t = record { id = refl; place = refl }
sets_keep p fresh consts (s ∷ sets) t =
    let one = attribute_set (slice_get p.thread_attrs s.attr) s.attr (value_of (seen_by_handler fresh consts t) s.expr) t in
    let rest = sets_keep p fresh consts sets (task_after_set p fresh consts t s) in
    record { id = rest.id ∙ one.id; place = rest.place ∙ one.place }

module _ (plan : Plan) where
  same_burst : (t u : Task) → IsSameButAttributes t u → HasBurst plan t → HasBurst plan u
  same_burst t u same has =
      let lies : ℕ → Place → Type 0 = λ id place. LiesIn place (option_and_then (λ (q : Planned). slice_get q.bursts place.burst) (planned_of plan id)) in
      subst (λ id. lies id u.place) (sym same.id) (subst (lies t.id) (sym same.place) has)

  cases_keep : (p : Meaning) (fresh : Bool) (consts : List ℤ) (t : Task) (cases : List CaseTree) → HasBurst plan t
      → All (λ (o : Task × Put). HasBurst plan o.0) (map (outcome_of_case p fresh consts t) cases)
  cases_keep p fresh consts t [] has = λ k d inside. absurd (omega arith)
  cases_keep p fresh consts t (c ∷ cases) has =
      All-append (λ (o : Task × Put). HasBurst plan o.0) (outcome_of_case p fresh consts t c ∷ []) (map (outcome_of_case p fresh consts t) cases)
      (All-one (λ (o : Task × Put). HasBurst plan o.0) (outcome_of_case p fresh consts t c) (same_burst t (task_after_case p fresh consts t c) (sets_keep p fresh consts c.sets t) has))
      (cases_keep p fresh consts t cases has)

  outcomes_keep : (p : Meaning) (e : Event) (fresh : Bool) (consts : List ℤ) (t : Task) → HasBurst plan t → All (λ (o : Task × Put). HasBurst plan o.0) (outcomes_of p e fresh consts t)
  unfolding outcomes_of
  outcomes_keep p e fresh consts t has = cases_keep p fresh consts t (holding_cases p e fresh consts t) has

  put_keeps : (place : Put) (wake : ℕ) (t : Task) (core : ModelCore) → HaveBursts plan core → HasBurst plan t → HaveBursts plan (with_task place wake t core)
  put_keeps put.Queue wake t core have has = record { current = have.current; queue = All-append (HasBurst plan) core.queue (t ∷ []) have.queue (All-one (HasBurst plan) t has); blocked = have.blocked }
  put_keeps put.Keep wake t core have has = record { current = has; queue = have.queue; blocked = have.blocked }
  put_keeps put.Block wake t core have has = record {
    current = have.current;
    queue = have.queue;
    blocked = All-append (λ (b : Blocked). HasBurst plan b.task) core.blocked (record { task = t; wake = wake } ∷ []) have.blocked (All-one (λ (b : Blocked). HasBurst plan b.task) (record { task = t; wake = wake }) has);
  }

  puts_keep : (wake : ℕ) (outcomes : List (Task × Put)) (core : ModelCore) → HaveBursts plan core → All (λ (o : Task × Put). HasBurst plan o.0) outcomes
      → HaveBursts plan (fold (with_outcome wake) core outcomes)
  puts_keep wake [] core have each = have
  puts_keep wake (o ∷ outcomes) core have each =
      puts_keep wake outcomes (with_outcome wake core o) (put_keeps o.1 wake o.0 core have (each 0 o (omega arith))) (λ k d inside. each (suc k) d (omega arith))

  event_keeps : (p : Meaning) (e : Event) (fresh : Bool) (wake : ℕ) (t : Task) (core : ModelCore) → HaveBursts plan core → HasBurst plan t → HaveBursts plan (core_after_event p e fresh wake t core)
  unfolding core_after_event
  event_keeps p e fresh wake t core have has = puts_keep wake (outcomes_of p e fresh core.consts t) core have (outcomes_keep p e fresh core.consts t has)

  released_keeps : (id : ℕ) (core : ModelCore) → HaveBursts plan core → HaveBursts plan (released id core)
  unfolding released
  released_keeps id core have = record { current = have.current; queue = have.queue; blocked = All-without (λ (b : Blocked). HasBurst plan b.task) (is_blocked_task id) core.blocked have.blocked }

  handed_keep : (ids : List ℕ) (core : ModelCore) → HaveBursts plan core → HaveBursts plan (handed_all ids core)
  unfolding handed_all
  handed_keep ids core have = record { current = have.current; queue = All-left (HasBurst plan) ids core.queue have.queue; blocked = have.blocked }

  received_keep : (tasks : List Task) (core : ModelCore) → HaveBursts plan core → All (HasBurst plan) tasks → HaveBursts plan (received_all tasks core)
  unfolding received_all
  received_keep tasks core have has = record { current = have.current; queue = All-append (HasBurst plan) core.queue tasks have.queue has; blocked = have.blocked }

  either : (b : Bool) (x y : ModelCore) → HaveBursts plan x → HaveBursts plan y → HaveBursts plan (cond b x y)
  either true x y first second = first
  either false x y first second = second

-- the best of a list and the others are of it
best_of_all : {X : Type 0} (P : X → Type 0) (comes : X → X → Bool) (x : X) (xs : List X) (found : Option (X × List X)) → P x → All P xs → IfSome found (λ best. P best.0 × All P best.1)
    → P (better_and_rest comes x xs found).0 × All P (better_and_rest comes x xs found).1
best_of_all P comes x xs None first rest best = (first, rest)
best_of_all P comes x xs (Some later) first rest best =
    one_of P (comes later.0 x) (later.0, x ∷ later.1) (x, xs) (best.0, All-append P (x ∷ []) later.1 (All-one P x first) best.1) (first, rest)
  where
    one_of : {X : Type 0} (P : X → Type 0) (b : Bool) (y z : X × List X) → P y.0 × All P y.1 → P z.0 × All P z.1 → P (cond b y z).0 × All P (cond b y z).1
    one_of P true y z first second = first
    one_of P false y z first second = second

best_in : {X : Type 0} (P : X → Type 0) (comes : X → X → Bool) (xs : List X) → All P xs → IfSome (best_and_rest comes xs) (λ best. P best.0 × All P best.1)
best_in P comes [] each = tt
best_in P comes (x ∷ xs) each =
    let rest : All P xs = λ k d inside. each (suc k) d (omega arith) in
    best_of_all P comes x xs (best_and_rest comes xs) (each 0 x (omega arith)) rest (best_in P comes xs rest)

-- a burst of a program has a unit
some_unit : (b : Burst) (rest : List Burst) → IsProgram (b ∷ rest) → 0 < b.units
some_unit b [] fits = let least = fits.0 in omega arith
some_unit b (c ∷ rest) fits = let least = fits.0 in omega arith

-- a burst that another follows, by what comes at its end
follows : (bursts : List Burst) → IsProgram bursts → (at : ℕ) (b : Burst) → slice_get bursts at ≡ Some b → (rest : meeting_at_end b.ending ≡ ending_now → ⊥) → is_endless b.ending ≡ false
    → LiesIn (record { burst = suc at; done = 0 }) (slice_get bursts (suc at))
follows [] fits at b is goes_on finite = absurd (cc)
follows (c ∷ []) fits zero b is goes_on finite = let same : c ≡ b = cc in absurd (ends c.ending fits.2 (subst (λ (x : Burst). meeting_at_end x.ending ≡ ending_now → ⊥) (sym same) goes_on) (ap (λ (x : Burst). is_endless x.ending) same ∙ finite))
  where
    ends : (e : Ending) → IsLast c e → (meeting_at_end e ≡ ending_now → ⊥) → is_endless e ≡ false → ⊥
    ends ending.Yield last on fin = last
    ends (ending.Block rounds) last on fin = last
    ends ending.End last on fin = on refl
    ends ending.Forever last on fin = absurd (cc)
follows (c ∷ []) fits (suc at) b is goes_on finite = absurd (cc)
follows (c ∷ d ∷ rest) fits zero b is goes_on finite = some_unit d rest fits.3
follows (c ∷ d ∷ rest) fits (suc at) b is goes_on finite = follows (d ∷ rest) fits.3 at b is goes_on finite

-- what a thread runs after a unit that doesn't end it
burst_after : (p : Meaning) (cores : ℕ) (b : Burst) (place : Place) (found : Option Planned) → IfSome found (ThreadFits p cores)
    → option_and_then (λ (q : Planned). slice_get q.bursts place.burst) found ≡ Some b → place.done < b.units → (meeting_of b place ≡ ending_now → ⊥)
    → LiesIn (place_after b place) (option_and_then (λ (q : Planned). slice_get q.bursts (place_after b place).burst) found)
burst_after p cores b place None fits is left goes_on = absurd (cc)
burst_after p cores b place (Some q) fits is left goes_on = by_end (is_endless b.ending) refl
  where
    lies : Place → Type 0
    lies at = LiesIn at (slice_get q.bursts at.burst)

    stays : (done : ℕ) → done < b.units → lies (record place { done = done })
    stays done within = subst (LiesIn (record place { done = done })) (sym is) within

    by_end : (endless : Bool) → is_endless b.ending ≡ endless → lies (cond endless place (cond (is_last_unit b place) (record { burst = place.burst + 1; done = 0 }) (record place { done = place.done + 1 })))
    by_end true e = stays place.done left
    by_end false e = by_last (is_last_unit b place) refl
      where
        by_last : (last : Bool) → is_last_unit b place ≡ last → lies (cond last (record { burst = place.burst + 1; done = 0 }) (record place { done = place.done + 1 }))
        by_last true last =
            subst (λ (n : ℕ). lies (record { burst = n; done = 0 })) (omega arith)
            (follows q.bursts fits.program place.burst b is (λ ends. goes_on (ap (λ x. cond x (meeting_at_end b.ending) tick) last ∙ ends)) e)
        by_last false last =
            let more : nat_le b.units (place.done + 1) ≡ false = sym (ap (λ (x : Bool). not x && nat_le b.units (place.done + 1)) e) ∙ last in
            stays (place.done + 1) (grind (arith, nat_tests))

-- the core after it elected
elected_keeps : (p : Meaning) (plan : Plan) (core : ModelCore) (current : Option Task) → HaveBursts plan core → HaveBursts plan (elected_over p core current)
elected_keeps p plan core None have = with_best (best_and_rest (before p.elect) core.queue) (best_in (HasBurst plan) (before p.elect) core.queue have.queue)
  where
    with_best : (best : Option (Task × List Task)) → IfSome best (λ b. HasBurst plan b.0 × All (HasBurst plan) b.1) → HaveBursts plan (with_current core best)
    with_best None each = have
    with_best (Some best) each = record { current = each.0; queue = each.1; blocked = have.blocked }
elected_keeps p plan core (Some t) have = have

module _ (p : Meaning) (plan : Plan) (fits : Fits p plan) where
  ran_keeps : (t : Task) (b : Burst) → burst_of plan t ≡ Some b → t.place.done < b.units → (meeting_of b t.place ≡ ending_now → ⊥) → HasBurst plan (record t { place = place_after b t.place })
  ran_keeps t b is left goes_on = burst_after p plan.cores b t.place (planned_of plan t.id) (find-All (is_thread t.id) (ThreadFits p plan.cores) plan.threads fits.threads) is left goes_on

  meeting_keeps : (round : ℕ) (m : Meeting) (t : Task) (core : ModelCore) → HaveBursts plan core → ((m ≡ ending_now → ⊥) → HasBurst plan t) → HaveBursts plan (after_meeting p round m t core).core
  meeting_keeps round tick t core have has = event_keeps plan p event.Tick false 0 t core have (has (λ e. absurd (cc)))
  meeting_keeps round yielding t core have has = event_keeps plan p event.Yield false 0 t core have (has (λ e. absurd (cc)))
  meeting_keeps round (blocking rounds) t core have has = event_keeps plan p event.Block false (round + rounds) t core have (has (λ e. absurd (cc)))
  meeting_keeps round ending_now t core have has = have

  unit_keeps : (round : ℕ) (core : ModelCore) (t : Task) (found : Option Burst) → burst_of plan t ≡ found → LiesIn t.place found → HaveBursts plan core → HaveBursts plan (after_unit p round core t found).core
  unit_keeps round core t None is left have = have
  unit_keeps round core t (Some b) is left have =
      meeting_keeps round (meeting_of b t.place) (record t { place = place_after b t.place }) (record core { current = None }) (record { current = tt; queue = have.queue; blocked = have.blocked }) (ran_keeps t b is left)

  run_keeps : (round : ℕ) (core : ModelCore) (current : Option Task) → IfSome current (HasBurst plan) → HaveBursts plan core → HaveBursts plan (run_over p plan round core current).core
  run_keeps round core None has have = have
  run_keeps round core (Some t) has have = unit_keeps round core t (burst_of plan t) refl has have

  work_keeps : (round : ℕ) (core : ModelCore) → HaveBursts plan core → HaveBursts plan (core_after_work p plan round core)
  unfolding worked
  work_keeps round core have =
      let chosen = elected_keeps p plan core core.current have in
      run_keeps round (elected p core) (elected p core).current chosen.current chosen

  enters_with : (t : Planned) (thread : ℕ) → planned_of plan thread ≡ Some t → HasBurst plan (entering_task p t)
  enters_with t thread is =
      let passes = find-passes (is_thread thread) plan.threads t is in
      let same : t.id ≡ thread = grind (arith, nat_tests) in
      let thread_fits = subst (λ (found : Option Planned). IfSome found (ThreadFits p plan.cores)) is (find-All (is_thread thread) (ThreadFits p plan.cores) plan.threads fits.threads) in
      subst (λ (found : Option Planned). LiesIn begins (option_and_then (λ (q : Planned). slice_get q.bursts 0) found)) (sym (ap (planned_of plan) same ∙ is)) (first_of t.bursts thread_fits.program)
    where
      begins : Place
      begins = record { burst = 0; done = 0 }

      first_of : (bursts : List Burst) → IsProgram bursts → LiesIn begins (slice_get bursts 0)
      first_of [] program = absurd program
      first_of (b ∷ bursts) program = some_unit b bursts program

  moved_keeps : (round : ℕ) (e : Entry) (m : Cores) → ((c : ℕ) → HaveBursts plan (m c)) → (c : ℕ) → HaveBursts plan (moved p plan round e m c)
  unfolding effect
  moved_keeps round e m have c = either plan (touches c e) (effect p plan round e m c) (m c) (effects e) (have c)
    where
      effects : (x : Entry) → HaveBursts plan (effect p plan round x m c)
      effects (entry.Round number) = have c
      effects (entry.Enter thread by at reads) = enter (planned_of plan thread) refl
        where
          enter : (found : Option Planned) → planned_of plan thread ≡ found → HaveBursts plan (entered p found (m c))
          enter None is = have c
          enter (Some t) is = event_keeps plan p event.Enqueue true 0 (entering_task p t) (m c) (have c) (enters_with t thread is)
      effects (entry.Wake thread by at reads) = wake (blocked_of thread (m by)) (find-All (is_blocked_task thread) (λ (b : Blocked). HasBurst plan b.task) (m by).blocked (have by).blocked)
        where
          wake : (found : Option Blocked) → IfSome found (λ (b : Blocked). HasBurst plan b.task) → HaveBursts plan (woken p by at c found (m c))
          wake None has = have c
          wake (Some b) has =
              let left = cond (by == c) (released b.task.id (m c)) (m c) in
              let kept = either plan (by == c) (released b.task.id (m c)) (m c) (released_keeps plan b.task.id (m c) (have c)) (have c) in
              either plan (at == c) (admitted p false b.task left) left (event_keeps plan p event.Enqueue false 0 b.task left kept has) kept
      effects (entry.Work by what) = work_keeps round (m c) (have c)
      effects (entry.Steal by from threads reads) =
          let found = (taken_from threads (m from).queue).found in
          let left = cond (from == c) (handed_all threads (m c)) (m c) in
          let kept = either plan (from == c) (handed_all threads (m c)) (m c) (handed_keep plan threads (m c) (have c)) (have c) in
          either plan (by == c) (received_all found left) left (received_keep plan found left kept (All-found (HasBurst plan) threads (m from).queue (have from).queue)) kept
      effects (entry.Fail by from reads) = have c
      effects (entry.Pass by reads) = have c

  history_keeps : (round : ℕ) (es : List Entry) (m : Cores) → ((c : ℕ) → HaveBursts plan (m c)) → (c : ℕ) → HaveBursts plan (after_from p plan round m es c)
  unfolding after_from
  history_keeps round [] m have c = have c
  history_keeps round (e ∷ es) m have c = history_keeps (round_after round e) es (moved p plan round e m) (moved_keeps round e m have) c

  opening_keeps : (c : ℕ) → HaveBursts plan (opening_state plan c)
  unfolding opening_state
  opening_keeps c = record { current = tt; queue = λ k d inside. absurd (omega arith); blocked = λ k d inside. absurd (omega arith) }

-- the thread that a core elects has one
pub elects_burst : (p : Meaning) (plan : Plan) (core : ModelCore) → HaveBursts plan core → IfSome (elected p core).current (HasBurst plan)
elects_burst p plan core have = (elected_keeps p plan core core.current have).current

pub have_bursts : BurstsLaw
have_bursts p plan history c fits = history_keeps p plan fits 0 history (opening_state plan) (opening_keeps p plan fits) c
