-- What the calls of a core in memory come to, by the entry that was added.
use Rattle.std.proofs.Common.{◌≡◌, ◌≢◌, ℕ, ◌<◌, ◌⊎◌, ⊎_elim, true, cond, List, [], ◌∷◌, ◌++◌, length, Option, Some, None, refl, sym, ap, ◌∙◌, subst, arith, ne_eqb}
use Rattle.std.specs.Prelude.{IsNone, IsSomeAnd}
use Rattle.std.proofs.lemmas.List.{append-nil}
use Rattle.policy_tree.specs.Meaning.{Meaning}
use Rattle.round_model.specs.declared.entry.Did.{Did}
use Rattle.round_model.specs.declared.entry.Entry.{Entry}
use Rattle.round_model.specs.declared.entry.Entry.TheVariants as entry
use Rattle.round_model.specs.declared.plan.Plan.{Plan}
use Rattle.round_model.specs.declared.state.Blocked.{Blocked}
use Rattle.round_model.specs.After.{after, round_of}
use Rattle.round_model.specs.Entries.{acting_core}
use Rattle.round_model.specs.Legal.{LegalNext}
use Rattle.round_model.specs.Rows.{Row}
use Rattle.round_model.specs.Scenes.{scene_of, waking_next}
use Rattle.round_model.proofs.Acting.{acts_is, no_round}
use Rattle.round_model.proofs.OwedTotals.{room_for}
use Rattle.serial_steps.specs.declared.turns.NextStep.{NextStep}
use Rattle.serial_steps.specs.declared.turns.NextStep.TheVariants as next
use Rattle.serial_steps.specs.Turns.{ActsBy, HasWoken, MayAdd}
use Rattle.core_state.specs.Logs.{logged}
use Rattle.core_table.specs.Logs.{own_log}
use Rattle.core_table.proofs.Histories.{own_grows}
use Rattle.core_calls.specs.Steps.{AddsNext, Entered, HasLetAllIn, MayEnter, MayWork, ReadsAtMost, Woken}
use Rattle.turn_tests.specs.declared.memory_calls.MemoryCalls.{MemoryCalls}
use Rattle.turn_tests.specs.Follows.{IsSame}
use Rattle.turn_tests.specs.Memory.{HasGrown, MayGrow, IsReady, core_of, history_of, meaning_in_memory, none_due_in, past_of, plan_of, policy_of, view_of}
use Rattle.turn_tests.specs.Steps.{IsNextStep, did_in, wake_or_none, woken_in}
use Rattle.turn_tests.proofs.Growing.{adds_one, longer_told, told}
use Rattle.turn_tests.proofs.Rows.{row_count}
use Rattle.turn_tests.proofs.Stepping.{Wakes, arrives, placed_each, placed_late, rests, wakes_to, woken_or_none, works_by}

-- the step adds an entry, and so it is nothing else
pub no_other : (step : NextStep) (e : Entry) → step ≡ next.Adds e → (step ≡ next.Looks) ⊎ (step ≡ next.Over) → ⊥
no_other step e is other = ⊎_elim
    (λ (looks : step ≡ next.Looks). let both : next.Adds e ≡ next.Looks = sym is ∙ looks in absurd (cc))
    (λ (over : step ≡ next.Over). let both : next.Adds e ≡ next.Over = sym is ∙ over in absurd (cc))
    other

pub same_entry : (step : NextStep) (d e : Entry) → step ≡ next.Adds d → step ≡ next.Adds e → d ≡ e
same_entry step d e first second = let both : next.Adds d ≡ next.Adds e = sym first ∙ second in cc

-- the entry by which a thread wakes is of that kind
pub record IsWake (e : Entry) : Type 0 where
  pub thread : ℕ
  pub by : ℕ
  pub at : ℕ
  pub reads : List ℕ
  pub is : e ≡ entry.Wake thread by at reads

wake_is : (d e : Entry) → wake_or_none d ≡ Some e → (d ≡ e) × IsWake e
wake_is (entry.Round number) e is = absurd (cc)
wake_is (entry.Enter thread by at reads) e is = absurd (cc)
wake_is (entry.Wake thread by at reads) e is = let same : entry.Wake thread by at reads ≡ e = cc in (same, record { thread = thread; by = by; at = at; reads = reads; is = sym same })
wake_is (entry.Work by what) e is = absurd (cc)
wake_is (entry.Steal by from threads reads) e is = absurd (cc)
wake_is (entry.Fail by from reads) e is = absurd (cc)
wake_is (entry.Pass by reads) e is = absurd (cc)

pub woken_is : (step : NextStep) (e : Entry) → woken_in step ≡ Some e → (step ≡ next.Adds e) × IsWake e
woken_is (next.Adds d) e is = let w = wake_is d e is in (ap next.Adds w.0, w.1)
woken_is next.Looks e is = absurd (cc)
woken_is next.Over e is = absurd (cc)

module _ (it : MemoryCalls) (ready : IsReady it) where
  abbrev p : Meaning
  p = meaning_in_memory it

  abbrev plan : Plan
  plan = plan_of it

  abbrev h : List Entry
  h = history_of it

  abbrev a : ℕ
  a = core_of it

  -- what the step adds may be added
  pub next_at : (step : NextStep) (e : Entry) → step ≡ next.Adds e → MayAdd p plan h step → ActsBy a step → MayGrow it e
  next_at step e is legal acts =
      let k = ready.kept in
      let may : LegalNext p plan h e = subst (MayAdd p plan h) is legal in
      let low = room_for p plan h e a plan.limit k.fits k.handlers k.stands.legal may (subst (ActsBy a) is acts) ready.agrees.role.there k.reserve in
      let few = k.belongs.limits.few_entries in
      record { legal = may; room = omega arith }

  -- One entry more.
  module _ (e : Entry) (legal : LegalNext p plan h e) (acting : acting_core e ≡ Some a) (now : MemoryCalls) (grown : HasGrown e it now) where
    abbrev longer : MemoryCalls
    longer = record it { past = past_of now; history = h ++ e ∷ [] }

    others_stay : (c : ℕ) → c ≢ a → own_log c (h ++ e ∷ []) ≡ own_log c h
    others_stay c apart = own_grows c h e (no_round e a acting)
        ∙ (ap (λ b. own_log c h ++ cond b (logged (length h) e ∷ []) []) (acts_is e a c acting ∙ ne_eqb a c (λ same. apart (sym same))) ∙ append-nil (own_log c h))

    longer_ready : IsReady longer
    longer_ready = let told_so = longer_told (policy_of it) plan a h (none_due_in it) e acting ready.agrees legal in record {
      kept = record { fits = ready.kept.fits; handlers = ready.kept.handlers; stands = grown.stands; belongs = grown.belongs; reserve = told_so.reserve };
      agrees = told_so;
    }

    pub still_ready : IsReady now × IsSame it now
    still_ready = subst (λ (x : MemoryCalls). IsReady x × IsSame it x) (sym grown.is) (longer_ready, record { policy = refl; plan = refl; core = refl; others = others_stay })

    pub adds_at : (at : ℕ) → at ≡ length h → AddsNext a at e (view_of it) (view_of now)
    adds_at at is = subst (λ (x : ℕ × MemoryCalls). AddsNext a x.0 e (view_of it) (view_of x.1)) (λ i. (sym is i, sym grown.is i)) (adds_one (policy_of it) plan a h (none_due_in it) e acting ready.agrees legal)

    -- where a placement looks, no more notes come than it has reads
    pub reads_few : (others : ℕ) (reads : List ℕ) → (0 < length reads → length reads ≡ plan.cores) → ReadsAtMost others (view_of it) (view_of now) reads
    reads_few others reads each = subst (λ (x : MemoryCalls). ReadsAtMost others (view_of it) (view_of x) reads) (sym grown.is)
        (λ some. let many = each some in let count = row_count p plan h e (no_round e a acting) in omega (arith, many, count))

  module _ (step : NextStep) (e : Entry) (is : step ≡ next.Adds e) (legal : MayAdd p plan h step) (acts : ActsBy a step) (now : MemoryCalls) (grown : HasGrown e it now) where
    may : LegalNext p plan h e
    may = subst (MayAdd p plan h) is legal

    by : acting_core e ≡ Some a
    by = subst (ActsBy a) is acts

    pub step_ready : IsReady now × IsSame it now
    step_ready = still_ready e may by now grown

    pub step_adds : (at : ℕ) → at ≡ length h → AddsNext a at e (view_of it) (view_of now)
    step_adds = adds_at e may by now grown

    pub has_entered : (thread at : ℕ) → at ≡ length h → MayEnter (view_of it) a thread → IsNextStep it None step → Entered a thread at (view_of it) (view_of now)
    has_entered thread at count enters next_is =
        let w = arrives it ready thread step enters next_is in
        record {
          to = w.0;
          reads = _;
          late = placed_late it ready;
          all = reads_few e may by now grown 2 _ (placed_each it ready);
          adds = subst (λ (x : Entry). AddsNext a at x (view_of it) (view_of now)) (same_entry step e _ is w.1) (step_adds at count);
        }

    not_woken : IsWake e → HasWoken p plan h a → ⊥
    unfolding LegalNext Row scene_of
    not_woken wake none =
        let wakes = subst (LegalNext p plan h) wake.is may in
        let own : Some wake.by ≡ Some a = sym (ap acting_core wake.is) ∙ by in let same : wake.by ≡ a = cc in
        none_next (waking_next (round_of h) (after p plan h a)) (subst (λ (c : ℕ). IsSomeAnd (waking_next (round_of h) (after p plan h c)) (λ (b : Blocked). b.task.id ≡ wake.thread)) same wakes.row.next) none
      where
        none_next : (o : Option Blocked) → IsSomeAnd o (λ (b : Blocked). b.task.id ≡ wake.thread) → IsNone o → ⊥
        none_next None some none = absurd some
        none_next (Some b) some none = absurd (cc)

    pub has_woken : (at : ℕ) → at ≡ length h → HasLetAllIn (view_of it) a → IsNextStep it None step → woken_in step ≡ Some e → Woken a at (view_of it) (view_of now)
    has_woken at count entered next_is wakes = by_kind (woken_or_none it ready step (waking_next (round_of h) (after p plan h a)) refl entered next_is)
      where
        by_kind : Wakes it ready step → Woken a at (view_of it) (view_of now)
        by_kind (wakes_to thread to same) = record {
          thread = thread;
          to = to;
          reads = _;
          late = placed_late it ready;
          all = reads_few e may by now grown 5 _ (placed_each it ready);
          adds = subst (λ (x : Entry). AddsNext a at x (view_of it) (view_of now)) (same_entry step e _ is same) (step_adds at count);
        }
        by_kind (rests none) = absurd (not_woken (woken_is step e wakes).1 none)

  -- where none wakes none is due
  pub none_woken : (step : NextStep) → HasLetAllIn (view_of it) a → IsNextStep it None step → woken_in step ≡ None → HasWoken p plan h a
  none_woken step entered next_is none = by_kind (woken_or_none it ready step (waking_next (round_of h) (after p plan h a)) refl entered next_is)
    where
      by_kind : Wakes it ready step → HasWoken p plan h a
      by_kind (wakes_to thread to same) = let some = sym none ∙ ap woken_in same in absurd (cc)
      by_kind (rests is) = is

  pub marked_ready : HasWoken p plan h a → IsReady (record it { none_due = true })
  marked_ready none = record {
    kept = ready.kept;
    agrees = told (policy_of it) plan a h true ready.kept.fits ready.kept.belongs.limits ready.kept.handlers ready.kept.stands.legal ready.kept.reserve ready.agrees.role.there ready.agrees.role.begun (λ marked. none);
  }

  -- the unit that was told is the one that the step adds
  pub unit_is : (step : NextStep) (d : Did) → MayWork (view_of it) a → IsNextStep it None step → did_in step ≡ Some d → step ≡ next.Adds (entry.Work a d)
  unit_is step d works next_is tells =
      let w = works_by it ready step works next_is in let both : Some d ≡ Some w.0 = sym tells ∙ ap did_in w.1 in let same : d ≡ w.0 = cc in
      w.1 ∙ ap (λ (x : Did). next.Adds (entry.Work a x)) (sym same)

  pub some_unit : (step : NextStep) → MayWork (view_of it) a → IsNextStep it None step → did_in step ≡ None → ⊥
  some_unit step works next_is none = let w = works_by it ready step works next_is in let both : None ≡ Some w.0 = sym none ∙ ap did_in w.1 in absurd (cc)
