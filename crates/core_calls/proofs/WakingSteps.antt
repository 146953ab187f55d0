-- Threads of the core wake, none is due, and the unit is run.
use Rattle.std.proofs.Common.{◌≡◌, ℕ, ◌+◌, ◌<◌, ◌==◌, true, List, [], ◌∷◌, ◌++◌, filter, length, map, take, option_map, IsNone, IsSomeAnd, Option, Some, None, refl, sym, ap, ◌∙◌, subst}
use Rattle.std.specs.List.{list_any}
use Rattle.std.specs.Prelude.{slice_get}
use Rattle.std.proofs.lemmas.Grind.{not_there}
use Rattle.std.proofs.lemmas.List.{append-nil}
use Rattle.std.proofs.lemmas.List.Elements.{filter-append}
use Rattle.round_model.specs.declared.entry.Did.{Did}
use Rattle.round_model.specs.declared.entry.Entry.{Entry}
use Rattle.round_model.specs.declared.entry.Entry.TheVariants as entry
use Rattle.round_model.specs.declared.plan.Plan.{Plan}
use Rattle.round_model.specs.declared.plan.Planned.{Planned}
use Rattle.round_model.specs.declared.state.Blocked.{Blocked}
use Rattle.round_model.specs.After.{after, round_of}
use Rattle.round_model.specs.Entries.{lets_in}
use Rattle.round_model.specs.Kinds.{is_work}
use Rattle.round_model.specs.Legal.{Legal, LegalNext}
use Rattle.round_model.specs.Rows.{LegalWake, Row}
use Rattle.round_model.specs.Scenes.{entering_next, own_entries, scene_of, waking_next}
use Rattle.round_model.proofs.Grows.{legal_grows}
use Rattle.serial_steps.specs.TurnSteps.{TurnStep, attempting, entering, looking, over, step_to_enter, step_to_wake, turn_step_of, waking, working}
use Rattle.core_state.specs.declared.logged.Logged.{Logged}
use Rattle.core_table.specs.declared.views.View.{View}
use Rattle.core_table.specs.Told.{Agrees, IsKnown, IsTrueRole}
use Rattle.core_table.specs.Views.{meaning_in}
use Rattle.core_table.proofs.Positions.{above}
use Rattle.steal_phase.specs.Attempts.{own_entries_in}
use Rattle.core_calls.specs.Calls.{core_in}
use Rattle.core_calls.specs.Code.Finishes.{Glimpsed}
use Rattle.core_calls.specs.Steps.{AddsNext, HasLetAllIn, HasNoneDue, MayWake, MayWork, Woken, Worked}
use Rattle.core_calls.proofs.Drawn.{adds_behind}
use Rattle.core_calls.proofs.Turning.{core_is}
use Rattle.select_phase.specs.declared.looks.Look.{Look}
use Rattle.select_phase.proofs.Reading.{behind}
use Rattle.turn_steps.specs.declared.asking.Ask.{Ask}
use Rattle.turn_steps.specs.declared.asking.Ask.TheVariants as ask
use Rattle.turn_steps.specs.declared.asking.Told.{Told}
use Rattle.turn_steps.specs.declared.asking.Told.TheVariants as told
use Rattle.turn_steps.specs.declared.reached.Reached.TheVariants as reached
use Rattle.turn_steps.specs.Answers.{drawn, has_entry, told_so_far, with_told}
use Rattle.turn_steps.specs.Asks.{AsksAsModel, IsAskFor, step_after}
use Rattle.turn_steps.specs.Reaches.{IsBehindThreads, look_in, told_behind}
use Rattle.turn_steps.specs.States.{IsTurnOf, TurnState, entering_by}
use Rattle.turn_steps.specs.Views.{IsAsTold, own_in, told_of}
use Rattle.turn_steps.proofs.ModelAsks.{to_enter}
use Rattle.turn_steps.proofs.NextToEnter.{enters_next}
use Rattle.turn_steps.proofs.Telling.{any_drawn, any_of, tells_work, works}
use Rattle.core_calls.specs.Stepping.{AddsAsked, IsEntryFor, IsPlaying}
use Rattle.core_calls.proofs.Growing.{worked_playing, woke_playing}

nothing : {X : Type 0} (o : Option X) → IsNone o → o ≡ None
nothing None is = refl
nothing (Some x) is = absurd (cc)

-- where the turn asks for the unit, the model does
working_only : (t : TurnState) (step : TurnStep) → IsAskFor t step ask.Work → step ≡ working
working_only t (entering p) is = absurd (cc)
working_only t (waking b) is = absurd (cc)
working_only t working is = refl
working_only t looking is = absurd (cc)
working_only t (attempting reads) is = absurd (no_act (look_in t.reached) is)
  where
    no_act : (l : Option Look) → IsSomeAnd l (λ look. (look.reads ≡ reads) × (ask.Work ≡ ask.Act look)) → ⊥
    no_act None none = none
    no_act (Some look) some = let act = some.1 in absurd (cc)
working_only t over is = absurd (cc)

asked_unit : (t : TurnState) (step : TurnStep) (core : ℕ) (did : Did) → IsAskFor t step ask.Work → IsEntryFor core step (entry.Work core did)
asked_unit t step core did is = subst (λ (s : TurnStep). IsEntryFor core s (entry.Work core did)) (sym (working_only t step is)) (did, refl)

module _ (t : TurnState) (v : View) (p : IsPlaying t v) where
  -- where the turn asks for no thread, all are let in
  let_all_in : (asked : Ask) → AsksAsModel v.plan t asked → ((x : Planned) → IsAskFor t (entering x) asked → ⊥) → ∥ IsKnown v ∥₁ → HasLetAllIn v t.core
  let_all_in asked asks other known = by_found (entering_next v.plan v.round t.core (own_entries_in v)) refl
    where
      by_found : (o : Option Planned) → entering_next v.plan v.round t.core (own_entries_in v) ≡ o → IsNone o
      by_found None none = refl
      by_found (Some x) some = absurd (not_there known (λ k.
          let h : List Entry = k.0 in
          let next : slice_get (entering_by v.plan t.core t.round) t.arrived ≡ Some x =
          sym (enters_next v.plan t.round t.core (own_entries_in v) t.arrived k.1.fits.distinct p.told.entered) ∙ (ap (λ r. entering_next v.plan r t.core (own_entries_in v)) (sym p.told.round) ∙ some) in
          other x (subst (λ step. IsAskFor t step asked) (to_enter t v h p.told k.1 x next) (asks v h refl p.told k.1).next)))

  pub may_wake : AsksAsModel v.plan t ask.Wake → ∥ IsKnown v ∥₁ → MayWake v (core_in v)
  may_wake asks known = subst (MayWake v) (sym (core_is v t.core p.told.of_core)) record {
    of_core = p.told.of_core;
    entered = let_all_in ask.Wake asks (λ x is. absurd (cc)) known;
    free = p.free;
  }

  pub may_work : t.reached ≡ reached.NothingDue → AsksAsModel v.plan t ask.Work → ∥ IsKnown v ∥₁ → MayWork v (core_in v)
  may_work is asks known = subst (MayWork v) (sym (core_is v t.core p.told.of_core)) record {
    marked = p.told.marked (subst IsBehindThreads (sym is) tt);
    entered = let_all_in ask.Work asks (λ x same. absurd (cc)) known;
    first = any_of is_work tells_work works (own_in v) (drawn t) p.told.own ∙ (any_drawn t (λ a. tells_work (Some a)) refl refl
        ∙ ap (λ r. list_any (λ a. tells_work (Some a)) (filter has_entry (told_behind r))) is);
    free = p.free;
  }

  -- a thread woke
  module _ (at : ℕ) (now : View) (woken : Woken t.core at v now) where
    pub woken_playing : t.reached ≡ reached.Threads → told_so_far (with_told told.Woke t) ≡ told_so_far t ++ told.Woke ∷ [] → IsPlaying (with_told told.Woke t) now
    woken_playing is more = woke_playing t v now at (entry.Wake woken.thread t.core woken.to woken.reads) p woken.adds.added refl (λ id. refl) is more

    h : List Entry
    h = woken.adds.next.history

    woke : Entry
    woke = entry.Wake woken.thread t.core woken.to woken.reads

    legal : LegalWake (meaning_in v) v.plan (scene_of (meaning_in v) v.plan h t.core) woken.thread t.core woken.to woken.reads
    unfolding h LegalNext Row
    legal = (legal_grows.last (meaning_in v) v.plan h (entry.Wake woken.thread t.core woken.to woken.reads) woken.adds.next.legal).row

    due : Option Blocked
    due = waking_next (round_of h) (after (meaning_in v) v.plan h t.core)

    look : Option (List ℕ)
    look = option_map (λ (l : Look). l.reads) (look_in t.reached)

    step_is : step_after t v h ≡ step_to_wake (own_entries h t.core) look due
    unfolding due look scene_of turn_step_of
    step_is = ap (step_to_enter (scene_of (meaning_in v) v.plan h t.core) t.core look) (nothing (entering_next v.plan (round_of h) t.core (own_entries h t.core)) legal.entered)

    by_due : (o : Option Blocked) → due ≡ o → IsSomeAnd o (λ (b : Blocked). b.task.id ≡ woken.thread) → IsEntryFor t.core (step_after t v h) woke
    unfolding woke
    by_due None none same = absurd same
    by_due (Some b) some same = subst (λ step. IsEntryFor t.core step (entry.Wake woken.thread t.core woken.to woken.reads)) (sym (step_is ∙ ap (step_to_wake (own_entries h t.core) look) some))
        (woken.to, woken.reads, ap (λ k. entry.Wake k t.core woken.to woken.reads) (sym same))

    pub woken_asked : (u : TurnState) → u ≡ with_told told.Woke t → AddsAsked t u v now
    unfolding h woke due scene_of
    woken_asked u is_now = record {
      at = at;
      added = entry.Wake woken.thread t.core woken.to woken.reads;
      adds = woken.adds;
      asked = by_due due refl legal.next;
      answer = told.Woke;
      tells = refl;
      told = is_now;
    }

  -- the unit was run
  module _ (did : Did) (now : View) (worked : Worked t.core did v now) where
    pub unit_playing : t.reached ≡ reached.NothingDue → told_so_far (with_told (told.Worked did) t) ≡ told_so_far t ++ told.Worked did ∷ [] → IsPlaying (with_told (told.Worked did) t) now
    unit_playing is more = worked_playing t v now worked.at (entry.Work t.core did) p worked.adds.added did refl (λ id. refl) is more

    pub unit_asked : AsksAsModel v.plan t ask.Work → (u : TurnState) → u ≡ with_told (told.Worked did) t → AddsAsked t u v now
    unit_asked asks u is_now =
        let n = worked.adds.next in record {
          at = worked.at;
          added = entry.Work t.core did;
          adds = worked.adds;
          asked = asked_unit t (step_after t v n.history) t.core did (asks v n.history refl p.told n.agrees).next;
          answer = told.Worked did;
          tells = refl;
          told = is_now;
        }

  -- no thread was due
  module _ (mid : View) (none : HasNoneDue t.core v mid) where
    same_own : mid.own ≡ v.own
    same_own = ap (λ (u : View). u.own) none.rest

    same_plan : mid.plan ≡ v.plan
    same_plan = ap (λ (u : View). u.plan) none.rest

    pub none_playing : t.arrived ≡ t.entering → told_so_far (with_told told.NothingDue t) ≡ told_so_far t ++ told.NothingDue ∷ [] → IsPlaying (with_told told.NothingDue t) mid
    none_playing all more = record {
      told = record {
        of_core = record { none_due = true; role = none.marked };
        round = ap (λ (u : View). u.round) none.rest ∙ p.told.round;
        own = ap (λ (l : List Logged). map told_of (map (λ (x : Logged). x.entry) l)) same_own
            ∙ (p.told.own ∙ ap (map {B = Option Told} Some) (sym (ap (filter has_entry) more ∙ (filter-append has_entry (told_so_far t) (told.NothingDue ∷ []) ∙ append-nil (drawn t)))));
        entered = λ id. ap (λ (l : List Logged). list_any (lets_in id) (map (λ (x : Logged). x.entry) l)) same_own
            ∙ (p.told.entered id ∙ ap (λ (q : Plan). list_any (λ (u : Planned). u.id == id) (take t.arrived (entering_by q t.core t.round))) (sym same_plan));
        marked = λ behind. none.marked;
      };
      of_plan = subst (λ (q : Plan). IsTurnOf q t) (sym same_plan) p.of_plan;
      all = λ behind. all;
      free = ap (λ (u : View). u.held) none.rest ∙ p.free;
      look = tt;
    }

    glimpsed : Glimpsed t.core v mid
    glimpsed = record {
      of_core = record { none_due = true; role = none.marked };
      marked = λ marked. none.marked;
      free = ap (λ (u : View). u.held) none.rest ∙ p.free;
      more = none.more;
      rest = none.rest;
    }

    -- what the seat found then it knew nothing against before
    agrees_before : (h : List Entry) → Agrees mid h → Agrees v h
    agrees_before h agreed =
        let ag = subst (λ (u : View). Agrees u h) none.rest agreed in let core = subst (IsTrueRole (meaning_in v) v.plan h v.own) none.marked ag.role in
        record {
          fits = ag.fits;
          limits = ag.limits;
          handlers = ag.handlers;
          legal = ag.legal;
          reserve = ag.reserve;
          dated = record { round = ag.dated.round; start = ag.dated.start };
          role = subst (IsTrueRole (meaning_in v) v.plan h v.own) (sym p.told.of_core.role) record { there = core.there; begun = core.begun; is_own = core.is_own; due = λ marked. core.due refl };
          notes = λ i x there. ag.notes (length none.more + i) x (behind none.more v.notes i ∙ there);
          held = ag.held;
        }

    adds_before : (at : ℕ) (e : Entry) (now : View) → AddsNext t.core at e mid now → AddsNext t.core at e v now
    adds_before at e now adds =
        let n = adds.next in let ag = agrees_before n.history n.agrees in
        record {
          added = (adds_behind t.core v mid glimpsed p.told.of_core at e now adds).added;
          next = record {
            history = n.history;
            agrees = ag;
            position = n.position;
            legal = subst (λ (u : View). Legal (meaning_in u) u.plan (n.history ++ e ∷ [])) none.rest n.legal;
            above = above v n.history at ag n.position (subst (λ (u : View). at < u.plan.limit) none.rest n.above.limit);
          };
        }

    -- the model asked for the unit before too
    step_same : t.reached ≡ reached.Threads → (h : List Entry) → step_after (with_told told.NothingDue t) mid h ≡ step_after t v h
    step_same is h =
        ap (λ (u : View). turn_step_of u.plan (scene_of (meaning_in u) u.plan h t.core) t.core None) none.rest
        ∙ ap (λ r. turn_step_of v.plan (scene_of (meaning_in v) v.plan h t.core) t.core (option_map (λ (l : Look). l.reads) (look_in r))) (sym is)

    -- what it asked for then is the unit
    unit_only : (now : View) (u : TurnState) → AsksAsModel mid.plan (with_told told.NothingDue t) ask.Work → IsAsTold (with_told told.NothingDue t) mid
        → (asked : AddsAsked (with_told told.NothingDue t) u mid now) → (did : Did) × (asked.added ≡ entry.Work t.core did)
    unit_only now u asks said asked =
        let n = asked.adds.next in let step = step_after (with_told told.NothingDue t) mid n.history in
        subst (λ (s : TurnStep). IsEntryFor t.core s asked.added) (working_only (with_told told.NothingDue t) step (asks mid n.history refl said n.agrees).next) asked.asked

    pub asked_before : t.reached ≡ reached.Threads → AsksAsModel mid.plan (with_told told.NothingDue t) ask.Work → IsAsTold (with_told told.NothingDue t) mid
        → (now : View) (u : TurnState) → AddsAsked (with_told told.NothingDue t) u mid now → AddsAsked t u v now
    unfolding adds_before
    asked_before is asks said now u asked =
        let unit = unit_only now u asks said asked in let answers : asked.answer ≡ told.Worked unit.0 = let one = sym asked.tells ∙ ap told_of unit.1 in cc in record {
          at = asked.at;
          added = asked.added;
          adds = adds_before asked.at asked.added now asked.adds;
          asked = subst (λ step. IsEntryFor t.core step asked.added) (step_same is asked.adds.next.history) asked.asked;
          answer = told.Worked unit.0;
          tells = asked.tells ∙ ap Some answers;
          told = asked.told ∙ ap (λ (a : Told). with_told a (with_told told.NothingDue t)) answers;
        }
