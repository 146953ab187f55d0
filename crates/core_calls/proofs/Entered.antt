-- The thread that the turn asks for enters.
use Rattle.std.proofs.Common.{◌≡◌, ℕ, zero, suc, ◌==◌, ◌<◌, ◌||◌, Bool, true, false, List, [], ◌∷◌, ◌++◌, length, take, Option, Some, None, IsSomeAnd, refl, sym, ap, ap₂, ◌∙◌, subst, arith}
use Rattle.std.specs.List.{list_any}
use Rattle.std.specs.Prelude.{slice_get}
use Rattle.std.proofs.lemmas.Grind.{not_there}
use Rattle.std.proofs.lemmas.List.Folds.{list_any-append}
use Rattle.round_model.specs.declared.entry.Entry.{Entry}
use Rattle.round_model.specs.declared.entry.Entry.TheVariants as entry
use Rattle.round_model.specs.declared.plan.Plan.{Plan}
use Rattle.round_model.specs.declared.plan.Planned.{Planned}
use Rattle.round_model.specs.Entries.{lets_in}
use Rattle.round_model.specs.Scenes.{entering_next}
use Rattle.serial_steps.specs.TurnSteps.{TurnStep, entering}
use Rattle.core_table.specs.declared.views.View.{View}
use Rattle.core_table.specs.Told.{Agrees, IsKnown}
use Rattle.steal_phase.specs.Attempts.{own_entries_in}
use Rattle.core_calls.specs.Calls.{core_in}
use Rattle.core_calls.specs.Steps.{Entered, MayEnter}
use Rattle.core_calls.proofs.Turning.{any_more, core_is}
use Rattle.turn_steps.specs.declared.asking.Ask.TheVariants as ask
use Rattle.turn_steps.specs.declared.asking.Told.TheVariants as told
use Rattle.turn_steps.specs.Answers.{Awaits, told_so_far, with_told}
use Rattle.turn_steps.specs.Asks.{AsksAsModel, IsAskFor, step_after}
use Rattle.turn_steps.specs.Reaches.{IsBehindThreads}
use Rattle.turn_steps.specs.States.{TurnState, entering_by}
use Rattle.turn_steps.proofs.ModelAsks.{to_enter}
use Rattle.turn_steps.proofs.NextToEnter.{enters_next}
use Rattle.core_calls.specs.Stepping.{AddsAsked, HasLook, IsEntryFor, IsPlaying}
use Rattle.core_calls.proofs.Growing.{of_plan_now, own_now, round_now}
use Rattle.core_calls.proofs.Knowing.{eq_by}

there_is : {X : Type 0} (xs : List X) (n : ℕ) → n < length xs → (x : X) × (slice_get xs n ≡ Some x)
there_is [] n inside = absurd (omega arith)
there_is (x ∷ xs) zero inside = (x, refl)
there_is (x ∷ xs) (suc n) inside = there_is xs n (omega arith)

-- with the next item the first ones are one more
take_next : {X : Type 0} (xs : List X) (n : ℕ) (x : X) → slice_get xs n ≡ Some x → take (suc n) xs ≡ take n xs ++ x ∷ []
take_next [] n x is = absurd (cc)
take_next (y ∷ ys) zero x is = let same : y ≡ x = cc in ap (λ z. z ∷ []) same
take_next (y ∷ ys) (suc n) x is = ap (λ l. y ∷ l) (take_next ys n x is)

module _ (t : TurnState) (v : View) (p : IsPlaying t v) (thread : ℕ) (awaits : Awaits t told.Arrived) (asks : AsksAsModel v.plan t (ask.Arrive thread)) where
  found : (x : Planned) × (slice_get (entering_by v.plan t.core t.round) t.arrived ≡ Some x)
  found = there_is (entering_by v.plan t.core t.round) t.arrived (let left = awaits.1 in let count = p.of_plan in omega arith)

  step_is : (h : List Entry) → Agrees v h → step_after t v h ≡ entering found.0
  step_is h ag = to_enter t v h p.told ag found.0 found.1

  named_by : (h : List Entry) → Agrees v h → found.0.id ≡ thread
  named_by h ag = let asked : IsAskFor t (entering found.0) (ask.Arrive thread) = subst (λ step. IsAskFor t step (ask.Arrive thread)) (step_is h ag) (asks v h refl p.told ag).next in cc

  named : ∥ IsKnown v ∥₁ → found.0.id ≡ thread
  named known = eq_by found.0.id thread known (λ k. named_by k.0 k.1)

  next_by : (h : List Entry) → Agrees v h → entering_next v.plan v.round t.core (own_entries_in v) ≡ Some found.0
  next_by h ag = ap (λ r. entering_next v.plan r t.core (own_entries_in v)) p.told.round ∙ (enters_next v.plan t.round t.core (own_entries_in v) t.arrived ag.fits.distinct p.told.entered ∙ found.1)

  -- the thread may enter
  pub may_enter : ∥ IsKnown v ∥₁ → MayEnter v (core_in v) thread
  may_enter known = subst (λ a. MayEnter v a thread) (sym (core_is v t.core p.told.of_core)) record {
    of_core = p.told.of_core;
    next = by_found (entering_next v.plan v.round t.core (own_entries_in v)) refl;
    free = p.free;
  }
    where
      by_found : (o : Option Planned) → entering_next v.plan v.round t.core (own_entries_in v) ≡ o → IsSomeAnd o (λ (u : Planned). u.id ≡ thread)
      by_found None none = absurd (not_there known (λ k. let some = next_by k.0 k.1 in absurd (cc)))
      by_found (Some u) some = eq_by u.id thread known (λ k. let is = next_by k.0 k.1 in let same : u ≡ found.0 = cc in ap (λ (x : Planned). x.id) same ∙ named_by k.0 k.1)

  module _ (at : ℕ) (now : View) (entered : Entered t.core thread at v now) where
    e : Entry
    e = entry.Enter thread t.core entered.to entered.reads

    -- it is one of those who have entered
    entered_now : (id : ℕ) → list_any (lets_in id) (own_entries_in now) ≡ list_any (λ (q : Planned). q.id == id) (take (suc t.arrived) (entering_by now.plan t.core t.round))
    unfolding e
    entered_now id =
        let added = entered.adds.added in let same = named_by entered.adds.next.history entered.adds.next.agrees in let all : List Planned = entering_by v.plan t.core t.round in
        any_more (lets_in id) t.core at e v now added
        ∙ (ap₂ (λ b c. b || c) (p.told.entered id) (ap (λ k. k == id) (sym same))
        ∙ (ap (λ c. list_any (λ (q : Planned). q.id == id) (take t.arrived all) || c) (sym (or_false (found.0.id == id)))
        ∙ (sym (list_any-append (λ (q : Planned). q.id == id) (take t.arrived all) (found.0 ∷ []))
        ∙ (ap (list_any (λ (q : Planned). q.id == id)) (sym (take_next all t.arrived found.0 found.1))
        ∙ ap (λ (q : Plan). list_any (λ (u : Planned). u.id == id) (take (suc t.arrived) (entering_by q t.core t.round))) (sym (ap (λ (u : View). u.plan) added.rest))))))
      where
        or_false : (b : Bool) → (b || false) ≡ b
        or_false true = refl
        or_false false = refl

    pub entered_playing : told_so_far (with_told told.Arrived t) ≡ told_so_far t ++ told.Arrived ∷ [] → IsPlaying (with_told told.Arrived t) now
    unfolding e
    entered_playing more =
        let added = entered.adds.added in record {
          told = record {
            of_core = added.of_core;
            round = round_now t v now at e p added;
            own = own_now t v now at e p added told.Arrived refl refl more;
            entered = entered_now;
            marked = λ behind. added.marked (p.told.marked behind);
          };
          of_plan = of_plan_now t v now at e p added;
          all = λ behind. absurd (subst IsBehindThreads awaits.0 behind);
          free = added.free;
          look = subst (HasLook now t.core) (sym awaits.0) tt;
        }

    -- the model asks for it
    pub entered_asked : (u : TurnState) → u ≡ with_told told.Arrived t → AddsAsked t u v now
    unfolding e
    entered_asked u is_now =
        let n = entered.adds.next in let same = named_by n.history n.agrees in
        record {
          at = at;
          added = e;
          adds = entered.adds;
          asked = subst (λ (step : TurnStep). IsEntryFor t.core step e) (sym (step_is n.history n.agrees)) (entered.to, entered.reads, ap (λ (k : ℕ). entry.Enter k t.core entered.to entered.reads) (sym same));
          answer = told.Arrived;
          tells = refl;
          told = is_now;
        }
