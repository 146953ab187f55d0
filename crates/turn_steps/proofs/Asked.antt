-- What is asked by the order of a turn is what may be answered, and what the model asks.
use Rattle.std.proofs.Common.{◌≡◌, ℕ, ◌≤◌, ◌↔◌, length, option_map, Option, Some, None, inl, refl, sym, ap, ap₂, ◌∙◌, subst, arith}
use Rattle.std.specs.Prelude.{slice_get}
use Rattle.round_model.specs.declared.entry.Did.{Did}
use Rattle.round_model.specs.declared.plan.Plan.{Plan}
use Rattle.round_model.specs.declared.plan.Planned.{Planned}
use Rattle.serial_steps.specs.Orders.{in_order}
use Rattle.select_phase.specs.declared.looks.Look.{Look}
use Rattle.turn_steps.specs.declared.asking.Ask.{Ask}
use Rattle.turn_steps.specs.declared.asking.Ask.TheVariants as ask
use Rattle.turn_steps.specs.declared.asking.Told.{Told}
use Rattle.turn_steps.specs.declared.asking.Told.TheVariants as told
use Rattle.turn_steps.specs.declared.reached.Reached.{Reached}
use Rattle.turn_steps.specs.declared.reached.Reached.TheVariants as reached
use Rattle.turn_steps.specs.Answers.{Answers, Awaits}
use Rattle.turn_steps.specs.Asks.{AsksAsModel}
use Rattle.turn_steps.specs.Code.Asked.{ask_for, asked_of}
use Rattle.turn_steps.specs.Code.Reaching.{has_acted_in, has_worked_in, may_wake_in}
use Rattle.turn_steps.specs.Reaches.{IsBehindThreads, IsOver, look_in}
use Rattle.turn_steps.specs.States.{IsTurnOf, TurnState, entering_by, next_thread}
use Rattle.turn_steps.proofs.Awaiting.{awaits_arrival, awaits_waking, is_inside, is_outside}
use Rattle.turn_steps.proofs.ModelAsks.{behind_all, model_of_attempt, model_of_end, model_of_look, model_of_threads, model_of_unit}

-- all that is promised of what a turn asks
pub record IsAskedRight (plan : Plan) (t : TurnState) (a : Ask) : Type 0 where
  pub model : AsksAsModel plan t a
  pub awaits : (answer : Told) → Answers a answer ↔ Awaits t answer
  pub thread : (id : ℕ) → a ≡ ask.Arrive id → next_thread plan t ≡ Some id
  pub over : (a ≡ ask.Over) ↔ IsOver t.reached
  pub look : (look : Look) → a ≡ ask.Act look → look_in t.reached ≡ Some look

module _ (t : TurnState) where
  awaits_work : t.reached ≡ reached.NothingDue → (answer : Told) → Answers ask.Work answer ↔ Awaits t answer
  awaits_work is answer = ((λ e. subst (Awaits t) (sym e.1) is), back answer)
    where
      back : (answer : Told) → Awaits t answer → (did : Did) × (answer ≡ told.Worked did)
      back told.Arrived w = let r = w.0 in absurd (cc)
      back told.Woke w = let r = w.0 in absurd (cc)
      back told.NothingDue w = let r = w.0 in absurd (cc)
      back (told.Worked did) w = (did, refl)
      back (told.Looked look) w = let r = w.1 in absurd (cc)
      back told.Acted w = let r = w.2 in absurd (cc)

  awaits_look : (did : Did) → t.reached ≡ reached.Worked did → (answer : Told) → Answers ask.Look answer ↔ Awaits t answer
  awaits_look did is answer = ((λ e. subst (Awaits t) (sym e.1) (did, is)), back answer)
    where
      back : (answer : Told) → Awaits t answer → (look : Look) × (answer ≡ told.Looked look)
      back told.Arrived w = let r = w.0 in absurd (cc)
      back told.Woke w = let r = w.0 in absurd (cc)
      back told.NothingDue w = let r = w.0 in absurd (cc)
      back (told.Worked d) w = absurd (cc)
      back (told.Looked look) w = (look, refl)
      back told.Acted w = let r = w.2 in absurd (cc)

  awaits_attempt : (did : Did) (look : Look) → t.reached ≡ reached.Looked did look → (answer : Told) → Answers (ask.Act look) answer ↔ Awaits t answer
  awaits_attempt did look is answer = ((λ e. subst (Awaits t) (sym e) (did, look, is)), back answer)
    where
      back : (answer : Told) → Awaits t answer → answer ≡ told.Acted
      back told.Arrived w = let r = w.0 in absurd (cc)
      back told.Woke w = let r = w.0 in absurd (cc)
      back told.NothingDue w = let r = w.0 in absurd (cc)
      back (told.Worked d) w = absurd (cc)
      back (told.Looked l) w = let r = w.1 in absurd (cc)
      back told.Acted w = refl

  awaits_none : (did : Did) (look : Look) → t.reached ≡ reached.Acted did look → (answer : Told) → Answers ask.Over answer ↔ Awaits t answer
  awaits_none did look is answer = ((λ e. absurd e), back answer)
    where
      back : (answer : Told) → Awaits t answer → ⊥
      back told.Arrived w = let r = w.0 in absurd (cc)
      back told.Woke w = let r = w.0 in absurd (cc)
      back told.NothingDue w = let r = w.0 in absurd (cc)
      back (told.Worked d) w = absurd (cc)
      back (told.Looked l) w = let r = w.1 in absurd (cc)
      back told.Acted w = let r = w.2 in absurd (cc)

module _ (plan : Plan) (t : TurnState) (of_plan : IsTurnOf plan t) (within : t.arrived ≤ t.entering) (behind : IsBehindThreads t.reached → t.arrived ≡ t.entering) where
  asked_by : (next : Option ℕ) (r : Reached) → next_thread plan t ≡ next → t.reached ≡ r → asked_of plan t ≡ ask_for (in_order next (may_wake_in r) (has_worked_in r) (has_acted_in r) (look_in r))
  asked_by next r is_next is = ap₂ (λ (e : Option ℕ) (q : Reached). ask_for (in_order e (may_wake_in q) (has_worked_in q) (has_acted_in q) (look_in q))) is_next is

  none_left : t.arrived ≡ t.entering → next_thread plan t ≡ None
  none_left all = ap (option_map (λ (p : Planned). p.id)) (behind_all (entering_by plan t.core t.round) t.arrived (all ∙ of_plan))

  pub asked_right : IsAskedRight plan t (asked_of plan t)
  asked_right = by t.reached refl
    where
      by_next : (next : Option ℕ) → next_thread plan t ≡ next → t.reached ≡ reached.Threads → IsAskedRight plan t (asked_of plan t)
      by_next None none is = subst (IsAskedRight plan t) (sym (asked_by None reached.Threads none is)) record {
        model = model_of_threads plan t is None (sym none);
        awaits = awaits_waking t is (let all = is_outside (λ (p : Planned). p.id) (entering_by plan t.core t.round) t.arrived (sym none) in let count = of_plan in omega arith);
        thread = λ id e. absurd (cc);
        over = (λ e. absurd (cc), λ over. absurd (subst IsOver is over));
        look = λ l e. absurd (cc);
      }
      by_next (Some id) some is = subst (IsAskedRight plan t) (sym (asked_by (Some id) reached.Threads some is)) record {
        model = model_of_threads plan t is (Some id) (sym some);
        awaits = awaits_arrival t is (let there = is_inside (λ (p : Planned). p.id) (entering_by plan t.core t.round) t.arrived id (sym some) in let count = of_plan in omega arith) id;
        thread = λ other e. some ∙ (let same : id ≡ other = cc in ap Some same);
        over = (λ e. absurd (cc), λ over. absurd (subst IsOver is over));
        look = λ l e. absurd (cc);
      }

      by : (r : Reached) → t.reached ≡ r → IsAskedRight plan t (asked_of plan t)
      by reached.Threads is = by_next (next_thread plan t) refl is
      by reached.NothingDue is = let all = behind (subst IsBehindThreads (sym is) tt) in subst (IsAskedRight plan t) (sym (asked_by None reached.NothingDue (none_left all) is)) record {
        model = model_of_unit plan t all of_plan is;
        awaits = awaits_work t is;
        thread = λ id e. absurd (cc);
        over = (λ e. absurd (cc), λ over. absurd (subst IsOver is over));
        look = λ l e. absurd (cc);
      }
      by (reached.Worked did) is = let all = behind (subst IsBehindThreads (sym is) tt) in subst (IsAskedRight plan t) (sym (asked_by None (reached.Worked did) (none_left all) is)) record {
        model = model_of_look plan t all of_plan did is;
        awaits = awaits_look t did is;
        thread = λ id e. absurd (cc);
        over = (λ e. absurd (cc), λ over. absurd (subst IsOver is over));
        look = λ l e. absurd (cc);
      }
      by (reached.Looked did look) is = let all = behind (subst IsBehindThreads (sym is) tt) in subst (IsAskedRight plan t) (sym (asked_by None (reached.Looked did look) (none_left all) is)) record {
        model = model_of_attempt plan t all of_plan did look is;
        awaits = awaits_attempt t did look is;
        thread = λ id e. absurd (cc);
        over = (λ e. absurd (cc), λ over. absurd (subst IsOver is over));
        look = λ l e. let same : look ≡ l = cc in ap look_in is ∙ ap Some same;
      }
      by (reached.Acted did look) is = let all = behind (subst IsBehindThreads (sym is) tt) in subst (IsAskedRight plan t) (sym (asked_by None (reached.Acted did look) (none_left all) is)) record {
        model = model_of_end plan t all of_plan did look is;
        awaits = awaits_none t did look is;
        thread = λ id e. absurd (cc);
        over = (λ e. subst IsOver (sym is) tt, λ over. refl);
        look = λ l e. absurd (cc);
      }
