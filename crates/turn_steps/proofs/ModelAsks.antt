-- What the model asks of a turn that was told so far.
use Rattle.std.proofs.Common.{◌≡◌, ℕ, zero, suc, cond, ◌↔◌, List, [], ◌∷◌, filter, map, length, option_map, IsNone, IsSomeAnd, Option, Some, None, refl, sym, ap, ap₂, ◌∙◌, subst, arith}
use Rattle.std.specs.List.{list_any}
use Rattle.std.specs.Prelude.{slice_get}
use Rattle.round_model.specs.declared.entry.Did.{Did}
use Rattle.round_model.specs.declared.entry.Entry.{Entry}
use Rattle.round_model.specs.declared.plan.Plan.{Plan}
use Rattle.round_model.specs.declared.plan.Planned.{Planned}
use Rattle.round_model.specs.declared.state.Blocked.{Blocked}
use Rattle.round_model.specs.After.{after, round_of}
use Rattle.round_model.specs.Kinds.{is_attempt, is_work}
use Rattle.round_model.specs.Scenes.{Scene, entering_next, has_attempted, has_worked, own_entries, scene_of, waking_next}
use Rattle.serial_steps.specs.TurnSteps.{TurnStep, attempting, entering, looking, over, step_behind_unit, step_to_enter, step_to_wake, turn_step_of, waking, working}
use Rattle.core_state.specs.declared.logged.Logged.{Logged}
use Rattle.core_table.specs.declared.views.View.{View}
use Rattle.core_table.specs.Told.{Agrees, IsTrueRole}
use Rattle.core_table.specs.Views.{meaning_in}
use Rattle.core_table.proofs.Histories.{own_is}
use Rattle.select_phase.specs.declared.looks.Look.{Look}
use Rattle.turn_steps.specs.declared.asking.Ask.{Ask}
use Rattle.turn_steps.specs.declared.asking.Ask.TheVariants as ask
use Rattle.turn_steps.specs.declared.reached.Reached.{Reached}
use Rattle.turn_steps.specs.declared.reached.Reached.TheVariants as reached
use Rattle.turn_steps.specs.Answers.{drawn, has_entry}
use Rattle.turn_steps.specs.Asks.{AsksAsModel, AsksNext, IsAskFor, ask_for_unit, step_after}
use Rattle.turn_steps.specs.Reaches.{IsBehindThreads, look_in, told_behind}
use Rattle.turn_steps.specs.States.{TurnState, entering_by}
use Rattle.turn_steps.specs.Views.{IsAsTold, own_in}
use Rattle.turn_steps.proofs.NextToEnter.{enters_next}
use Rattle.turn_steps.proofs.Telling.{any_drawn, any_of, attempts, tells_attempt, tells_work, works}

nothing : {X : Type 0} (o : Option X) → IsNone o → o ≡ None
nothing None is = refl
nothing (Some x) is = absurd (cc)

-- a turn asks for the unit, or before it to wake
never_over : (r : Reached) → ask_for_unit r ≡ ask.Over → ⊥
never_over reached.Threads is = absurd (cc)
never_over reached.NothingDue is = absurd (cc)
never_over (reached.Worked did) is = absurd (cc)
never_over (reached.Looked did look) is = absurd (cc)
never_over (reached.Acted did look) is = absurd (cc)

-- what isn't asked for is no step, and a step is asked for
over_both : (t : TurnState) (asked : Ask) (step : TurnStep) → IsAskFor t step asked → (asked ≡ ask.Over) ↔ (step ≡ over)
over_both t asked (entering thread) is = ((λ o. absurd (cc)), (λ o. absurd (cc)))
over_both t asked (waking blocked) is = ((λ o. absurd (cc)), (λ o. absurd (cc)))
over_both t asked working is = ((λ o. absurd (never_over t.reached (sym is ∙ o))), (λ o. absurd (cc)))
over_both t asked looking is = ((λ o. absurd (cc)), (λ o. absurd (cc)))
over_both t asked (attempting reads) is = ((λ o. absurd (no_look (look_in t.reached) is o)), (λ o. absurd (cc)))
  where
    no_look : (l : Option Look) → IsSomeAnd l (λ look. (look.reads ≡ reads) × (asked ≡ ask.Act look)) → asked ≡ ask.Over → ⊥
    no_look None none o = absurd none
    no_look (Some look) some o = let act = some.1 in absurd (cc)
over_both t asked over is = ((λ o. refl), (λ o. is))

pub asks_next : (t : TurnState) (asked : Ask) (step : TurnStep) → IsAskFor t step asked → AsksNext t asked step
asks_next t asked step is = record { next = is; over = over_both t asked step is }

-- what the code asks where it wasn't told that nothing is due
abbrev pub ask_of_next : Option ℕ → Ask
ask_of_next None = ask.Wake
ask_of_next (Some thread) = ask.Arrive thread

module _ (t : TurnState) (v : View) (h : List Entry) (told : IsAsTold t v) (ag : Agrees v h) where
  a : ℕ
  a = t.core

  is_own : own_entries h a ≡ own_in v
  unfolding a
  is_own = let core = subst (IsTrueRole (meaning_in v) v.plan h v.own) told.of_core.role ag.role in
      sym (own_is a h) ∙ ap (map (λ (l : Logged). l.entry)) (sym core.is_own)

  has_run : has_worked (own_entries h a) ≡ list_any (λ answer. tells_work (Some answer)) (filter has_entry (told_behind t.reached))
  unfolding a
  has_run = ap has_worked is_own ∙ (any_of is_work tells_work works (own_in v) (drawn t) told.own ∙ any_drawn t (λ answer. tells_work (Some answer)) refl refl)

  has_tried : has_attempted (own_entries h a) ≡ list_any (λ answer. tells_attempt (Some answer)) (filter has_entry (told_behind t.reached))
  unfolding a
  has_tried = ap has_attempted is_own ∙ (any_of is_attempt tells_attempt attempts (own_in v) (drawn t) told.own ∙ any_drawn t (λ answer. tells_attempt (Some answer)) refl refl)

  next : entering_next v.plan (round_of h) a (own_entries h a) ≡ slice_get (entering_by v.plan t.core t.round) t.arrived
  unfolding a
  next =
      ap₂ (λ (r : ℕ) (own : List Entry). entering_next v.plan r t.core own) (sym ag.dated.round ∙ told.round) is_own
      ∙ enters_next v.plan t.round t.core (own_in v) t.arrived ag.fits.distinct told.entered

  abbrev look : Option (List ℕ)
  look = option_map (λ (l : Look). l.reads) (look_in t.reached)

  s : Scene
  s = scene_of (meaning_in v) v.plan h t.core

  due : Option Blocked
  due = waking_next (round_of h) (after (meaning_in v) v.plan h t.core)

  step_is : step_after t v h ≡ step_to_enter s t.core look (slice_get (entering_by v.plan t.core t.round) t.arrived)
  unfolding a s turn_step_of scene_of
  step_is = ap (step_to_enter s t.core look) next

  -- a thread is left to enter
  pub to_enter : (p : Planned) → slice_get (entering_by v.plan t.core t.round) t.arrived ≡ Some p → step_after t v h ≡ entering p
  unfolding s
  to_enter p is = step_is ∙ ap (step_to_enter s t.core look) is

  module _ (entered : slice_get (entering_by v.plan t.core t.round) t.arrived ≡ None) where
    to_wake : step_after t v h ≡ step_to_wake (own_entries h t.core) look due
    unfolding s due scene_of
    to_wake = step_is ∙ ap (step_to_enter s t.core look) entered

    -- a thread is due, or the unit is to be run
    pub wakes : t.reached ≡ reached.Threads → IsAskFor t (step_after t v h) ask.Wake
    unfolding a
    wakes is = by_due due refl
      where
        by_due : (o : Option Blocked) → due ≡ o → IsAskFor t (step_after t v h) ask.Wake
        by_due None none = subst (λ step. IsAskFor t step ask.Wake) (sym (to_wake ∙ (ap (step_to_wake (own_entries h t.core) look) none
            ∙ ap₂ (λ b c. cond b over (cond c (step_behind_unit look) working)) (has_tried ∙ ap (λ r. list_any (λ answer. tells_attempt (Some answer)) (filter has_entry (told_behind r))) is)
            (has_run ∙ ap (λ r. list_any (λ answer. tells_work (Some answer)) (filter has_entry (told_behind r))) is)))) (ap ask_for_unit (sym is))
        by_due (Some b) some = subst (λ step. IsAskFor t step ask.Wake) (sym (to_wake ∙ ap (step_to_wake (own_entries h t.core) look) some)) refl

    -- once it was told that nothing is due
    module _ (behind : IsBehindThreads t.reached) where
      none_due : due ≡ None
      unfolding due
      none_due = let core = subst (IsTrueRole (meaning_in v) v.plan h v.own) (told.marked behind) ag.role in nothing (waking_next (round_of h) (after (meaning_in v) v.plan h t.core)) (core.due refl)

      pub late_is : step_after t v h ≡ cond (list_any (λ answer. tells_attempt (Some answer)) (filter has_entry (told_behind t.reached))) over
          (cond (list_any (λ answer. tells_work (Some answer)) (filter has_entry (told_behind t.reached))) (step_behind_unit look) working)
      unfolding a
      late_is = to_wake ∙ (ap (step_to_wake (own_entries h t.core) look) none_due ∙ ap₂ (λ b c. cond b over (cond c (step_behind_unit look) working)) has_tried has_run)

-- of lists that are as long as so many items, none is behind these
pub behind_all : {X : Type 0} (xs : List X) (n : ℕ) → n ≡ length xs → slice_get xs n ≡ None
behind_all [] n is = refl
behind_all (x ∷ xs) zero is = absurd (omega arith)
behind_all (x ∷ xs) (suc n) is = behind_all xs n (omega arith)

-- what the turn asks is what the model asks, by how far it has come
module _ (plan : Plan) (t : TurnState) where
  pub model_of_threads : t.reached ≡ reached.Threads → (next : Option ℕ) → next ≡ option_map (λ (p : Planned). p.id) (slice_get (entering_by plan t.core t.round) t.arrived)
      → AsksAsModel plan t (ask_of_next next)
  model_of_threads is next found v h same told ag = by_found (slice_get (entering_by plan t.core t.round) t.arrived) refl
    where
      by_found : (o : Option Planned) → slice_get (entering_by plan t.core t.round) t.arrived ≡ o → AsksNext t (ask_of_next next) (step_after t v h)
      by_found None none =
          let here = ap (λ (p : Plan). slice_get (entering_by p t.core t.round) t.arrived) same ∙ none in
          subst (λ (o : Option ℕ). AsksNext t (ask_of_next o) (step_after t v h)) (sym (found ∙ ap (option_map (λ (p : Planned). p.id)) none)) (asks_next t ask.Wake (step_after t v h) (wakes t v h told ag here is))
      by_found (Some p) some =
          let here = ap (λ (p : Plan). slice_get (entering_by p t.core t.round) t.arrived) same ∙ some in
          subst (λ (o : Option ℕ). AsksNext t (ask_of_next o) (step_after t v h)) (sym (found ∙ ap (option_map (λ (p : Planned). p.id)) some))
          (asks_next t (ask.Arrive p.id) (step_after t v h) (subst (λ step. IsAskFor t step (ask.Arrive p.id)) (sym (to_enter t v h told ag p here)) refl))

  -- behind the threads
  module _ (within : t.arrived ≡ t.entering) (of_plan : t.entering ≡ length (entering_by plan t.core t.round)) where
    all_in : (v : View) → v.plan ≡ plan → slice_get (entering_by v.plan t.core t.round) t.arrived ≡ None
    all_in v same = behind_all (entering_by v.plan t.core t.round) t.arrived (within ∙ (of_plan ∙ ap (λ (p : Plan). length (entering_by p t.core t.round)) (sym same)))

    -- what it asks for in this place, where the model asks that
    by_late : (r : Reached) (asked : Ask) → t.reached ≡ r → IsBehindThreads r
        → ((u : TurnState) → u.reached ≡ r → IsAskFor u (cond (list_any (λ answer. tells_attempt (Some answer)) (filter has_entry (told_behind r))) over
        (cond (list_any (λ answer. tells_work (Some answer)) (filter has_entry (told_behind r))) (step_behind_unit (option_map (λ (l : Look). l.reads) (look_in r))) working)) asked)
        → AsksAsModel plan t asked
    by_late r asked is behind asks v h same told ag =
        asks_next t asked (step_after t v h) (subst (λ step. IsAskFor t step asked) (sym (late_is t v h told ag (all_in v same) (subst IsBehindThreads (sym is) behind)
        ∙ ap (λ (q : Reached). cond (list_any (λ answer. tells_attempt (Some answer)) (filter has_entry (told_behind q))) over
        (cond (list_any (λ answer. tells_work (Some answer)) (filter has_entry (told_behind q))) (step_behind_unit (option_map (λ (l : Look). l.reads) (look_in q))) working)) is)) (asks t is))

    pub model_of_unit : t.reached ≡ reached.NothingDue → AsksAsModel plan t ask.Work
    model_of_unit is = by_late reached.NothingDue ask.Work is tt (λ u same. ap ask_for_unit (sym same))

    pub model_of_look : (did : Did) → t.reached ≡ reached.Worked did → AsksAsModel plan t ask.Look
    model_of_look did is = by_late (reached.Worked did) ask.Look is tt (λ u same. refl)

    pub model_of_attempt : (did : Did) (look : Look) → t.reached ≡ reached.Looked did look → AsksAsModel plan t (ask.Act look)
    model_of_attempt did look is = by_late (reached.Looked did look) (ask.Act look) is tt (λ u same.
        subst (λ (o : Option Look). IsSomeAnd o (λ l. (l.reads ≡ look.reads) × (ask.Act look ≡ ask.Act l))) (ap look_in (sym same)) (refl, refl))

    pub model_of_end : (did : Did) (look : Look) → t.reached ≡ reached.Acted did look → AsksAsModel plan t ask.Over
    model_of_end did look is = by_late (reached.Acted did look) ask.Over is tt (λ u same. refl)
