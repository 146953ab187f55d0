-- What a turn's seat knows of its own entries, step by step.
use Rattle.std.proofs.Common.{◌≡◌, ℕ, ◌||◌, Bool, true, false, cond, List, [], ◌∷◌, ◌++◌, map, is_some, IsNone, MatchOption, Option, Some, None, refl, sym, ap, ◌∙◌, subst}
use Rattle.std.specs.List.{list_any}
use Rattle.std.proofs.lemmas.List.{map-append}
use Rattle.std.proofs.lemmas.List.Folds.{list_any-append}
use Rattle.round_model.specs.declared.entry.Entry.{Entry}
use Rattle.round_model.specs.After.{after, round_of}
use Rattle.round_model.specs.Scenes.{Scene, entering_next, has_attempted, has_worked, own_entries, scene_of, waking_next}
use Rattle.serial_steps.specs.TurnSteps.{over, step_behind_unit, step_to_enter, step_to_wake, turn_step_of, working}
use Rattle.core_state.specs.declared.logged.Logged.{Logged}
use Rattle.core_state.specs.Logs.{logged}
use Rattle.core_table.specs.declared.views.View.{View}
use Rattle.core_table.specs.Told.{IsSeatOf, IsTrueRole}
use Rattle.core_table.specs.declared.views.Role.TheVariants as role
use Rattle.core_table.specs.Views.{meaning_in}
use Rattle.core_table.proofs.Histories.{own_is}
use Rattle.steal_phase.specs.Attempts.{HasAdded, own_entries_in}
use Rattle.core_calls.specs.Calls.{core_by, core_in}
use Rattle.core_calls.specs.Steps.{HasLetAllIn, HasNoneDue, Woken}
use Rattle.core_calls.specs.Turns.{IsOver}

-- the core of a core's seat
pub core_is : (v : View) (a : ℕ) → IsSeatOf v a → core_in v ≡ a
core_is v a of_core = ap core_by of_core.role

-- the seat's own entries, once one more was drawn
pub own_more : (a at : ℕ) (e : Entry) (v w : View) → HasAdded a at e v w → own_entries_in w ≡ own_entries_in v ++ e ∷ []
own_more a at e v w added = ap (map (λ (l : Logged). l.entry)) added.own ∙ map-append (λ (l : Logged). l.entry) v.own (logged at e ∷ [])

or_false : (b : Bool) → (b || false) ≡ b
or_false true = refl
or_false false = refl

-- what is said of them of any kind
pub any_more : (test : Entry → Bool) (a at : ℕ) (e : Entry) (v w : View) → HasAdded a at e v w → list_any test (own_entries_in w) ≡ (list_any test (own_entries_in v) || test e)
any_more test a at e v w added =
    ap (list_any test) (own_more a at e v w added) ∙ (list_any-append test (own_entries_in v) (e ∷ []) ∙ ap (λ b. list_any test (own_entries_in v) || b) (or_false (test e)))

-- a thread woke, or none was due
pub some_woke : (a : ℕ) (w x : View) (result : Option ℕ) → MatchOption result (HasNoneDue a w x) (λ at. Woken a at w x) → is_some result ≡ true → (at : ℕ) × Woken a at w x
some_woke a w x None next some = absurd (cc)
some_woke a w x (Some at) next some = (at, next)

pub none_woke : (a : ℕ) (w x : View) (result : Option ℕ) → MatchOption result (HasNoneDue a w x) (λ at. Woken a at w x) → is_some result ≡ false → HasNoneDue a w x
none_woke a w x None next none = next
none_woke a w x (Some at) next none = absurd (cc)

-- all has been done that the model asks
pub over_by : (v : View) (a : ℕ) → v.role ≡ role.Core a true → HasLetAllIn v a → has_attempted (own_entries_in v) ≡ true → IsOver v a
unfolding turn_step_of scene_of
over_by v a marked entered attempted h ag look =
    let t = subst (IsTrueRole (meaning_in v) v.plan h v.own) marked ag.role in
    let own : own_entries h a ≡ own_entries_in v = sym (own_is a h) ∙ ap (map (λ (l : Logged). l.entry)) (sym t.is_own) in
    let s : Scene = scene_of (meaning_in v) v.plan h a in
    let nobody : entering_next v.plan (round_of h) a (own_entries h a) ≡ None = nothing (entering_next v.plan (round_of h) a (own_entries h a))
    (subst (λ (x : ℕ × List Entry). IsNone (entering_next v.plan x.0 a x.1)) (λ i. (ag.dated.round i, sym own i)) entered) in
    let none : waking_next (round_of h) (after (meaning_in v) v.plan h a) ≡ None = nothing (waking_next (round_of h) (after (meaning_in v) v.plan h a)) (t.due refl) in
    ap (step_to_enter s a look) nobody ∙ (ap (step_to_wake (own_entries h a) look) none
    ∙ ap (λ b. cond b over (cond (has_worked (own_entries h a)) (step_behind_unit look) working)) (ap has_attempted own ∙ attempted))
  where
    nothing : {X : Type 0} (o : Option X) → IsNone o → o ≡ None
    nothing None is = refl
    nothing (Some x) is = absurd (cc)
