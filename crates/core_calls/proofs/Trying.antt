-- The core looks, and makes its attempt.
use Rattle.std.proofs.Common.{◌≡◌, ℕ, ◌==◌, true, false, List, [], ◌∷◌, ◌++◌, filter, map, take, IsFalse, IsTrue, IsSomeAnd, Option, Some, None, refl, sym, ap, ◌∙◌, subst}
use Rattle.std.specs.List.{list_any}
use Rattle.std.proofs.lemmas.List.{append-nil}
use Rattle.std.proofs.lemmas.List.Elements.{filter-append}
use Rattle.round_model.specs.declared.entry.Did.{Did}
use Rattle.round_model.specs.declared.entry.Entry.{Entry}
use Rattle.round_model.specs.declared.plan.Plan.{Plan}
use Rattle.round_model.specs.declared.plan.Planned.{Planned}
use Rattle.round_model.specs.Entries.{lets_in, reads_of}
use Rattle.round_model.specs.Kinds.{is_attempt, is_work}
use Rattle.round_model.specs.Scenes.{has_attempted, has_worked}
use Rattle.serial_steps.specs.TurnSteps.{TurnStep, attempting, entering, looking, over, waking, working}
use Rattle.core_state.specs.declared.logged.Logged.{Logged}
use Rattle.core_table.specs.declared.views.View.{View}
use Rattle.select_phase.specs.declared.looks.Look.{Look}
use Rattle.select_phase.specs.Seen.{AreLast, Looked}
use Rattle.steal_phase.specs.declared.outcome.Outcome.{Outcome}
use Rattle.steal_phase.specs.declared.outcome.Outcome.TheVariants as outcome
use Rattle.steal_phase.specs.Attempts.{HasAdded, MayAttempt, MayLook, entry_of, own_entries_in, position_of}
use Rattle.core_calls.specs.Calls.{LooksAt, MayTry, Tries, core_in}
use Rattle.core_calls.proofs.Turning.{core_is}
use Rattle.turn_steps.specs.declared.asking.Ask.{Ask}
use Rattle.turn_steps.specs.declared.asking.Ask.TheVariants as ask
use Rattle.turn_steps.specs.declared.asking.Told.{Told}
use Rattle.turn_steps.specs.declared.asking.Told.TheVariants as told
use Rattle.turn_steps.specs.declared.reached.Reached.{Reached}
use Rattle.turn_steps.specs.declared.reached.Reached.TheVariants as reached
use Rattle.turn_steps.specs.Answers.{drawn, has_entry, told_so_far, with_told}
use Rattle.turn_steps.specs.Asks.{AsksAsModel, IsAskFor, ask_for_unit, step_after}
use Rattle.turn_steps.specs.Reaches.{IsBehindThreads, look_in, told_behind, with_look}
use Rattle.turn_steps.specs.States.{IsTurnOf, TurnState, entering_by}
use Rattle.turn_steps.specs.Views.{own_in, told_of}
use Rattle.turn_steps.proofs.Telling.{any_drawn, any_of, attempts, tells_attempt, tells_work, works}
use Rattle.core_calls.specs.Stepping.{AddsAsked, HasLook, IsEntryFor, IsPlaying, LooksAsked}
use Rattle.core_calls.proofs.Growing.{acted_playing}

-- an attempt is told as one, lets nobody in, and has the look's reads
module _ (look : Look) where
  told_as : (o : Outcome) → told_of (entry_of look o) ≡ Some told.Acted
  told_as (outcome.Stole at threads) = refl
  told_as (outcome.Failed at) = refl
  told_as (outcome.Passed at) = refl

  lets_none_in : (o : Outcome) (id : ℕ) → lets_in id (entry_of look o) ≡ false
  lets_none_in (outcome.Stole at threads) id = refl
  lets_none_in (outcome.Failed at) id = refl
  lets_none_in (outcome.Passed at) id = refl

  is_tried : (o : Outcome) → (is_attempt (entry_of look o) ≡ true) × (reads_of (entry_of look o) ≡ look.reads)
  is_tried (outcome.Stole at threads) = (refl, refl)
  is_tried (outcome.Failed at) = (refl, refl)
  is_tried (outcome.Passed at) = (refl, refl)

no_unit : (r : Reached) (asked : Ask) → (asked ≡ ask.Wake → ⊥) → (asked ≡ ask.Work → ⊥) → asked ≡ ask_for_unit r → ⊥
no_unit reached.Threads asked wake work is = wake is
no_unit reached.NothingDue asked wake work is = work is
no_unit (reached.Worked did) asked wake work is = work is
no_unit (reached.Looked did look) asked wake work is = work is
no_unit (reached.Acted did look) asked wake work is = work is

-- where the turn asks for a look, the model does
asked_look : (t : TurnState) (step : TurnStep) → IsAskFor t step ask.Look → step ≡ looking
asked_look t (entering p) is = absurd (cc)
asked_look t (waking b) is = absurd (cc)
asked_look t working is = absurd (no_unit t.reached ask.Look (λ e. absurd (cc)) (λ e. absurd (cc)) is)
asked_look t looking is = refl
asked_look t (attempting reads) is = absurd (no_look (look_in t.reached) is)
  where
    no_look : (l : Option Look) → IsSomeAnd l (λ look. (look.reads ≡ reads) × (ask.Look ≡ ask.Act look)) → ⊥
    no_look None none = none
    no_look (Some look) some = let act = some.1 in absurd (cc)
asked_look t over is = absurd (cc)

-- and where it asks for the attempt
asked_attempt : (t : TurnState) (step : TurnStep) (core : ℕ) (look : Look) (e : Entry) → look_in t.reached ≡ Some look → (is_attempt e ≡ true) × (reads_of e ≡ look.reads) → IsAskFor t step (ask.Act look) → IsEntryFor core step e
asked_attempt t (entering p) core look e kept tried is = absurd (cc)
asked_attempt t (waking b) core look e kept tried is = absurd (cc)
asked_attempt t working core look e kept tried is = absurd (no_unit t.reached (ask.Act look) (λ e. absurd (cc)) (λ e. absurd (cc)) is)
asked_attempt t looking core look e kept tried is = absurd (cc)
asked_attempt t (attempting reads) core look e kept tried is =
    let by = subst (λ (o : Option Look). IsSomeAnd o (λ l. (l.reads ≡ reads) × (ask.Act look ≡ ask.Act l))) kept is in (tried.0, tried.1 ∙ by.0)
asked_attempt t over core look e kept tried is = absurd (cc)

module _ (t : TurnState) (v : View) (p : IsPlaying t v) where
  has_run : (r : Reached) → t.reached ≡ r → list_any (λ a. tells_work (Some a)) (filter has_entry (told_behind r)) ≡ true → IsTrue (has_worked (own_entries_in v))
  has_run r is passes = any_of is_work tells_work works (own_in v) (drawn t) p.told.own ∙ (any_drawn t (λ a. tells_work (Some a)) refl refl
      ∙ (ap (λ q. list_any (λ a. tells_work (Some a)) (filter has_entry (told_behind q))) is ∙ passes))

  none_tried : (r : Reached) → t.reached ≡ r → list_any (λ a. tells_attempt (Some a)) (filter has_entry (told_behind r)) ≡ false → IsFalse (has_attempted (own_entries_in v))
  none_tried r is fails = any_of is_attempt tells_attempt attempts (own_in v) (drawn t) p.told.own ∙ (any_drawn t (λ a. tells_attempt (Some a)) refl refl
      ∙ (ap (λ q. list_any (λ a. tells_attempt (Some a)) (filter has_entry (told_behind q))) is ∙ fails))

  module _ (did : Did) (is : t.reached ≡ reached.Worked did) where
    -- the core may look
    pub may_look : MayLook v (core_in v)
    may_look = subst (MayLook v) (sym (core_is v t.core p.told.of_core)) record {
      of_core = p.told.of_core;
      worked = has_run (reached.Worked did) is refl;
      first = none_tried (reached.Worked did) is refl;
      free = p.free;
    }

    module _ (look : Look) (now : View) (seen : LooksAt look v now) where
      pub looked_asked : AsksAsModel v.plan t ask.Look → (u : TurnState) → u ≡ with_told (told.Looked look) t → LooksAsked t u v now
      looked_asked asks u is_now = record { asked = λ h ag. asked_look t (step_after t v h) (asks v h refl p.told ag).next; look = look; looked = seen; told = is_now }

      pub looked_playing : told_so_far (with_told (told.Looked look) t) ≡ told_so_far t ++ told.Looked look ∷ [] → IsPlaying (with_told (told.Looked look) t) now
      looked_playing more =
          let own : now.own ≡ v.own = ap (λ (u : View). u.own) seen.read.is in let plan : now.plan ≡ v.plan = ap (λ (u : View). u.plan) seen.read.is in
          record {
            told = record {
              of_core = record { none_due = p.told.of_core.none_due; role = ap (λ (u : View). u.role) seen.read.is ∙ p.told.of_core.role };
              round = ap (λ (u : View). u.round) seen.read.is ∙ p.told.round;
              own = ap (λ (l : List Logged). map told_of (map (λ (x : Logged). x.entry) l)) own
                  ∙ (p.told.own ∙ ap (map {B = Option Told} Some) (sym (ap (filter has_entry) more ∙ (filter-append has_entry (told_so_far t) (told.Looked look ∷ []) ∙ append-nil (drawn t)))));
              entered = λ id. ap (λ (l : List Logged). list_any (lets_in id) (map (λ (x : Logged). x.entry) l)) own
                  ∙ (p.told.entered id ∙ ap (λ (q : Plan). list_any (λ (u : Planned). u.id == id) (take t.arrived (entering_by q t.core t.round))) (sym plan));
              marked = λ behind. ap (λ (u : View). u.role) seen.read.is ∙ p.told.marked (subst IsBehindThreads (sym is) tt);
            };
            of_plan = subst (λ (q : Plan). IsTurnOf q t) (sym plan) p.of_plan;
            all = λ behind. p.all (subst IsBehindThreads (sym is) tt);
            free = ap (λ (u : View). u.held) seen.read.is ∙ p.free;
            look = subst (HasLook now t.core) (sym (ap (with_look look) is)) (seen.by ∙ core_is v t.core p.told.of_core, seen.looked, seen.last);
          }

  module _ (did : Did) (look : Look) (is : t.reached ≡ reached.Looked did look) where
    kept : (look.by ≡ t.core) × Looked v look × AreLast v look.reads
    kept = subst (HasLook v t.core) is p.look

    -- the core may make its attempt
    pub may_attempt : MayAttempt v look
    may_attempt = record {
      ready = subst (MayLook v) (sym kept.0) record {
        of_core = p.told.of_core;
        worked = has_run (reached.Looked did look) is refl;
        first = none_tried (reached.Looked did look) is refl;
        free = p.free;
      };
      looked = kept.1;
    }

    pub may_try : MayTry v look
    may_try = record { may = may_attempt; last = kept.2 }

    module _ (o : Outcome) (now : View) (tried : Tries look o v now) where
      added : HasAdded t.core (position_of o) (entry_of look o) v now
      added = subst (λ c. HasAdded c (position_of o) (entry_of look o) v now) kept.0 tried.added

      pub tried_playing : told_so_far (with_told told.Acted t) ≡ told_so_far t ++ told.Acted ∷ [] → IsPlaying (with_told told.Acted t) now
      tried_playing more = acted_playing t v now (position_of o) (entry_of look o) p added did look (told_as look o) (lets_none_in look o) is more

      pub tried_asked : AsksAsModel v.plan t (ask.Act look) → (u : TurnState) → u ≡ with_told told.Acted t → AddsAsked t u v now
      tried_asked asks u is_now =
          let n = tried.attempted.drawn.next in
          record {
            at = position_of o;
            added = entry_of look o;
            adds = record { added = added; next = n };
            asked = asked_attempt t (step_after t v n.history) t.core look (entry_of look o) (ap look_in is) (is_tried look o) (asks v n.history refl p.told n.agrees).next;
            answer = told.Acted;
            tells = told_as look o;
            told = is_now;
          }
