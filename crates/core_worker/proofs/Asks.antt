-- What a turn asks next, as facts of the moment.
use Rattle.std.proofs.Common.{◌≡◌, ℕ, Bool, true, false, cond, List, Option, Some, None, option_map, ap, refl, sym, ◌∙◌}
use Rattle.policy_tree.specs.Meaning.{Meaning}
use Rattle.round_model.specs.declared.entry.Entry.{Entry}
use Rattle.round_model.specs.declared.plan.Plan.{Plan}
use Rattle.round_model.specs.declared.plan.Planned.{Planned}
use Rattle.round_model.specs.declared.state.Blocked.{Blocked}
use Rattle.round_model.specs.After.{after, round_of}
use Rattle.round_model.specs.Scenes.{Scene, entering_next, has_attempted, has_worked, own_entries, scene_of, waking_next}
use Rattle.serial_steps.specs.TurnSteps.{TurnStep, attempting, entering, looking, over}
use Rattle.serial_steps.specs.TurnSteps.{step_behind_unit, step_to_enter, step_to_wake, turn_step_of, waking, working}
use Rattle.serial_steps.specs.Serial.{SerialState}
use Rattle.core_worker.specs.Runs.{Enters, IsLate, OwesLook, OwesUnit, Wakes, turn_step_at}

-- whether no thread is left to enter or to wake
abbrev is_late : TurnStep → Bool
is_late (entering t) = false
is_late (waking b) = false
is_late working = true
is_late looking = true
is_late (attempting reads) = true
is_late over = true

-- behind those steps, where the attempt was made or not, and the unit
abbrev step_by : (attempted worked : Bool) → Option (List ℕ) → TurnStep
step_by attempted worked look = cond attempted over (cond worked (step_behind_unit look) working)

late_is : (x y : Bool) (look : Option (List ℕ)) → is_late (step_by x y look) ≡ true
late_is true y look = refl
late_is false false look = refl
late_is false true None = refl
late_is false true (Some reads) = refl

unit_by : (x y : Bool) (look : Option (List ℕ)) → step_by x y look ≡ working → (x ≡ false) × (y ≡ false)
unit_by true y look is = absurd (cc)
unit_by false false look is = (refl, refl)
unit_by false true None is = absurd (cc)
unit_by false true (Some reads) is = absurd (cc)

look_by : (x y : Bool) (look : Option (List ℕ)) → step_by x y look ≡ looking → (x ≡ false) × (y ≡ true) × (look ≡ None)
look_by true y look is = absurd (cc)
look_by false false look is = absurd (cc)
look_by false true None is = (refl, refl, refl)
look_by false true (Some reads) is = absurd (cc)

attempt_by : (x y : Bool) (look : Option (List ℕ)) (made : List ℕ) → step_by x y look ≡ attempting made → (x ≡ false) × (y ≡ true)
attempt_by true y look made is = absurd (cc)
attempt_by false false look made is = absurd (cc)
attempt_by false true None made is = absurd (cc)
attempt_by false true (Some reads) made is = (refl, refl)

-- what the next thread to wake is, by what is asked
woken_none : (own : List Entry) (look : Option (List ℕ)) (next : Option Blocked) → is_late (step_to_wake own look next) ≡ true → next ≡ None
woken_none own look None late = refl
woken_none own look (Some b) late = absurd (cc)

woken_some : (own : List Entry) (look : Option (List ℕ)) (next : Option Blocked) (b : Blocked) → step_to_wake own look next ≡ waking b → next ≡ Some b
woken_some own look None b is = let wrong : true ≡ false = sym (late_is (has_attempted own) (has_worked own) look) ∙ ap is_late is in absurd (cc)
woken_some own look (Some c) b is = let same : c ≡ b = cc in ap Some same

never_enters : (own : List Entry) (look : Option (List ℕ)) (next : Option Blocked) (t : Planned) → step_to_wake own look next ≡ entering t → ⊥
never_enters own look None t is = let wrong : true ≡ false = sym (late_is (has_attempted own) (has_worked own) look) ∙ ap is_late is in absurd (cc)
never_enters own look (Some c) t is = absurd (cc)

module _ (s : Scene) (a : ℕ) (look : Option (List ℕ)) where
  -- and the next to enter
  entered_none : (next : Option Planned) → is_late (step_to_enter s a look next) ≡ true → (next ≡ None) × (waking_next s.round (s.cores a) ≡ None)
  entered_none None late = (refl, woken_none s.own look (waking_next s.round (s.cores a)) late)
  entered_none (Some t) late = absurd (cc)

  entered_some : (next : Option Planned) (t : Planned) → step_to_enter s a look next ≡ entering t → next ≡ Some t
  entered_some None t is = absurd (never_enters s.own look (waking_next s.round (s.cores a)) t is)
  entered_some (Some u) t is = let same : u ≡ t = cc in ap Some same

  entered_before : (next : Option Planned) (b : Blocked) → step_to_enter s a look next ≡ waking b → (next ≡ None) × (waking_next s.round (s.cores a) ≡ Some b)
  entered_before None b is = (refl, woken_some s.own look (waking_next s.round (s.cores a)) b is)
  entered_before (Some u) b is = absurd (cc)

module _ (p : Meaning) (plan : Plan) (s : SerialState) (a : ℕ) where
  abbrev own : List Entry
  own = own_entries s.history a

  -- no thread is left to enter or to wake
  pub record IsBehind : Type 0 where
    pub entered : entering_next plan (round_of s.history) a own ≡ None
    pub woken : waking_next (round_of s.history) (after p plan s.history a) ≡ None

  -- the unit is to come
  pub record IsBeforeUnit : Type 0 where
    pub late : IsBehind
    pub first : has_attempted own ≡ false
    pub none : has_worked own ≡ false

  -- the unit has come, but not the attempt
  pub record IsBeforeAttempt : Type 0 where
    pub late : IsBehind
    pub first : has_attempted own ≡ false
    pub worked : has_worked own ≡ true

  behind : is_late (turn_step_at p plan a s) ≡ true → IsBehind
  unfolding turn_step_of scene_of
  behind late =
      let none = entered_none (scene_of p plan s.history a) a (s.looks a) (entering_next plan (round_of s.history) a own) late in
      record { entered = none.0; woken = none.1 }

  pub asks_late : IsBehind → IsLate p plan a s
  unfolding turn_step_of scene_of
  asks_late none = ap (step_to_enter (scene_of p plan s.history a) a (s.looks a)) none.entered ∙ ap (step_to_wake own (s.looks a)) none.woken

  pub of_late : IsLate p plan a s → IsBehind
  of_late late = behind (ap is_late late ∙ late_is (has_attempted own) (has_worked own) (s.looks a))

  pub of_unit : OwesUnit p plan a s → IsBeforeUnit
  of_unit step =
      let late = behind (ap is_late step) in
      let facts = unit_by (has_attempted own) (has_worked own) (s.looks a) (sym (asks_late late) ∙ step) in
      record { late = late; first = facts.0; none = facts.1 }

  pub of_look : OwesLook p plan a s → IsBeforeAttempt × (s.looks a ≡ None)
  of_look step =
      let late = behind (ap is_late step) in
      let facts = look_by (has_attempted own) (has_worked own) (s.looks a) (sym (asks_late late) ∙ step) in
      (record { late = late; first = facts.0; worked = facts.1 }, facts.2)

  pub of_attempt : (reads : List ℕ) → turn_step_at p plan a s ≡ attempting reads → IsBeforeAttempt
  of_attempt reads step =
      let late = behind (ap is_late step) in
      let facts = attempt_by (has_attempted own) (has_worked own) (s.looks a) reads (sym (asks_late late) ∙ step) in
      record { late = late; first = facts.0; worked = facts.1 }

  pub of_entering : (thread : ℕ) → Enters p plan a thread s → Some thread ≡ option_map (λ (t : Planned). t.id) (entering_next plan (round_of s.history) a own)
  unfolding turn_step_of scene_of
  of_entering thread is =
      let next = entered_some (scene_of p plan s.history a) a (s.looks a) (entering_next plan (round_of s.history) a own) is.planned is.step in
      sym (ap (option_map (λ (t : Planned). t.id)) next ∙ ap Some is.named)

  pub record IsWaking (thread : ℕ) : Type 0 where
    pub entered : entering_next plan (round_of s.history) a own ≡ None
    pub next : Some thread ≡ option_map (λ (b : Blocked). b.task.id) (waking_next (round_of s.history) (after p plan s.history a))

  pub of_waking : (thread : ℕ) → Wakes p plan a thread s → IsWaking thread
  unfolding turn_step_of scene_of
  of_waking thread is =
      let next = entered_before (scene_of p plan s.history a) a (s.looks a) (entering_next plan (round_of s.history) a own) is.blocked is.step in
      record { entered = next.0; next = sym (ap (option_map (λ (b : Blocked). b.task.id)) next.1 ∙ ap Some is.named) }

  -- and back
  pub asks_entering : (thread : ℕ) → Some thread ≡ option_map (λ (t : Planned). t.id) (entering_next plan (round_of s.history) a own) → Enters p plan a thread s
  unfolding turn_step_of scene_of
  asks_entering thread is = by_next (entering_next plan (round_of s.history) a own) refl is
    where
      by_next : (next : Option Planned) → entering_next plan (round_of s.history) a own ≡ next → Some thread ≡ option_map (λ (t : Planned). t.id) next → Enters p plan a thread s
      by_next None there is = absurd (cc)
      by_next (Some t) there is = record { planned = t; named = (let same : t.id ≡ thread = cc in same); step = ap (step_to_enter (scene_of p plan s.history a) a (s.looks a)) there }

  pub asks_waking : (thread : ℕ) → IsWaking thread → Wakes p plan a thread s
  unfolding turn_step_of scene_of
  asks_waking thread is = by_next (waking_next (round_of s.history) (after p plan s.history a)) refl is.next
    where
      by_next : (next : Option Blocked) → waking_next (round_of s.history) (after p plan s.history a) ≡ next → Some thread ≡ option_map (λ (b : Blocked). b.task.id) next → Wakes p plan a thread s
      by_next None there next = absurd (cc)
      by_next (Some b) there next = record {
        blocked = b;
        named = (let same : b.task.id ≡ thread = cc in same);
        step = ap (step_to_enter (scene_of p plan s.history a) a (s.looks a)) is.entered ∙ ap (step_to_wake own (s.looks a)) there;
      }
