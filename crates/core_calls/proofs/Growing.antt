-- A view whose own entries are those that were told, once one more was drawn and told.
use Rattle.std.proofs.Common.{◌≡◌, ℕ, ◌==◌, ◌||◌, Bool, true, false, cond, List, [], ◌∷◌, ◌++◌, filter, map, take, Option, Some, refl, sym, ap, ap₂, ◌∙◌, subst, arith, length, length-append}
use Rattle.std.specs.List.{list_any}
use Rattle.std.proofs.lemmas.List.{map-append}
use Rattle.std.proofs.lemmas.List.Elements.{filter-append}
use Rattle.round_model.specs.declared.entry.Did.{Did}
use Rattle.round_model.specs.declared.entry.Entry.{Entry}
use Rattle.round_model.specs.declared.plan.Plan.{Plan}
use Rattle.round_model.specs.declared.plan.Planned.{Planned}
use Rattle.round_model.specs.Entries.{lets_in}
use Rattle.core_table.specs.declared.views.View.{View}
use Rattle.steal_phase.specs.Attempts.{HasAdded, own_entries_in}
use Rattle.core_calls.proofs.Turning.{any_more, own_more}
use Rattle.select_phase.specs.declared.looks.Look.{Look}
use Rattle.turn_steps.specs.declared.asking.Told.{Told}
use Rattle.turn_steps.specs.declared.asking.Told.TheVariants as told
use Rattle.turn_steps.specs.declared.reached.Reached.TheVariants as reached
use Rattle.turn_steps.specs.Answers.{drawn, has_entry, told_so_far, with_told}
use Rattle.turn_steps.specs.Reaches.{IsBehindThreads, with_attempt}
use Rattle.turn_steps.specs.States.{IsTurnOf, TurnState, entering_by}
use Rattle.turn_steps.specs.Views.{own_in, told_of}
use Rattle.core_calls.specs.Stepping.{HasLook, IsPlaying, IsSameTurn, IsToldMore}

pub or_false : (b : Bool) → (b || false) ≡ b
or_false true = refl
or_false false = refl

module _ (t : TurnState) (v now : View) (at : ℕ) (e : Entry) (p : IsPlaying t v) (added : HasAdded t.core at e v now) where
  plan_same : now.plan ≡ v.plan
  plan_same = ap (λ (u : View). u.plan) added.rest

  pub round_now : now.round ≡ t.round
  round_now = ap (λ (u : View). u.round) added.rest ∙ p.told.round

  pub of_plan_now : IsTurnOf now.plan t
  of_plan_now = subst (λ (q : Plan). IsTurnOf q t) (sym plan_same) p.of_plan

  -- the entry is told behind all before
  pub own_now : (answer : Told) → told_of e ≡ Some answer → has_entry answer ≡ true → told_so_far (with_told answer t) ≡ told_so_far t ++ answer ∷ []
      → map told_of (own_in now) ≡ map Some (drawn (with_told answer t))
  own_now answer tells entry more =
      ap (map told_of) (own_more t.core at e v now added)
      ∙ (map-append told_of (own_entries_in v) (e ∷ [])
      ∙ (ap₂ (λ (l : List (Option Told)) (o : Option Told). l ++ o ∷ []) p.told.own tells
      ∙ (sym (map-append Some (drawn t) (answer ∷ []))
      ∙ ap (map {B = Option Told} Some) (ap (λ b. drawn t ++ cond b (answer ∷ []) []) (sym entry) ∙ (sym (filter-append has_entry (told_so_far t) (answer ∷ [])) ∙ ap (filter has_entry) (sym more))))))

  -- who entered has entered still, where the entry lets nobody in
  pub entered_still : ((id : ℕ) → lets_in id e ≡ false) → (id : ℕ) → list_any (lets_in id) (own_in now) ≡ list_any (λ (q : Planned). q.id == id) (take t.arrived (entering_by now.plan t.core t.round))
  entered_still none id =
      any_more (lets_in id) t.core at e v now added
      ∙ (ap (λ b. list_any (lets_in id) (own_entries_in v) || b) (none id) ∙ (or_false (list_any (lets_in id) (own_entries_in v))
      ∙ (p.told.entered id ∙ ap (λ (q : Plan). list_any (λ (u : Planned). u.id == id) (take t.arrived (entering_by q t.core t.round))) (sym plan_same))))

  -- a thread woke
  pub woke_playing : told_of e ≡ Some told.Woke → ((id : ℕ) → lets_in id e ≡ false) → t.reached ≡ reached.Threads → told_so_far (with_told told.Woke t) ≡ told_so_far t ++ told.Woke ∷ []
      → IsPlaying (with_told told.Woke t) now
  woke_playing tells none is more = record {
    told = record { of_core = added.of_core; round = round_now; own = own_now told.Woke tells refl more; entered = entered_still none; marked = λ behind. added.marked (p.told.marked behind) };
    of_plan = of_plan_now;
    all = λ behind. absurd (subst IsBehindThreads is behind);
    free = added.free;
    look = subst (HasLook now t.core) (sym is) tt;
  }

  -- the unit was run
  pub worked_playing : (did : Did) → told_of e ≡ Some (told.Worked did) → ((id : ℕ) → lets_in id e ≡ false) → t.reached ≡ reached.NothingDue
      → told_so_far (with_told (told.Worked did) t) ≡ told_so_far t ++ told.Worked did ∷ [] → IsPlaying (with_told (told.Worked did) t) now
  worked_playing did tells none is more = let all = p.all (subst IsBehindThreads (sym is) tt) in record {
    told = record { of_core = added.of_core; round = round_now; own = own_now (told.Worked did) tells refl more; entered = entered_still none; marked = λ behind. added.marked (p.told.marked (subst IsBehindThreads (sym is) tt)) };
    of_plan = of_plan_now;
    all = λ behind. all;
    free = added.free;
    look = tt;
  }

  -- the attempt was made
  pub acted_playing : (did : Did) (look : Look) → told_of e ≡ Some told.Acted → ((id : ℕ) → lets_in id e ≡ false) → t.reached ≡ reached.Looked did look
      → told_so_far (with_told told.Acted t) ≡ told_so_far t ++ told.Acted ∷ [] → IsPlaying (with_told told.Acted t) now
  acted_playing did look tells none is more = record {
    told = record { of_core = added.of_core; round = round_now; own = own_now told.Acted tells refl more; entered = entered_still none; marked = λ behind. added.marked (p.told.marked (subst IsBehindThreads (sym is) tt)) };
    of_plan = of_plan_now;
    all = λ behind. p.all (subst IsBehindThreads (sym is) tt);
    free = added.free;
    look = subst (HasLook now t.core) (sym (ap with_attempt is)) tt;
  }

-- a turn that was told this is the state in which it is then
pub played_as : (t u : TurnState) (v : View) → u ≡ t → IsPlaying t v → IsPlaying u v
played_as t u v is = subst (λ (x : TurnState). IsPlaying x v) (sym is)

-- a turn that was told something is that of the same core and round
pub same_turn : (answer : Told) (t u : TurnState) → u ≡ with_told answer t → IsSameTurn t u
same_turn told.Arrived t u is = record { core = ap (λ (x : TurnState). x.core) is; round = ap (λ (x : TurnState). x.round) is }
same_turn told.Woke t u is = record { core = ap (λ (x : TurnState). x.core) is; round = ap (λ (x : TurnState). x.round) is }
same_turn told.NothingDue t u is = record { core = ap (λ (x : TurnState). x.core) is; round = ap (λ (x : TurnState). x.round) is }
same_turn (told.Worked did) t u is = record { core = ap (λ (x : TurnState). x.core) is; round = ap (λ (x : TurnState). x.round) is }
same_turn (told.Looked look) t u is = record { core = ap (λ (x : TurnState). x.core) is; round = ap (λ (x : TurnState). x.round) is }
same_turn told.Acted t u is = record { core = ap (λ (x : TurnState). x.core) is; round = ap (λ (x : TurnState). x.round) is }

-- what it was told stands behind what it was told before
pub told_behind_all : (answer : Told) (t u : TurnState) → u ≡ with_told answer t → told_so_far u ≡ told_so_far t ++ answer ∷ [] → told_so_far (with_told answer t) ≡ told_so_far t ++ answer ∷ []
told_behind_all answer t u is more = sym (ap told_so_far is) ∙ more

-- so it was told more
pub told_more : (answer : Told) (t u : TurnState) → told_so_far u ≡ told_so_far t ++ answer ∷ [] → IsToldMore t u
told_more answer t u more = let count = ap length more in let one = length-append (told_so_far t) (answer ∷ []) in omega arith
