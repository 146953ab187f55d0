-- A turn that is over has come to what a whole turn comes to.
use Rattle.std.proofs.Common.{◌≡◌, ℕ, zero, suc, eqb, ◌↔◌, Bool, true, false, List, [], ◌∷◌, filter, length, IsTrue, IsNone, Option, Some, None, refl, sym, ap, ◌∙◌, arith, eq-eqb}
use Rattle.std.specs.List.{list_any}
use Rattle.std.specs.Prelude.{slice_get}
use Rattle.std.proofs.lemmas.Bool.{true≢false}
use Rattle.std.proofs.lemmas.Bool.Decides.{nat_tests}
use Rattle.round_model.specs.declared.entry.Entry.{Entry}
use Rattle.round_model.specs.Entries.{ends}
use Rattle.round_model.specs.Kinds.{is_attempt}
use Rattle.round_model.specs.Scenes.{entering_next, has_attempted}
use Rattle.core_table.specs.declared.views.View.{View}
use Rattle.core_table.specs.Told.{Agrees}
use Rattle.steal_phase.specs.Attempts.{own_entries_in}
use Rattle.core_calls.specs.Steps.{HasLetAllIn}
use Rattle.core_calls.specs.Turns.{HasTurned, is_told}
use Rattle.core_calls.proofs.Turning.{over_by}
use Rattle.turn_steps.specs.declared.reached.Reached.{Reached}
use Rattle.turn_steps.specs.declared.reached.Reached.TheVariants as reached
use Rattle.turn_steps.specs.Answers.{drawn, has_entry}
use Rattle.turn_steps.specs.Reaches.{IsBehindThreads, IsOver, told_behind}
use Rattle.turn_steps.specs.States.{TurnState, entering_by}
use Rattle.turn_steps.specs.Views.{Counts, own_in}
use Rattle.turn_steps.proofs.NextToEnter.{enters_next}
use Rattle.turn_steps.proofs.Telling.{any_drawn, any_of, attempts, tells_attempt}
use Rattle.core_calls.specs.Stepping.{IsPlaying}

behind_all : {X : Type 0} (xs : List X) (n : ℕ) → n ≡ length xs → slice_get xs n ≡ None
behind_all [] n is = refl
behind_all (x ∷ xs) zero is = absurd (omega arith)
behind_all (x ∷ xs) (suc n) is = behind_all xs n (omega arith)

is_none : {X : Type 0} (o : Option X) → o ≡ None → IsNone o
is_none None is = refl
is_none (Some x) is = absurd (cc)

behind_threads : (r : Reached) → IsOver r → IsBehindThreads r
behind_threads reached.Threads over = absurd over
behind_threads reached.NothingDue over = tt
behind_threads (reached.Worked did) over = tt
behind_threads (reached.Looked did look) over = tt
behind_threads (reached.Acted did look) over = tt

tells_it : (r : Reached) → IsOver r → list_any (λ a. tells_attempt (Some a)) (filter has_entry (told_behind r)) ≡ true
tells_it reached.Threads over = absurd over
tells_it reached.NothingDue over = absurd over
tells_it (reached.Worked did) over = absurd over
tells_it (reached.Looked did look) over = absurd over
tells_it (reached.Acted did look) over = refl

-- the thread that is told is the one that ended
told_end : (b : Bool) (o : Option ℕ) (id : ℕ) → IsTrue b ↔ (o ≡ Some id) → b ≡ is_told id o
told_end true None id same = let none = same.0 refl in absurd (cc)
told_end false None id same = refl
told_end b (Some thread) id same = elim (eqb thread id) as (λ c. eqb thread id ≡ c → b ≡ eqb thread id) [
  | true ↦ λ e. let one : thread ≡ id = grind (arith, nat_tests) in same.1 (ap Some one) ∙ sym e
  | false ↦ λ e. fails b (λ is. let one : ◌≡◌ {A = Option ℕ} (Some thread) (Some id) = same.0 is in let other : thread ≡ id = cc in true≢false (sym (eq-eqb thread id other) ∙ e)) ∙ sym e
] refl
  where
    fails : (c : Bool) → (c ≡ true → ⊥) → c ≡ false
    fails true none = absurd (none refl)
    fails false none = refl

module _ (t : TurnState) (v : View) (p : IsPlaying t v) (over : IsOver t.reached) where
  let_in : (h : List Entry) → Agrees v h → HasLetAllIn v t.core
  let_in h ag = is_none (entering_next v.plan v.round t.core (own_entries_in v))
      (ap (λ r. entering_next v.plan r t.core (own_entries_in v)) p.told.round
      ∙ (enters_next v.plan t.round t.core (own_entries_in v) t.arrived ag.fits.distinct p.told.entered
      ∙ behind_all (entering_by v.plan t.core t.round) t.arrived (p.all (behind_threads t.reached over) ∙ p.of_plan)))

  tried : has_attempted (own_entries_in v) ≡ true
  tried = any_of is_attempt tells_attempt attempts (own_in v) (drawn t) p.told.own ∙ (any_drawn t (λ a. tells_attempt (Some a)) refl refl ∙ tells_it t.reached over)

  pub has_turned : (entries : ℕ) (ended : Option ℕ) → Counts (entries, ended) v → HasTurned t.core (record { entries = entries; ended = ended }) v v
  has_turned entries ended counts = record {
    of_core = p.told.of_core;
    free = p.free;
    is_over = λ h ag look. over_by v t.core (p.told.marked (behind_threads t.reached over)) (let_in h ag) tried h ag look;
    attempted = tried;
    entries = counts.entries;
    ended = λ id. told_end (list_any (ends id) (own_entries_in v)) ended id (counts.ended id);
    rest = refl;
  }
