-- What was told is counted.
use Rattle.std.proofs.Common.{◌≡◌, ℕ, ◌+◌, ◌||◌, ◌↔◌, Bool, true, false, filter, map, length, IsTrue, Option, Some, refl, sym, ap, ◌∙◌, subst, arith}
use Rattle.std.specs.List.{list_any}
use Rattle.std.proofs.lemmas.Bool.Decides.{nat_tests}
use Rattle.std.proofs.lemmas.List.{length-map}
use Rattle.round_model.specs.declared.entry.Did.{Did}
use Rattle.round_model.specs.declared.entry.Did.TheVariants as did
use Rattle.round_model.specs.Entries.{ends, is_ended}
use Rattle.core_state.specs.declared.logged.Logged.{Logged}
use Rattle.core_table.specs.declared.views.View.{View}
use Rattle.turn_steps.specs.declared.asking.Told.{Told}
use Rattle.turn_steps.specs.declared.reached.Reached.{Reached}
use Rattle.turn_steps.specs.declared.reached.Reached.TheVariants as reached
use Rattle.turn_steps.specs.Answers.{drawn, has_entry}
use Rattle.turn_steps.specs.Code.Reaching.{ended_by, ended_in, entries_in}
use Rattle.turn_steps.specs.Reaches.{did_in, told_behind}
use Rattle.turn_steps.specs.States.{TurnState}
use Rattle.turn_steps.specs.Views.{Counts, IsAsTold, own_in, told_of}
use Rattle.turn_steps.proofs.Telling.{any_drawn, any_of, drawn_count, ends_by, tells_end}

ends_one : (d : Did) (id : ℕ) → IsTrue (is_ended id d) ↔ (ended_by d ≡ Some id)
ends_one did.Nothing id = ((λ test. absurd (cc)), (λ is. absurd (cc)))
ends_one (did.Kept thread) id = ((λ test. absurd (cc)), (λ is. absurd (cc)))
ends_one (did.Queued thread) id = ((λ test. absurd (cc)), (λ is. absurd (cc)))
ends_one (did.Blocked thread) id = ((λ test. absurd (cc)), (λ is. absurd (cc)))
ends_one (did.Ended thread) id = ((λ test. let same : thread ≡ id = grind (arith, nat_tests) in ap Some same), (λ is. let same : thread ≡ id = cc in grind (arith, nat_tests)))

or_false : (b : Bool) → (b || false) ≡ b
or_false true = refl
or_false false = refl

-- the thread that ended in the unit, by what was told
ends_behind : (r : Reached) (id : ℕ) → IsTrue (list_any (λ answer. tells_end id (Some answer)) (filter has_entry (told_behind r))) ↔ (ended_in r ≡ Some id)
ends_behind reached.Threads id = ((λ test. absurd (cc)), (λ is. absurd (cc)))
ends_behind reached.NothingDue id = ((λ test. absurd (cc)), (λ is. absurd (cc)))
ends_behind (reached.Worked d) id = subst (λ b. IsTrue b ↔ (ended_by d ≡ Some id)) (sym (or_false (is_ended id d))) (ends_one d id)
ends_behind (reached.Looked d look) id = subst (λ b. IsTrue b ↔ (ended_by d ≡ Some id)) (sym (or_false (is_ended id d))) (ends_one d id)
ends_behind (reached.Acted d look) id = subst (λ b. IsTrue b ↔ (ended_by d ≡ Some id)) (sym (or_false (is_ended id d))) (ends_one d id)

-- the thread that ended in the unit is the one of which that was told
pub ended_as_told : (r : Reached) (o : Option ℕ) → o ≡ ended_in r → (id : ℕ) → (o ≡ Some id) ↔ (did_in r ≡ Some (did.Ended id))
ended_as_told r o is id = subst (λ (x : Option ℕ). (x ≡ Some id) ↔ (did_in r ≡ Some (did.Ended id))) (sym is) (by_case r)
  where
    by_did : (d : Did) → (ended_by d ≡ Some id) ↔ (Some d ≡ Some (did.Ended id))
    by_did did.Nothing = ((λ e. absurd (cc)), (λ e. absurd (cc)))
    by_did (did.Kept thread) = ((λ e. absurd (cc)), (λ e. absurd (cc)))
    by_did (did.Queued thread) = ((λ e. absurd (cc)), (λ e. absurd (cc)))
    by_did (did.Blocked thread) = ((λ e. absurd (cc)), (λ e. absurd (cc)))
    by_did (did.Ended thread) = ((λ e. let same : thread ≡ id = cc in ap (λ k. Some (did.Ended k)) same), (λ e. let same : thread ≡ id = cc in ap Some same))

    by_case : (q : Reached) → (ended_in q ≡ Some id) ↔ (did_in q ≡ Some (did.Ended id))
    by_case reached.Threads = ((λ e. absurd (cc)), (λ e. absurd (cc)))
    by_case reached.NothingDue = ((λ e. absurd (cc)), (λ e. absurd (cc)))
    by_case (reached.Worked d) = by_did d
    by_case (reached.Looked d look) = by_did d
    by_case (reached.Acted d look) = by_did d

-- so many entries, and that thread, are those of the view
pub counts_view : (t : TurnState) (v : View) → IsAsTold t v → (count : ℕ) (ended : Option ℕ) → count ≡ t.arrived + t.woke + entries_in t.reached → ended ≡ ended_in t.reached → Counts (count, ended) v
counts_view t v told count ended all who = record {
  entries =
      let own = length-map v.own (λ (l : Logged). l.entry) in let tells = length-map (own_in v) told_of in let same = ap length told.own in
      let is = drawn_count t in
      let whole : length (map {B = Option Told} Some (drawn t)) ≡ length (drawn t) = length-map (drawn t) Some in
      omega arith;
  ended = λ id.
      subst (λ (x : Bool × Option ℕ). IsTrue x.0 ↔ (x.1 ≡ Some id))
      (λ i. (sym (any_of (ends id) (tells_end id) (ends_by id) (own_in v) (drawn t) told.own ∙ any_drawn t (λ answer. tells_end id (Some answer)) refl refl) i, sym who i))
      (ends_behind t.reached id);
}
