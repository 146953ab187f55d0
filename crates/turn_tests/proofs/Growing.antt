-- What a core's view tells of a history in memory, and how both grow.
use Rattle.std.proofs.Common.{◌≡◌, ℕ, ◌+◌, ◌<◌, ◌≤◌, true, false, Bool, cond, List, [], ◌∷◌, ◌++◌, find, count_by, length, Some, IsTrue, refl, sym, ap, ◌∙◌, subst, arith, eq-eqb}
use Rattle.std.specs.Prelude.{IsNone}
use Rattle.std.proofs.lemmas.List.Sums.{sum_by-cons}
use mathlib.Core.Option.{some-ne-none}
use Rattle.policy_tree.specs.declared.typed.Policy.{Policy}
use Rattle.policy_tree.specs.Meaning.{Meaning, meaning_of}
use Rattle.policy_eval.specs.Obligations.{MeetsHandlerObligations}
use Rattle.round_model.specs.declared.entry.Entry.{Entry}
use Rattle.round_model.specs.declared.plan.Plan.{Plan}
use Rattle.round_model.specs.After.{after, round_of}
use Rattle.round_model.specs.Entries.{acting_core}
use Rattle.round_model.specs.Fits.{Fits}
use Rattle.round_model.specs.Legal.{Legal, LegalNext, rounds_begun}
use Rattle.round_model.specs.Limits.{IsWithinLimits}
use Rattle.round_model.specs.Owed.{owed_total}
use Rattle.round_model.specs.Scenes.{is_due_blocked, waking_next}
use Rattle.round_model.proofs.Acting.{acts_is, no_round, round_stays}
use Rattle.round_model.proofs.Counting.{counted}
use Rattle.round_model.proofs.Changed.{none_falls_due}
use Rattle.round_model.proofs.Grows.{legal_grows}
use Rattle.round_model.proofs.Longer.{begun_more, round_of_more, start_stays}
use Rattle.round_model.proofs.OwedTotals.{reserve_kept, room_for}
use Rattle.round_model.proofs.Owing.{none_found}
use Rattle.serial_steps.specs.Turns.{HasWoken}
use Rattle.core_state.specs.Logs.{logged}
use Rattle.core_table.specs.Logs.{own_log}
use Rattle.core_table.specs.Told.{Agrees}
use Rattle.core_table.proofs.Histories.{longer, own_grows}
use Rattle.core_table.proofs.Positions.{above}
use Rattle.core_calls.specs.Steps.{AddsNext}
use Rattle.turn_tests.specs.Memory.{viewed}
use Rattle.turn_tests.proofs.Rows.{notes_grow, notes_true}

-- where none passes none is found
unfound : {X : Type 0} (test : X → Bool) (xs : List X) → count_by test xs ≡ 0 → IsNone (find test xs)
unfound test [] is = refl
unfound test (x ∷ xs) is =
    let cons : count_by test (x ∷ xs) ≡ counted (test x) + count_by test xs = sum_by-cons (λ y. counted (test y)) x xs in
    elim (test x) as (λ b. test x ≡ b → IsNone (cond b (Some x) (find test xs))) [
      | true ↦ λ yes. let one : counted (test x) ≡ 1 = ap counted yes in absurd (omega arith)
      | false ↦ λ no. let nought : counted (test x) ≡ 0 = ap counted no in unfound test xs (omega arith)
    ] refl

-- the history is one that the view tells of
pub told : (policy : Policy) (plan : Plan) (core : ℕ) (h : List Entry) (none_due : Bool) → Fits (meaning_of policy) plan → IsWithinLimits plan → MeetsHandlerObligations (meaning_of policy) → Legal (meaning_of policy) plan h
    → length h + owed_total (meaning_of policy) plan h ≤ plan.limit → core < plan.cores → 0 < rounds_begun h → (IsTrue none_due → HasWoken (meaning_of policy) plan h core)
    → Agrees (viewed policy plan core h none_due) h
told policy plan core h none_due fits limits handlers legal reserve there begun due = record {
  fits = fits;
  limits = limits;
  handlers = handlers;
  legal = legal;
  reserve = reserve;
  dated = record { round = refl; start = refl };
  role = record { there = there; begun = begun; is_own = refl; due = due };
  notes = notes_true (meaning_of policy) plan h;
  held = λ i x at. absurd (some-ne-none x (sym at));
}

-- One entry more of the core a.
module _ (p : Meaning) (plan : Plan) (fits : Fits p plan) (h : List Entry) (e : Entry) (a : ℕ) (acting : acting_core e ≡ Some a) where
  pub round_same : round_of (h ++ e ∷ []) ≡ round_of h
  round_same = round_of_more h e ∙ round_stays e a (round_of h) acting

  pub begun_same : rounds_begun (h ++ e ∷ []) ≡ rounds_begun h
  begun_same = begun_more h e ∙ (ap (λ b. rounds_begun h + cond b 1 0) (no_round e a acting) ∙ omega arith)

  -- who isn't due doesn't fall due
  pub due_stays : (c : ℕ) → HasWoken p plan h c → HasWoken p plan (h ++ e ∷ []) c
  unfolding waking_next
  due_stays c is =
      let few = (none_falls_due p plan h e fits).no_more c in let old = none_found (is_due_blocked (round_of h)) (after p plan h c).blocked is in
      subst (λ (q : ℕ). IsNone (find (is_due_blocked q) (after p plan (h ++ e ∷ []) c).blocked)) (sym round_same) (unfound (is_due_blocked (round_of h)) (after p plan (h ++ e ∷ []) c).blocked (omega arith))

module _ (policy : Policy) (plan : Plan) (core : ℕ) (h : List Entry) (none_due : Bool) (e : Entry) (acting : acting_core e ≡ Some core) (ag : Agrees (viewed policy plan core h none_due) h) (next : LegalNext (meaning_of policy) plan h e) where
  abbrev p : Meaning
  p = meaning_of policy

  longer_legal : Legal p plan (h ++ e ∷ [])
  longer_legal = legal_grows.grows p plan h e ag.legal next

  pub longer_told : Agrees (viewed policy plan core (h ++ e ∷ []) none_due) (h ++ e ∷ [])
  longer_told =
      let long = longer h e in let owes = reserve_kept p plan h e core ag.fits ag.handlers ag.legal next acting ag.role.there in let room : length h + owed_total p plan h ≤ plan.limit = ag.reserve in let begun = ag.role.begun in let same = begun_same p plan ag.fits h e core acting in
      told policy plan core (h ++ e ∷ []) none_due ag.fits ag.limits ag.handlers longer_legal (omega arith) ag.role.there (omega arith)
      (λ marked. due_stays p plan ag.fits h e core acting core (ag.role.due marked))

  -- the view is the one with that entry more
  pub adds_one : AddsNext core (length h) e (viewed policy plan core h none_due) (viewed policy plan core (h ++ e ∷ []) none_due)
  adds_one = let notes = notes_grow p plan h e (no_round e core acting) in record {
    added = record {
      own = own_grows core h e (no_round e core acting) ∙ ap (λ b. own_log core h ++ cond b (logged (length h) e ∷ []) []) (acts_is e core core acting ∙ eq-eqb core core refl);
      free = refl;
      of_core = record { none_due = none_due; role = refl };
      marked = λ marked. marked;
      more = notes.0;
      notes = notes.1;
      rest = λ i. record (viewed policy plan core (h ++ e ∷ []) none_due) { round = round_same p plan ag.fits h e core acting i; start = start_stays h e (no_round e core acting) i };
    };
    next = record {
      history = h;
      agrees = ag;
      position = refl;
      legal = longer_legal;
      above = above (viewed policy plan core h none_due) h (length h) ag refl (room_for p plan h e core plan.limit ag.fits ag.handlers ag.legal next acting ag.role.there ag.reserve);
    };
  }
