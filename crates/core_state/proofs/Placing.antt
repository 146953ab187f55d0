-- Threads that come to a core and leave it, as the code does it.
use Rattle.std.proofs.Common.{◌≡◌, ℕ, Bool, cond, List, [], ◌∷◌, map, fold, Contains, Option, Some, ℤ, drop, take, find, slice_get, ◌++◌, refl, sym, ap, subst, ◌∙◌, false, eq-eqb, arith}
use Rattle.std.proofs.lemmas.Option.{slice_get_within}
use Rattle.sched_base.specs.declared.task.Task.{Task}
use Rattle.policy_tree.specs.declared.typed.Event.{Event}
use Rattle.policy_tree.specs.declared.typed.Put.{Put}
use Rattle.policy_tree.specs.Meaning.{Meaning}
use Rattle.policy_eval.specs.Events.{outcomes_of}
use Rattle.round_model.specs.declared.entry.Did.{Did}
use Rattle.round_model.specs.declared.state.Blocked.{Blocked}
use Rattle.round_model.specs.declared.state.ModelCore.{ModelCore}
use Rattle.round_model.specs.Updates.{IsFirstAt}
use Rattle.round_model.specs.Moves.{core_after_event, is_blocked_task, with_outcome, with_task, without_first as first_left_out}
use Rattle.round_model.specs.Work.{did_of, met}
use Rattle.run_queue.specs.Tasks.{QueueView, without_first}
use Rattle.run_queue.proofs.Scanning.{find-here, without_first-here}
use Rattle.core_state.specs.declared.logged.Logged.{Logged}
use Rattle.core_state.specs.Views.{CoreView}

-- the two names for the list without the first item that passes
pub same_rest : {X : Type 0} (test : X → Bool) (xs : List X) → without_first test xs ≡ first_left_out test xs
same_rest test [] = refl
same_rest test (x ∷ xs) = ap (λ rest. cond (test x) xs (x ∷ rest)) (same_rest test xs)

-- with one outcome the thread is put once
pub met_core : (p : Meaning) (e : Event) (wake : ℕ) (t : Task) (core : ModelCore) (outcome : Task × Put)
    → outcomes_of p e false core.consts t ≡ outcome ∷ [] → with_task outcome.1 wake outcome.0 core ≡ (met p e wake t core).core
unfolding core_after_event
met_core p e wake t core outcome one = sym (ap (fold (with_outcome wake) core) one)

-- and one word is said of it
pub met_did : (p : Meaning) (e : Event) (wake : ℕ) (t : Task) (core : ModelCore) (outcome : Task × Put) (did : Did)
    → outcomes_of p e false core.consts t ≡ outcome ∷ [] → outcome.0.id ≡ t.id → did ≡ did_of outcome.0.id outcome
    → Contains (met p e wake t core).dids did
met_did p e wake t core outcome did one same is =
    let dids : (met p e wake t core).dids ≡ did ∷ [] = ap (map (did_of t.id)) one ∙ ap (λ d. d ∷ []) (sym (is ∙ ap (λ id. did_of id outcome) same)) in
    subst (λ (all : List Did). Contains all did) (sym dids) (0, omega arith, refl)

-- a core of these parts, as a contract sees it
abbrev pub viewed : Option Task → QueueView → List Blocked → ℕ → List ℤ → List Logged → ℕ → CoreView
viewed current queue blocked blocked_room consts log log_room = record {
  core = record { current = current; queue = queue.tasks; blocked = blocked; consts = consts };
  log = log;
  order = queue.order;
  room = queue.room;
  blocked_room = blocked_room;
  log_room = log_room;
}

-- the place of the first blocked task of a number
pub first_blocked : (thread at : ℕ) (blocked : List Blocked) (b : Blocked) → slice_get blocked at ≡ Some b → b.task.id ≡ thread
    → find (is_blocked_task thread) (drop at blocked) ≡ find (is_blocked_task thread) blocked
    → first_left_out (is_blocked_task thread) blocked ≡ take at blocked ++ first_left_out (is_blocked_task thread) (drop at blocked)
    → IsFirstAt (is_blocked_task thread) blocked at
first_blocked thread at blocked b there same found rest = record {
  inside = slice_get_within blocked at b there;
  found = sym found ∙ find-here (is_blocked_task thread) blocked at b there (eq-eqb b.task.id thread same);
  rest = rest ∙ ap (λ (back : List Blocked). take at blocked ++ back)
      (sym (same_rest (is_blocked_task thread) (drop at blocked)) ∙ without_first-here (is_blocked_task thread) blocked at b there (eq-eqb b.task.id thread same));
}
