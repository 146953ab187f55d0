-- A turn that is told one thing after the other.
use Rattle.std.proofs.Common.{◌≡◌, ◌+◌, ◌∷◌, [], ◌++◌, ℕ, length, length-append, refl, ap, ◌∙◌, subst}
use Rattle.round_model.specs.declared.plan.Plan.{Plan}
use Rattle.core_table.specs.Logs.{own_log}
use Rattle.turn_steps.specs.declared.asking.Told.{Told}
use Rattle.turn_steps.specs.declared.asking.Told.TheVariants as told
use Rattle.turn_steps.specs.Answers.{told_so_far, with_told}
use Rattle.turn_steps.specs.States.{IsTurnOf, TurnState, first_state}
use Rattle.core_calls.specs.Stepping.{HasLooked}
use Rattle.crew_play.proofs.Handing.{fresh_playing}
use Rattle.turn_tests.specs.declared.memory_calls.MemoryCalls.{MemoryCalls}
use Rattle.turn_tests.specs.Beside.{IsBeside}
use Rattle.turn_tests.specs.Follows.{IsSame}
use Rattle.turn_tests.specs.Memory.{IsReady, core_of, history_of, none_due_in, plan_of, view_of}

-- it is one of the same plan
pub still_of : (plan : Plan) (answer : Told) (t : TurnState) → IsTurnOf plan t → IsTurnOf plan (with_told answer t)
still_of plan told.Arrived t is = is
still_of plan told.Woke t is = is
still_of plan told.NothingDue t is = is
still_of plan (told.Worked did) t is = is
still_of plan (told.Looked look) t is = is
still_of plan told.Acted t is = is

-- one answer more
pub told_more : (answer : Told) (t u : TurnState) (n : ℕ) → told_so_far u ≡ told_so_far t ++ answer ∷ [] → length (told_so_far t) ≡ n → length (told_so_far u) ≡ n + 1
told_more answer t u n more many = ap length more ∙ (length-append (told_so_far t) (answer ∷ []) ∙ ap (λ k. k + 1) many)

-- where a core in memory has done nothing in the round, a turn of which nothing was told is beside it
pub beside_fresh : (Passed : ℕ → ℕ → Type 0) (it : MemoryCalls) → IsReady it → own_log (core_of it) (history_of it) ≡ [] → (t : TurnState) → t ≡ first_state (plan_of it) (core_of it) (view_of it).round → IsBeside Passed it t
beside_fresh Passed it ready fresh t is = record {
  ready = ready;
  playing = fresh_playing (core_of it) (view_of it) t (record { of_core = record { none_due = none_due_in it; role = refl }; own = fresh; free = refl }) is;
  passed = λ looked. absurd (subst (λ (x : TurnState). HasLooked x.reached) is looked);
}

-- what is the same behind one row of calls, and behind a next one, is so behind both
pub same_on : (first now last : MemoryCalls) → IsSame first now → IsSame now last → IsSame first last
same_on first now last one other = record {
  policy = other.policy ∙ one.policy;
  plan = other.plan ∙ one.plan;
  core = other.core ∙ one.core;
  others = λ c apart. other.others c (λ same. apart (same ∙ one.core)) ∙ one.others c apart;
}
