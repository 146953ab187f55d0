-- What some history that a view agrees with gives.
use Rattle.std.proofs.Common.{◌≡◌, ℕ, ◌+◌, ◌*◌, ◌<◌, ◌≤◌, ◌++◌, drop, length, map, replicate, Some, ap, subst, arith, length-append}
use Rattle.std.proofs.lemmas.Grind.{not_there}
use Rattle.std.proofs.lemmas.List.{length-drop, length-map, length-replicate}
use mathlib.Core.Logic.{dite}
use native.Mathlib.Decide.{ℕ_discrete}
use Rattle.sched_base.specs.declared.limits.TheConstants.{MAX_ENTRIES}
use Rattle.round_model.specs.Entries.{acts}
use Rattle.round_model.specs.Reads.{round_start}
use Rattle.core_state.specs.declared.logged.Logged.{Logged}
use Rattle.core_table.specs.declared.views.View.{View}
use Rattle.core_table.specs.Told.{IsKnown, IsTrueRole}
use Rattle.core_table.specs.Views.{meaning_in}
use Rattle.core_table.proofs.Histories.{log_short}
use Rattle.core_table.proofs.Known.{le_by}
use Rattle.turn_steps.specs.declared.asking.Told.TheVariants as told
use Rattle.turn_steps.specs.declared.reached.Reached.{Reached}
use Rattle.turn_steps.specs.declared.reached.Reached.TheVariants as reached
use Rattle.turn_steps.specs.Answers.{drawn, told_so_far}
use Rattle.turn_steps.specs.Code.Reaching.{entries_in}
use Rattle.turn_steps.specs.Reaches.{told_behind}
use Rattle.turn_steps.specs.States.{TurnState}
use Rattle.turn_steps.specs.Views.{IsAsTold, own_in, told_of}
use Rattle.turn_steps.proofs.Telling.{drawn_count}

-- numbers that are the same by some history are the same
pub eq_by : {P : Type 0} (a b : ℕ) → ∥ P ∥₁ → (P → a ≡ b) → a ≡ b
eq_by a b known by_it = dite (ℕ_discrete a b) (λ same. same) (λ differ. absurd (not_there known (λ k. differ (by_it k))))

own_small : (v : View) (t : TurnState) → IsAsTold t v → IsKnown v → length v.own ≤ MAX_ENTRIES
own_small v t said (h, ag) =
    let core = subst (IsTrueRole (meaning_in v) v.plan h v.own) said.of_core.role ag.role in let own = ap length core.is_own in
    let short = log_short (acts t.core) (round_start h) (drop (round_start h) h) in let rest = length-drop (round_start h) h in
    let room = ag.reserve in let most = ag.limits.few_entries in
    omega arith

own_within : (v : View) (t : TurnState) → IsAsTold t v → IsKnown v → length v.own ≤ v.plan.limit
own_within v t said (h, ag) =
    let core = subst (IsTrueRole (meaning_in v) v.plan h v.own) said.of_core.role ag.role in let own = ap length core.is_own in
    let short = log_short (acts t.core) (round_start h) (drop (round_start h) h) in let rest = length-drop (round_start h) h in
    let room = ag.reserve in omega arith

-- beside the entries two things are told
told_own : (t : TurnState) (v : View) → IsAsTold t v → length (told_so_far t) ≤ length v.own + 2
told_own t v said =
    let entries = length-map v.own (λ (l : Logged). l.entry) in let tells = length-map (own_in v) told_of in let same = ap length said.own in
    let whole : length (map Some (drawn t)) ≡ length (drawn t) = length-map (drawn t) Some in let count = drawn_count t in
    let all = length-append (replicate t.arrived told.Arrived) (replicate t.woke told.Woke ++ told_behind t.reached) in
    let behind = length-append (replicate t.woke told.Woke) (told_behind t.reached) in
    let first = length-replicate t.arrived told.Arrived in let second = length-replicate t.woke told.Woke in let most = two_more t.reached in
    omega arith
  where
    two_more : (r : Reached) → length (told_behind r) ≤ entries_in r + 2
    two_more reached.Threads = omega arith
    two_more reached.NothingDue = omega arith
    two_more (reached.Worked did) = omega arith
    two_more (reached.Looked did look) = omega arith
    two_more (reached.Acted did look) = omega arith

-- fewer answers were told than a turn may be told
pub told_few : (t : TurnState) (v : View) → IsAsTold t v → ∥ IsKnown v ∥₁ → length (told_so_far t) < 2 * MAX_ENTRIES
told_few t v said known =
    let own = le_by (length v.own) MAX_ENTRIES known (own_small v t said) in let all = told_own t v said in omega arith

-- and no more than the plan's limit and two
pub told_within : (t : TurnState) (v : View) → IsAsTold t v → ∥ IsKnown v ∥₁ → length (told_so_far t) ≤ v.plan.limit + 2
told_within t v said known =
    let own = le_by (length v.own) v.plan.limit known (own_within v t said) in let all = told_own t v said in omega arith
