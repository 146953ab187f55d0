-- What bounds the threads and the numbers of every state that a legal history leaves.
use Rattle.std.specs.Prelude.{◌≡◌, ◌≢◌, ℕ, ◌+◌, ◌<◌, ◌≤◌, ◌==◌, nat_lt, Bool, ◌&&◌, ◌||◌, List, All, count_by, length}
use Rattle.std.specs.Prelude.{map, sum, IsFalse, IsTrue}
use Rattle.std.specs.List.{list_any}
use Rattle.sched_base.specs.declared.task.Task.{Task}
use Rattle.policy_tree.specs.Meaning.{Meaning}
use Rattle.policy_eval.specs.Obligations.{MeetsHandlerObligations}
use Rattle.round_model.specs.declared.entry.Entry.{Entry}
use Rattle.round_model.specs.declared.plan.Plan.{Plan}
use Rattle.round_model.specs.declared.plan.Planned.{Planned}
use Rattle.round_model.specs.declared.state.Blocked.{Blocked}
use Rattle.round_model.specs.declared.state.ModelCore.{ModelCore}
use Rattle.round_model.specs.After.{after, round_of}
use Rattle.round_model.specs.Bounds.{IsInBounds, standing_count, standing_total}
use Rattle.round_model.specs.Cores.{Cores, core_numbers, tasks_of}
use Rattle.round_model.specs.Entries.{lets_in}
use Rattle.round_model.specs.Fits.{Fits}
use Rattle.round_model.specs.Legal.{Legal, rounds_begun}
use Rattle.round_model.specs.Phases.{blocked_places_of, places_of}
use Rattle.round_model.specs.Scenes.{is_entering, own_entries}

-- in a legal history the number of the open round is how many rounds have begun
abbrev pub OpenRoundLaw : Type 0
OpenRoundLaw = (p : Meaning) (plan : Plan) (history : List Entry) → Legal p plan history
    → round_of history ≡ rounds_begun history

-- whether the thread has yet to enter: in a later round, or in the open one by its core
abbrev pub is_awaited : List Entry → Planned → Bool
is_awaited history t =
    nat_lt (round_of history) t.round || is_entering (round_of history) t.core (own_entries history t.core) t

-- how many threads stand at a core whose numbers are named, blocked ones counted
abbrev pub named_count : (ℕ → Bool) → ModelCore → ℕ
named_count named core =
    count_by (λ (t : Task). named t.id) (tasks_of core) + count_by (λ (b : Blocked). named b.task.id) core.blocked

-- how many stand at the cores of a plan
abbrev pub named_total : (ℕ → Bool) → Plan → Cores → ℕ
named_total named plan m = sum (map (λ c. named_count named (m c)) (core_numbers plan))

-- whether the thread has entered
abbrev pub has_entered : List Entry → Planned → Bool
has_entered history t = list_any (lets_in t.id) history

-- what holds after a legal history: numbers lie in their ranges, and who stands has entered, once
pub record IsBounded (p : Meaning) (plan : Plan) (history : List Entry) : Type 0 where
  -- each core is in bounds, and no more threads stand than the plan has
  pub bounds : IsInBounds p plan (length plan.threads) (after p plan history)
  -- and so it is of what two cores hold together
  pub two_cores : (a b : ℕ) → a < plan.cores → b < plan.cores → a ≢ b →
      let m = after p plan history in standing_count (m a) + standing_count (m b) ≤ length plan.threads
  -- no more threads stand than have entered
  pub entered : standing_total plan (after p plan history) ≤ count_by (has_entered history) plan.threads
  -- the same of those threads alone whose numbers are named
  pub of_names : (named : ℕ → Bool) → named_total named plan (after p plan history)
      ≤ count_by (λ (t : Planned). named t.id && has_entered history t) plan.threads
  -- who has yet to enter hasn't entered
  pub fresh : All (λ (t : Planned). IsTrue (is_awaited history t) → IsFalse (has_entered history t)) plan.threads
  -- so those that stand and those that have yet to enter are together no more than the plan has
  pub room : standing_total plan (after p plan history) + count_by (is_awaited history) plan.threads
      ≤ length plan.threads
  -- and a thread stands or is blocked in one place at most, and nowhere as long as it has yet to enter
  pub once : (id : ℕ) → let m = after p plan history in places_of plan m id + blocked_places_of plan m id
      + count_by (λ (t : Planned). (t.id == id) && is_awaited history t) plan.threads ≤ 1

-- so it is after every legal history
abbrev pub BoundsLaw : Type 0
BoundsLaw = (p : Meaning) (plan : Plan) (history : List Entry) → Fits p plan → MeetsHandlerObligations p
    → Legal p plan history → IsBounded p plan history
