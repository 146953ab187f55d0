-- All cores of a plan side by side, as a history leaves them.
use Rattle.std.specs.Prelude.{◌≡◌, ℕ, ◌≤◌, List, length, map}
use Rattle.policy_tree.specs.Meaning.{Meaning}
use Rattle.round_model.specs.declared.entry.Entry.{Entry}
use Rattle.round_model.specs.declared.plan.Plan.{Plan}
use Rattle.round_model.specs.After.{after}
use Rattle.round_model.specs.Cores.{Cores, core_numbers}
use Rattle.round_model.specs.Legal.{Legal}
use Rattle.round_model.specs.Limits.{IsWithinLimits}
use Rattle.round_model.specs.Reads.{round_start}
use Rattle.core_state.specs.declared.logged.Logged.{Logged}
use Rattle.core_state.specs.Logs.{log_of, round_log}
use Rattle.core_state.specs.Views.{CoreView}

-- the cores in the order of their numbers, the log of the rounds that began, the position of the next entry, the
-- position just after the last Round, and for how many rounds the log has room
pub record CoresView : Type 0 where
  pub cores : List CoreView
  pub rounds : List Logged
  pub entries : ℕ
  pub start : ℕ
  pub rounds_room : ℕ

-- the core of that number, where these are the cores of the model, and this is the history. Each thread of the plan
-- has room there, and each entry
abbrev pub shown : Meaning → Plan → List Entry → Cores → ℕ → CoreView
shown p plan history m c = record {
  core = m c;
  log = log_of c history;
  order = p.elect;
  room = length plan.threads;
  blocked_room = length plan.threads;
  log_room = plan.limit;
}

-- the cores are these of the model, with the logs of the history. The plan is within the limits
pub record Shows (p : Meaning) (plan : Plan) (history : List Entry) (m : Cores) (v : CoresView) : Type 0 where
  pub cores : v.cores ≡ map (shown p plan history m) (core_numbers plan)
  pub rounds : v.rounds ≡ round_log history
  pub entries : v.entries ≡ length history
  pub start : v.start ≡ round_start history
  pub rounds_room : v.rounds_room ≡ plan.limit
  pub limits : IsWithinLimits plan

-- the whole core of that number after the history
abbrev pub core_view : Meaning → Plan → List Entry → ℕ → CoreView
core_view p plan history c = shown p plan history (after p plan history) c

-- the cores are those that the history leaves
abbrev pub AreCoresOf : Meaning → Plan → List Entry → CoresView → Type 0
AreCoresOf p plan history v = Shows p plan history (after p plan history) v

-- they are those of this history, which is legal and no longer than the plan's limit
pub record IsReachedBy (p : Meaning) (plan : Plan) (history : List Entry) (v : CoresView) : Type 0 where
  pub are : AreCoresOf p plan history v
  pub legal : Legal p plan history
  pub within : length history ≤ plan.limit

-- some history leaves them so
abbrev pub AreReached : Meaning → Plan → CoresView → Type 0
AreReached p plan v = (history : List Entry) × IsReachedBy p plan history v
