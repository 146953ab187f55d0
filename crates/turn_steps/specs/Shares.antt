-- Which cores each of a few workers plays.
use Rattle.std.specs.Prelude.{◌≡◌, ℕ, ◌+◌, ◌*◌, ◌/◌, ◌<◌, ◌≤◌}

-- the first core of that worker. Behind the last worker it is the number of cores
unfoldable pub first_of : (cores workers worker : ℕ) → ℕ
first_of cores workers worker = worker * cores / workers

-- the worker plays the core: it is none before its first, and before the first of the next
pub record Plays (cores workers worker core : ℕ) : Type 0 where
  pub from : first_of cores workers worker ≤ core
  pub below : core < first_of cores workers (worker + 1)

-- one of so many workers plays the core, and no other does
pub record HasOneWorker (cores workers core : ℕ) : Type 0 where
  pub worker : ℕ
  pub there : worker < workers
  pub plays : Plays cores workers worker core
  pub only : (other : ℕ) → other < workers → Plays cores workers other core → other ≡ worker

abbrev pub OneWorkerLaw : Type 0
OneWorkerLaw = (cores workers core : ℕ) → 1 ≤ workers → core < cores → HasOneWorker cores workers core

-- where there are no more workers than cores, each of them plays one at least
abbrev pub SharesLaw : Type 0
SharesLaw = (cores workers worker : ℕ) → workers ≤ cores → worker < workers →
    Plays cores workers worker (first_of cores workers worker)
