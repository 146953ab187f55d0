-- Plans as they are drawn: a few cores, and threads of weight 1.
use Rattle.std.specs.Prelude.{◌≡◌, ℕ, ◌+◌, ◌<◌, ◌≤◌, List, [], length, replicate, slice_index_or}
use Rattle.policy_eval.specs.Sights.{no_attributes}
use Rattle.round_model.specs.declared.plan.Plan.{Plan}
use Rattle.round_model.specs.declared.plan.Planned.{Planned}
use Rattle.round_model.specs.Fits.{IsProgram}

-- the thread of that number: weight 1, a program of at most two bursts, and let in by one of so many cores
pub record IsMember (cores number : ℕ) (t : Planned) : Type 0 where
  pub id : t.id ≡ number
  pub core : t.core < cores
  pub weight : t.weight ≡ 1
  pub program : IsProgram t.bursts
  pub few_bursts : length t.bursts ≤ 2

-- the threads are numbered by their places, from 1
abbrev pub AreMembers : ℕ → List Planned → Type 0
AreMembers cores threads = (k : ℕ) (d : Planned) → k < length threads →
    IsMember cores (k + 1) (slice_index_or threads k d)

-- a plan of a few rounds, a few cores and a few such threads
pub record IsDrawn (plan : Plan) : Type 0 where
  pub some_cores : 1 ≤ plan.cores
  pub few_cores : plan.cores ≤ 4
  pub rounds : plan.rounds ≡ 6
  pub limit : plan.limit ≡ 1024
  pub consts : plan.consts ≡ replicate plan.cores no_attributes
  pub few_threads : length plan.threads ≤ 16
  pub threads : AreMembers plan.cores plan.threads
  pub orders : plan.orders ≡ []
