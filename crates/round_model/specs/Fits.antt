-- Plans that fit a policy.
use Rattle.std.specs.Prelude.{◌≡◌, ◌≢◌, ℕ, ◌<◌, ◌≤◌, List, [], ◌∷◌, length, All, AllPairs}
use Rattle.sched_base.specs.declared.limits.TheConstants.{MAX_BLOCK_ROUNDS, MAX_BURSTS, MAX_THREADS, MAX_UNITS}
use Rattle.policy_tree.specs.Meaning.{Meaning}
use Rattle.policy_eval.specs.Fitting.{IsWeight}
use Rattle.policy_eval.specs.Ranges.{AreIn, attribute_ranges}
use Rattle.policy_eval.specs.Resolved.{IsResolved}
use Rattle.round_model.specs.declared.plan.Burst.{Burst}
use Rattle.round_model.specs.declared.plan.Ending.{Ending}
use Rattle.round_model.specs.declared.plan.Ending.TheVariants as ending
use Rattle.round_model.specs.declared.plan.OrderLine.{OrderLine}
use Rattle.round_model.specs.declared.plan.Plan.{Plan}
use Rattle.round_model.specs.declared.plan.Planned.{Planned}

-- the ending of a burst that another follows
abbrev pub IsMiddle : Ending → Type 0
IsMiddle ending.Yield = Unit {0}
IsMiddle (ending.Block rounds) = (1 ≤ rounds) × (rounds ≤ MAX_BLOCK_ROUNDS)
IsMiddle ending.End = ⊥
IsMiddle ending.Forever = ⊥

-- the last burst: it has an end, or one unit without end
abbrev pub IsLast : Burst → Ending → Type 0
IsLast b ending.Yield = ⊥
IsLast b (ending.Block rounds) = ⊥
IsLast b ending.End = Unit {0}
IsLast b ending.Forever = b.units ≡ 1

-- the numbers of units lie in their range, and the last burst alone ends the program
abbrev pub IsProgram : List Burst → Type 0
IsProgram [] = ⊥
IsProgram (b ∷ []) = (1 ≤ b.units) × (b.units ≤ MAX_UNITS) × IsLast b b.ending
IsProgram (b ∷ c ∷ rest) = (1 ≤ b.units) × (b.units ≤ MAX_UNITS) × IsMiddle b.ending × IsProgram (c ∷ rest)

-- a thread of a plan
pub record ThreadFits (p : Meaning) (cores : ℕ) (t : Planned) : Type 0 where
  pub id_positive : 1 ≤ t.id
  pub id_small : t.id ≤ MAX_THREADS
  pub core : t.core < cores
  pub weight : IsWeight p t.weight
  pub program : IsProgram t.bursts
  pub few_bursts : length t.bursts ≤ MAX_BURSTS

-- an order line of a plan: any number of its cores
pub record OrderFits (cores : ℕ) (line : OrderLine) : Type 0 where
  pub each : All (λ c. c < cores) line.cores

-- the plan fits the policy: of any number of cores, rounds and entries. Its order lines are of different rounds, and a round takes its own line alone, so that
-- their number needs no bound
pub record Fits (p : Meaning) (plan : Plan) : Type 0 where
  pub policy : IsResolved p
  pub some_cores : 1 ≤ plan.cores
  pub consts_each : length plan.consts ≡ plan.cores
  pub consts : All (AreIn (attribute_ranges p.core_attrs)) plan.consts
  pub few_threads : length plan.threads ≤ MAX_THREADS
  pub threads : All (ThreadFits p plan.cores) plan.threads
  pub distinct : AllPairs (λ (t u : Planned). t.id ≢ u.id) plan.threads
  pub orders : All (OrderFits plan.cores) plan.orders
  pub one_order_each : AllPairs (λ (l k : OrderLine). l.round ≢ k.round) plan.orders
