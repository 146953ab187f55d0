-- Worked histories whose cores come to rest: one that takes as many rounds as the law allows, one that leaves rest
-- again, and one that takes more rounds than a policy would that looks at the difference of two counts alone.
use Rattle.std.specs.Prelude.{◌≡◌, ℤ, pos, ℕ, ◌-◌, List, [], ◌∷◌, ◌++◌, Option, None, Some, codes, map}
use Rattle.std.specs.Prelude.{replicate, take}
use Rattle.policy_tree.specs.declared.trees.Cmp.TheVariants as cmp
use Rattle.policy_tree.specs.Meaning.{Meaning}
use Rattle.policy_tree.specs.Trees.{CondTree, both, either, minus, number, plus, test, variable}
use Rattle.round_model.specs.declared.entry.Did.TheVariants as did
use Rattle.round_model.specs.declared.entry.Entry.{Entry}
use Rattle.round_model.specs.declared.entry.Entry.TheVariants as entry
use Rattle.round_model.specs.declared.plan.Plan.{Plan}
use Rattle.round_model.specs.declared.plan.Planned.{Planned}
use Rattle.round_model.specs.After.{after}
use Rattle.round_model.specs.Cores.{Cores}
use Rattle.round_model.specs.Legal.{Legal}
use Rattle.round_model.specs.StillRounds.{spread_at}
use Rattle.round_model.specs.Stretches.{IsStillStretch}
use Rattle.rest_laws.specs.LowestFirst.{above, share_above}
use Rattle.sched_report.specs.RoundRows.{round_rows}
use Rattle.sched_report.specs.declared.rows.RoundRow.{RoundRow}
use Rattle.model_tests.specs.Plans.{endless, plan_of}
use Rattle.model_tests.specs.Policies.{basic}
use Rattle.row_tests.specs.TakenLast.{beside}

-- of each round, as it opens: nothing where some core may steal from another, and else the gap between the loads
abbrev pub rests_of : Meaning → Plan → List Entry → List (Option ℕ)
rests_of p plan history = map (λ (row : RoundRow). row.rest) (round_rows p plan history)

-- two cores and two threads on the first of them, let in once the other core's turn is over
abbrev pub two_rounds : Plan
two_rounds = plan_of 2 3 (endless 1 ∷ endless 2 ∷ []) []

abbrev pub met_history : List Entry
met_history =
    entry.Round 1
    ∷ entry.Work 1 did.Nothing
    ∷ entry.Pass 1 (2 ∷ 2 ∷ [])
    ∷ entry.Enter 1 0 0 []
    ∷ entry.Enter 2 0 0 []
    ∷ entry.Work 0 (did.Kept 1)
    ∷ entry.Pass 0 (6 ∷ 6 ∷ [])
    ∷ entry.Round 2
    ∷ entry.Work 0 (did.Kept 1)
    ∷ entry.Pass 0 (9 ∷ 9 ∷ [])
    ∷ entry.Work 1 did.Nothing
    ∷ entry.Steal 1 0 (2 ∷ []) (11 ∷ 11 ∷ [])
    ∷ entry.Round 3
    ∷ entry.Work 0 (did.Kept 1)
    ∷ entry.Pass 0 (14 ∷ 14 ∷ [])
    ∷ entry.Work 1 (did.Kept 2)
    ∷ entry.Pass 1 (16 ∷ 16 ∷ [])
    ∷ []

-- twice the one round before rest is the spread of the stretch
pub record RestBoundMet : Type 0 where
  pub legal : Legal basic two_rounds met_history
  pub stretch : IsStillStretch met_history 2 3
  pub rests : rests_of basic two_rounds met_history ≡ Some 0 ∷ None ∷ Some 0 ∷ []
  pub spread : spread_at basic two_rounds met_history 7 ≡ 2

-- a thread without end that core 0 lets in in round 3
abbrev pub in_round_3 : ℕ → Planned
in_round_3 id = record (endless id) { round = 3 }

-- two cores with a thread each, and two more that come to the first in round 3
abbrev pub late_threads : Plan
late_threads = plan_of 2 5 (endless 1 ∷ beside 2 1 ∷ in_round_3 3 ∷ in_round_3 4 ∷ []) []

abbrev pub left_history : List Entry
left_history =
    entry.Round 1
    ∷ entry.Enter 1 0 0 []
    ∷ entry.Work 0 (did.Kept 1)
    ∷ entry.Pass 0 (3 ∷ 3 ∷ [])
    ∷ entry.Enter 2 1 1 []
    ∷ entry.Work 1 (did.Kept 2)
    ∷ entry.Pass 1 (6 ∷ 6 ∷ [])
    ∷ entry.Round 2
    ∷ entry.Work 0 (did.Kept 1)
    ∷ entry.Pass 0 (9 ∷ 9 ∷ [])
    ∷ entry.Work 1 (did.Kept 2)
    ∷ entry.Pass 1 (11 ∷ 11 ∷ [])
    ∷ entry.Round 3
    ∷ entry.Work 1 (did.Kept 2)
    ∷ entry.Pass 1 (14 ∷ 14 ∷ [])
    ∷ entry.Enter 3 0 0 []
    ∷ entry.Enter 4 0 0 []
    ∷ entry.Work 0 (did.Kept 1)
    ∷ entry.Pass 0 (18 ∷ 18 ∷ [])
    ∷ entry.Round 4
    ∷ entry.Work 0 (did.Kept 1)
    ∷ entry.Pass 0 (21 ∷ 21 ∷ [])
    ∷ entry.Work 1 (did.Kept 2)
    ∷ entry.Steal 1 0 (3 ∷ []) (23 ∷ 23 ∷ [])
    ∷ entry.Round 5
    ∷ entry.Work 0 (did.Kept 1)
    ∷ entry.Pass 0 (26 ∷ 26 ∷ [])
    ∷ entry.Work 1 (did.Kept 2)
    ∷ entry.Pass 1 (28 ∷ 28 ∷ [])
    ∷ []

-- the cores are at rest, leave it by the threads that come, and come to rest again
pub record RestIsLeft : Type 0 where
  pub legal : Legal basic late_threads left_history
  pub rests : rests_of basic late_threads left_history ≡ Some 0 ∷ Some 0 ∷ Some 0 ∷ None ∷ Some 0 ∷ []
  pub stretch : IsStillStretch left_history 4 5

-- self.nr == 0 and victim.nr >= 2, or self.pos == victim.pos + 1 and victim.nr - self.nr >= 2
abbrev pub next_in_chain : CondTree
next_in_chain = either (both (test cmp.Eq (variable 0) (number (pos 0))) (test cmp.Ge (variable 2) (number (pos 2))))
    (both (test cmp.Eq (variable 6) (plus (variable 14) (number (pos 1))))
    (test cmp.Ge (minus (variable 2) (variable 0)) (number (pos 2))))

-- cores stand in a chain. A core that has threads takes from its neighbour alone
abbrev pub chain : Meaning
chain = record basic {
  core_attrs = record { name = codes "pos"; lo = pos 0; hi = pos 3; start = pos 0 } ∷ [];
  filter = next_in_chain;
}

abbrev pub at_place : ℕ → List ℤ
at_place place = pos place ∷ replicate 7 (pos 0)

-- a thread without end that the core lets in in round 1
abbrev pub on_core : (core id : ℕ) → Planned
on_core core id = record (endless id) { core = core }

-- the third of four cores has six threads, and each other one has one
abbrev pub chain_threads : List Planned
chain_threads = on_core 0 1 ∷ on_core 1 2 ∷ map (on_core 2) (3 ∷ 4 ∷ 5 ∷ 6 ∷ 7 ∷ 8 ∷ []) ++ on_core 3 9 ∷ []

abbrev pub chain_plan : Plan
chain_plan = record (plan_of 4 7 chain_threads []) {
  consts = map at_place (3 ∷ 2 ∷ 1 ∷ 0 ∷ []);
}

abbrev pub chain_history : List Entry
chain_history =
    entry.Round 1
    ∷ entry.Enter 1 0 0 []
    ∷ entry.Work 0 (did.Kept 1)
    ∷ entry.Pass 0 (3 ∷ 3 ∷ 3 ∷ 3 ∷ [])
    ∷ entry.Enter 2 1 1 []
    ∷ entry.Work 1 (did.Kept 2)
    ∷ entry.Pass 1 (6 ∷ 6 ∷ 6 ∷ 6 ∷ [])
    ∷ entry.Enter 3 2 2 []
    ∷ entry.Enter 4 2 2 []
    ∷ entry.Enter 5 2 2 []
    ∷ entry.Enter 6 2 2 []
    ∷ entry.Enter 7 2 2 []
    ∷ entry.Enter 8 2 2 []
    ∷ entry.Work 2 (did.Kept 3)
    ∷ entry.Pass 2 (14 ∷ 14 ∷ 14 ∷ 14 ∷ [])
    ∷ entry.Enter 9 3 3 []
    ∷ entry.Work 3 (did.Kept 9)
    ∷ entry.Pass 3 (17 ∷ 17 ∷ 17 ∷ 17 ∷ [])
    ∷ entry.Round 2
    ∷ entry.Work 0 (did.Kept 1)
    ∷ entry.Pass 0 (20 ∷ 20 ∷ 20 ∷ 20 ∷ [])
    ∷ entry.Work 1 (did.Kept 2)
    ∷ entry.Steal 1 2 (4 ∷ []) (22 ∷ 22 ∷ 22 ∷ 22 ∷ [])
    ∷ entry.Work 2 (did.Kept 3)
    ∷ entry.Pass 2 (24 ∷ 24 ∷ 24 ∷ 24 ∷ [])
    ∷ entry.Work 3 (did.Kept 9)
    ∷ entry.Pass 3 (26 ∷ 26 ∷ 26 ∷ 26 ∷ [])
    ∷ entry.Round 3
    ∷ entry.Work 0 (did.Kept 1)
    ∷ entry.Pass 0 (29 ∷ 29 ∷ 29 ∷ 29 ∷ [])
    ∷ entry.Work 1 (did.Kept 2)
    ∷ entry.Steal 1 2 (5 ∷ []) (31 ∷ 31 ∷ 31 ∷ 31 ∷ [])
    ∷ entry.Work 2 (did.Kept 3)
    ∷ entry.Pass 2 (33 ∷ 33 ∷ 33 ∷ 33 ∷ [])
    ∷ entry.Work 3 (did.Kept 9)
    ∷ entry.Pass 3 (35 ∷ 35 ∷ 35 ∷ 35 ∷ [])
    ∷ entry.Round 4
    ∷ entry.Work 1 (did.Kept 2)
    ∷ entry.Pass 1 (38 ∷ 38 ∷ 38 ∷ 38 ∷ [])
    ∷ entry.Work 0 (did.Kept 1)
    ∷ entry.Steal 0 1 (4 ∷ []) (40 ∷ 40 ∷ 40 ∷ 40 ∷ [])
    ∷ entry.Work 2 (did.Kept 3)
    ∷ entry.Pass 2 (42 ∷ 42 ∷ 42 ∷ 42 ∷ [])
    ∷ entry.Work 3 (did.Kept 9)
    ∷ entry.Pass 3 (44 ∷ 44 ∷ 44 ∷ 44 ∷ [])
    ∷ entry.Round 5
    ∷ entry.Work 0 (did.Kept 1)
    ∷ entry.Pass 0 (47 ∷ 47 ∷ 47 ∷ 47 ∷ [])
    ∷ entry.Work 1 (did.Kept 2)
    ∷ entry.Steal 1 2 (6 ∷ []) (49 ∷ 49 ∷ 49 ∷ 49 ∷ [])
    ∷ entry.Work 2 (did.Kept 3)
    ∷ entry.Pass 2 (51 ∷ 51 ∷ 51 ∷ 51 ∷ [])
    ∷ entry.Work 3 (did.Kept 9)
    ∷ entry.Pass 3 (53 ∷ 53 ∷ 53 ∷ 53 ∷ [])
    ∷ entry.Round 6
    ∷ entry.Work 0 (did.Kept 1)
    ∷ entry.Pass 0 (56 ∷ 56 ∷ 56 ∷ 56 ∷ [])
    ∷ entry.Work 1 (did.Kept 2)
    ∷ entry.Pass 1 (58 ∷ 58 ∷ 58 ∷ 58 ∷ [])
    ∷ entry.Work 2 (did.Kept 3)
    ∷ entry.Pass 2 (60 ∷ 60 ∷ 60 ∷ 60 ∷ [])
    ∷ entry.Work 3 (did.Kept 9)
    ∷ entry.Pass 3 (62 ∷ 62 ∷ 62 ∷ 62 ∷ [])
    ∷ entry.Round 7
    ∷ entry.Work 0 (did.Kept 1)
    ∷ entry.Pass 0 (65 ∷ 65 ∷ 65 ∷ 65 ∷ [])
    ∷ entry.Work 1 (did.Kept 2)
    ∷ entry.Pass 1 (67 ∷ 67 ∷ 67 ∷ 67 ∷ [])
    ∷ entry.Work 2 (did.Kept 3)
    ∷ entry.Pass 2 (69 ∷ 69 ∷ 69 ∷ 69 ∷ [])
    ∷ entry.Work 3 (did.Kept 9)
    ∷ entry.Pass 3 (71 ∷ 71 ∷ 71 ∷ 71 ∷ [])
    ∷ []

-- the cores as the stretch begins
abbrev pub chain_cores : Cores
chain_cores = after chain chain_plan (take 18 chain_history)

-- four rounds pass before rest, where a policy that raises the lowest core first would take three at most
pub record ChainTakesFour : Type 0 where
  pub legal : Legal chain chain_plan chain_history
  pub stretch : IsStillStretch chain_history 2 7
  pub rests : rests_of chain chain_plan chain_history
      ≡ Some 0 ∷ None ∷ None ∷ None ∷ None ∷ Some 2 ∷ Some 2 ∷ []
  pub lowest_first : above chain_plan chain_cores 1 - share_above chain_plan chain_cores 1 ≡ 3
