-- What a core that looks just now sees.
use Rattle.std.specs.Prelude.{ℕ, List}
use Rattle.policy_tree.specs.Meaning.{Meaning}
use Rattle.policy_eval.specs.declared.env.CoreValues.{CoreValues}
use Rattle.round_model.specs.declared.entry.Entry.{Entry}
use Rattle.round_model.specs.declared.plan.Plan.{Plan}
use Rattle.round_model.specs.FreshReads.{fresh_reads}
use Rattle.round_model.specs.Reads.{read_values}
use Rattle.round_model.specs.Scenes.{scene_of}
use Rattle.core_moves.specs.Cores.{AreCoresOf, CoresView}

-- the reads of the core that looks just now
abbrev pub reads_now : Meaning → Plan → List Entry → ℕ → List ℕ
reads_now p plan history a = fresh_reads plan history (scene_of p plan history a)

-- what it reads there of each core
abbrev pub values_now : Meaning → Plan → List Entry → ℕ → ℕ → CoreValues
values_now p plan history a = read_values plan (scene_of p plan history a).seen (reads_now p plan history a)

-- what holds of each history that left the cores
abbrev pub OfEach : Meaning → Plan → CoresView → (List Entry → Type 0) → Type 0
OfEach p plan v holds = (history : List Entry) → AreCoresOf p plan history v → holds history
