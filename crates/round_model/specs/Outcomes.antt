-- Attempts and places of threads by reads, as they are computed.
use Rattle.std.specs.Prelude.{◌≡◌, ℕ, List, length, Option, Some, MatchOption}
use Rattle.policy_tree.specs.Meaning.{Meaning}
use Rattle.policy_eval.specs.declared.env.CoreValues.{CoreValues}
use Rattle.round_model.specs.declared.attempt.Attempt.{Attempt}
use Rattle.round_model.specs.declared.attempt.Attempt.TheVariants as attempt
use Rattle.round_model.specs.declared.entry.Entry.{Entry}
use Rattle.round_model.specs.declared.entry.Entry.TheVariants as entry
use Rattle.round_model.specs.declared.plan.Plan.{Plan}
use Rattle.round_model.specs.After.{after}
use Rattle.round_model.specs.Attempts.{attempt_of}
use Rattle.round_model.specs.Choices.{target_of}
use Rattle.round_model.specs.Reads.{ReadsFit, read_values, round_start, value_read}
use Rattle.round_model.specs.Rows.{PlacementReads}
use Rattle.round_model.specs.Scenes.{scene_of}

-- the entry of an attempt of the core with these reads
abbrev pub entry_of_attempt : ℕ → List ℕ → Attempt → Entry
entry_of_attempt a reads attempt.Pass = entry.Pass a reads
entry_of_attempt a reads (attempt.Fail from) = entry.Fail a from reads
entry_of_attempt a reads (attempt.Steal from threads) = entry.Steal a from threads reads

-- what these reads of a history saw of each core
abbrev pub values_at : Meaning → Plan → List Entry → List ℕ → ℕ → CoreValues
values_at p plan history reads = read_values plan (value_read p plan history) reads

-- the attempt of the core by these reads. There is none where they don't fit
abbrev pub IsAttemptBy : Meaning → Plan → List Entry → ℕ → List ℕ → Option Attempt → Type 0
IsAttemptBy p plan history a reads made =
    MatchOption made
    (¬ ReadsFit plan.cores (round_start history) (length history) reads)
    (λ x. ReadsFit plan.cores (round_start history) (length history) reads
    × (attempt_of p plan (after p plan history) (values_at p plan history reads) a reads ≡ entry_of_attempt a reads x))

-- the core on which the core places a thread by these reads. There is none where they don't fit
abbrev pub IsPlacedBy : Meaning → Plan → List Entry → ℕ → List ℕ → Option ℕ → Type 0
IsPlacedBy p plan history a reads placed =
    MatchOption placed
    (¬ PlacementReads p.place plan (scene_of p plan history a) reads)
    (λ at. PlacementReads p.place plan (scene_of p plan history a) reads
    × (target_of p plan.cores (values_at p plan history reads) a ≡ Some at))
