-- When an entry of one core is legal next, over a scene.
use Rattle.std.specs.Prelude.{◌≡◌, ℕ, ◌<◌, List, [], Some, IsNone, IsTrue, IsFalse, IsSomeAnd}
use Rattle.policy_tree.specs.Meaning.{Meaning, PlaceTree, here, least}
use Rattle.round_model.specs.declared.entry.Did.{Did}
use Rattle.round_model.specs.declared.entry.Entry.{Entry}
use Rattle.round_model.specs.declared.entry.Entry.TheVariants as entry
use Rattle.round_model.specs.declared.plan.Plan.{Plan}
use Rattle.round_model.specs.declared.plan.Planned.{Planned}
use Rattle.round_model.specs.declared.state.Blocked.{Blocked}
use Rattle.round_model.specs.Attempts.{attempt_of}
use Rattle.round_model.specs.Choices.{target_of}
use Rattle.round_model.specs.Reads.{ReadsFit, read_values}
use Rattle.round_model.specs.Scenes.{Scene, entering_next, has_attempted, has_worked, waking_next}
use Rattle.round_model.specs.Work.{IsOutcomeOfWork}

-- the reads of a placement: none where threads are placed on the acting core
abbrev pub PlacementReads : PlaceTree → Plan → Scene → List ℕ → Type 0
PlacementReads here plan s reads = reads ≡ []
PlacementReads (least e) plan s reads = ReadsFit plan.cores s.start s.position reads

-- the core `by` places a thread at `at`, by what it read
pub record IsPlacement (p : Meaning) (plan : Plan) (s : Scene) (by at : ℕ) (reads : List ℕ) : Type 0 where
  pub read : PlacementReads p.place plan s reads
  pub target : target_of p plan.cores (read_values plan s.seen reads) by ≡ Some at

-- the thread is the next that the core lets in
pub record LegalEnter (p : Meaning) (plan : Plan) (s : Scene) (thread by at : ℕ)
    (reads : List ℕ) : Type 0 where
  pub core : by < plan.cores
  pub next : IsSomeAnd (entering_next plan s.round by s.own) (λ (t : Planned). t.id ≡ thread)
  pub placement : IsPlacement p plan s by at reads

-- no thread is left to enter, and this one is the next to wake
pub record LegalWake (p : Meaning) (plan : Plan) (s : Scene) (thread by at : ℕ)
    (reads : List ℕ) : Type 0 where
  pub core : by < plan.cores
  pub entered : IsNone (entering_next plan s.round by s.own)
  pub next : IsSomeAnd (waking_next s.round (s.cores by)) (λ (b : Blocked). b.task.id ≡ thread)
  pub placement : IsPlacement p plan s by at reads

-- none is left to enter or to wake, and the core hasn't worked in the round
pub record LegalWork (p : Meaning) (plan : Plan) (s : Scene) (by : ℕ) (did : Did) : Type 0 where
  pub core : by < plan.cores
  pub entered : IsNone (entering_next plan s.round by s.own)
  pub woken : IsNone (waking_next s.round (s.cores by))
  pub first : IsFalse (has_worked s.own)
  pub outcome : IsOutcomeOfWork p plan s.round (s.cores by) did

-- the core has worked, and this is its one attempt of the round
pub record LegalAttempt (p : Meaning) (plan : Plan) (s : Scene) (by : ℕ) (reads : List ℕ)
    (e : Entry) : Type 0 where
  pub core : by < plan.cores
  pub worked : IsTrue (has_worked s.own)
  pub first : IsFalse (has_attempted s.own)
  pub read : ReadsFit plan.cores s.start s.position reads
  pub outcome : e ≡ attempt_of p plan s.cores (read_values plan s.seen reads) by reads

-- the entry is legal next for its acting core. A Round has no acting core
unfoldable pub Row : Meaning → Plan → Scene → Entry → Type 0
Row p plan s (entry.Round number) = ⊥
Row p plan s (entry.Enter thread by at reads) = LegalEnter p plan s thread by at reads
Row p plan s (entry.Wake thread by at reads) = LegalWake p plan s thread by at reads
Row p plan s (entry.Work by did) = LegalWork p plan s by did
Row p plan s (entry.Steal by from threads reads) =
    LegalAttempt p plan s by reads (entry.Steal by from threads reads)
Row p plan s (entry.Fail by from reads) = LegalAttempt p plan s by reads (entry.Fail by from reads)
Row p plan s (entry.Pass by reads) = LegalAttempt p plan s by reads (entry.Pass by reads)
