-- What one entry more makes of a past.
use Rattle.std.specs.Prelude.{◌≡◌, ℕ, ◌+◌, ◌==◌, ◌||◌, Bool, true, false, List, [], ◌∷◌, ◌++◌, filter, length, map}
use Rattle.std.specs.Prelude.{replicate, Some, slice_get, slice_set}
use Rattle.policy_tree.specs.Meaning.{Meaning}
use Rattle.round_model.specs.declared.entry.Did.{Did}
use Rattle.round_model.specs.declared.entry.Did.TheVariants as did
use Rattle.round_model.specs.declared.entry.Entry.{Entry}
use Rattle.round_model.specs.declared.entry.Entry.TheVariants as entry
use Rattle.round_model.specs.declared.plan.Plan.{Plan}
use Rattle.round_model.specs.declared.plan.Planned.{Planned}
use Rattle.round_model.specs.declared.state.CountAndLoad.{CountAndLoad}
use Rattle.round_model.specs.After.{moved}
use Rattle.round_model.specs.Cores.{Cores, listed}
use Rattle.round_model.specs.Fitting.{MayBeSaid}
use Rattle.round_model.specs.Kept.{IsKept}
use Rattle.round_model.specs.Kinds.{is_attempt, is_work}
use Rattle.round_model.specs.Moves.{without_first}
use Rattle.round_judge.specs.declared.past.Arrival.{Arrival}
use Rattle.round_judge.specs.declared.past.Past.{Past}
use Rattle.round_judge.specs.declared.past.Turn.{Turn}
use Rattle.round_judge.specs.Steps.{comes}
use Rattle.round_judge.specs.Notes.{IsLook}
use Rattle.round_judge.specs.Past.{arrival_of, arrives_at}

-- the arrivals that are left after an entry of the core
abbrev pub arrivals_after : ℕ → Entry → List Arrival → List Arrival
arrivals_after a (entry.Enter thread by at reads) arrivals = without_first (arrives_at a) arrivals
arrivals_after a e arrivals = arrivals

abbrev pub ended_by : Did → List Bool → List Bool
ended_by did.Nothing ended = ended
ended_by (did.Kept thread) ended = ended
ended_by (did.Queued thread) ended = ended
ended_by (did.Blocked thread) ended = ended
ended_by (did.Ended thread) ended = slice_set ended thread true

-- the flags of the threads that have ended after an entry
abbrev pub ended_after : Entry → List Bool → List Bool
ended_after (entry.Work by what) ended = ended_by what ended
ended_after e ended = ended

-- the turn with that entry
abbrev pub turn_after : Entry → Turn → Turn
turn_after e t = record { worked = t.worked || is_work e; attempted = t.attempted || is_attempt e }

-- what is noted of an entry of the core, once the cores are changed and the newest row stands twice
pub record IsNoted (a : ℕ) (e : Entry) (old new : Past) : Type 0 where
  pub state : new.state ≡ old.state
  pub entries : new.entries ≡ old.entries + 1
  pub rounds : new.rounds ≡ old.rounds
  pub turns : (t : Turn) → slice_get old.turns a ≡ Some t → new.turns ≡ slice_set old.turns a (turn_after e t)
  pub arrivals : new.arrivals ≡ arrivals_after a e old.arrivals
  pub rows : (k : ℕ) (row : List CountAndLoad) → k + 1 ≡ length old.rows → slice_get old.rows k ≡ Some row →
      (seen : List CountAndLoad) × IsLook row new.state e seen × (new.rows ≡ slice_set old.rows k seen)
  pub ended : new.ended ≡ ended_after e old.ended
  pub directory : new.directory ≡ old.directory

-- an entry of the core was added
pub record IsAdded (p : Meaning) (plan : Plan) (a : ℕ) (e : Entry) (old new : Past) : Type 0 where
  pub state : (m : Cores) → old.state ≡ listed plan.cores m → MayBeSaid p plan old.rounds m e →
      new.state ≡ listed plan.cores (moved p plan old.rounds e m)
  pub kept : IsKept p 0 (comes e) old.state new.state
  pub entries : new.entries ≡ old.entries + 1
  pub rounds : new.rounds ≡ old.rounds
  pub turns : (t : Turn) → slice_get old.turns a ≡ Some t → new.turns ≡ slice_set old.turns a (turn_after e t)
  pub arrivals : new.arrivals ≡ arrivals_after a e old.arrivals
  pub rows : (k : ℕ) (row : List CountAndLoad) → k + 1 ≡ length old.rows → slice_get old.rows k ≡ Some row →
      (seen : List CountAndLoad) × IsLook row new.state e seen × (new.rows ≡ old.rows ++ seen ∷ [])
  pub ended : new.ended ≡ ended_after e old.ended
  pub directory : new.directory ≡ old.directory

-- the next round began
pub record IsBegun (plan : Plan) (old new : Past) : Type 0 where
  pub state : new.state ≡ old.state
  pub entries : new.entries ≡ old.entries + 1
  pub rounds : new.rounds ≡ old.rounds + 1
  pub turns : new.turns ≡ replicate (length old.turns) (record { worked = false; attempted = false })
  pub arrivals : new.arrivals ≡ map arrival_of (filter (λ (t : Planned). t.round == new.rounds) plan.threads)
  pub rows : (row : List CountAndLoad) (k : ℕ) → slice_get old.rows k ≡ Some row → k + 1 ≡ length old.rows →
      new.rows ≡ row ∷ []
  pub ended : new.ended ≡ old.ended
  pub directory : new.directory ≡ old.directory
