-- What a history is judged to be, by the model: whole, legal but too short, or not legal from some entry on.
use Rattle.std.specs.Prelude.{◌≡◌, ℕ, List, length, take, Result, Ok, Err}
use mathlib.Core.Option.{some}
use lib.ListN.{get_elem?}
use Rattle.policy_tree.specs.Meaning.{Meaning}
use Rattle.round_model.specs.declared.entry.Entry.{Entry}
use Rattle.round_model.specs.declared.plan.Plan.{Plan}
use Rattle.round_model.specs.Legal.{Legal, LegalNext, Whole, rounds_begun}
use Rattle.history_judge.specs.declared.judgement.ReplayFault.{ReplayFault}
use Rattle.history_judge.specs.declared.judgement.ReplayFault.TheVariants.{Illegal, Memory, Short}
use Rattle.history_judge.specs.declared.judgement.Replayed.{Replayed}

-- the entry at that position isn't legal after those before it, which all are
pub record IsFirstIllegal (p : Meaning) (plan : Plan) (history : List Entry) (position : ℕ) : Type 0 where
  pub before : Legal p plan (take position history)
  pub entry : Entry
  pub stands : get_elem? history position ≡ some entry
  pub illegal : LegalNext p plan (take position history) entry → ⊥

-- all entries are legal, so many they are, and the history isn't whole
pub record IsTooShort (p : Meaning) (plan : Plan) (history : List Entry) (count : ℕ) : Type 0 where
  pub legal : Legal p plan history
  pub count_is : count ≡ length history
  pub unfinished : Whole p plan history → ⊥

-- the history is whole, and has so many entries and rounds
pub record IsWhole (p : Meaning) (plan : Plan) (history : List Entry) (replayed : Replayed) : Type 0 where
  pub whole : Whole p plan history
  pub entries : replayed.entries ≡ length history
  pub rounds : replayed.rounds ≡ rounds_begun history

-- the history is what it is judged to be. Want of memory judges nothing
abbrev pub IsJudgement : Meaning → Plan → List Entry → Result Replayed ReplayFault → Type 0
IsJudgement p plan history (Ok replayed) = IsWhole p plan history replayed
IsJudgement p plan history (Err (Illegal position)) = IsFirstIllegal p plan history position
IsJudgement p plan history (Err (Short count)) = IsTooShort p plan history count
IsJudgement p plan history (Err Memory) = Unit {0}

-- a whole history gets no judgement but that
abbrev pub MustBeWhole : Meaning → Plan → List Entry → Result Replayed ReplayFault → Type 0
MustBeWhole p plan history (Ok replayed) = Unit {0}
MustBeWhole p plan history (Err (Illegal position)) = Whole p plan history → ⊥
MustBeWhole p plan history (Err (Short count)) = Whole p plan history → ⊥
MustBeWhole p plan history (Err Memory) = Unit {0}

-- some entry isn't legal, or memory was wanting
abbrev pub StopsLegal : Meaning → Plan → List Entry → ReplayFault → Type 0
StopsLegal p plan history (Illegal position) = IsFirstIllegal p plan history position
StopsLegal p plan history (Short count) = ⊥
StopsLegal p plan history Memory = Unit {0}
