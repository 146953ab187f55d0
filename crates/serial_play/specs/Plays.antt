-- How far serial play has come.
use Rattle.std.specs.Prelude.{◌≡◌, ℕ, ◌+◌, ◌<◌, ◌≤◌, Bool, List, [], ◌∷◌, ◌++◌, length, map, max, IsFalse, Option, Some}
use Rattle.std.specs.Prelude.{None, slice_index, slice_index_or}
use Rattle.sched_base.specs.declared.limits.TheConstants.{MAX_ENTRIES}
use Rattle.policy_tree.specs.Meaning.{Meaning}
use Rattle.round_model.specs.declared.entry.Entry.{Entry}
use Rattle.round_model.specs.declared.plan.Plan.{Plan}
use Rattle.round_model.specs.Cores.{core_numbers}
use Rattle.round_model.specs.FreshReads.{touched_from}
use Rattle.round_model.specs.Legal.{rounds_begun}
use Rattle.round_model.specs.Owed.{owed_total}
use Rattle.round_model.specs.Reads.{round_start}
use Rattle.round_judge.specs.Readable.{ReadIn}
use Rattle.round_judge.specs.Past.{IsPastOf, StandsFor}
use Rattle.serial_steps.specs.Serial.{SerialState, step_of}
use Rattle.serial_play.specs.declared.play.Play.{Play}

-- the look of a core
abbrev pub look_of : Play → ℕ → Option (List ℕ)
look_of play c = slice_index_or play.looks c None

-- what is kept is that of the history
pub record IsPlay (p : Meaning) (plan : Plan) (play : Play) : Type 0 where
  pub stands : StandsFor p plan play.past play.history
  pub belongs : IsPastOf p plan play.past
  pub start : play.start ≡ round_start play.history
  pub touched : (c : ℕ) → c < plan.cores → slice_index play.touched c ≡ touched_from c 0 0 play.history
  pub looks : (c : ℕ) (reads : List ℕ) → c < plan.cores → look_of play c ≡ Some reads → ReadIn plan play.past reads

-- it is that moment of serial play
pub record IsStateOf (plan : Plan) (play : Play) (s : SerialState) : Type 0 where
  pub history : s.history ≡ play.history
  pub looks : (c : ℕ) → c < plan.cores → s.looks c ≡ look_of play c

-- what a core that looks just now reads
abbrev pub fresh_of : Plan → Play → List ℕ
fresh_of plan play = map (λ c. max play.start (slice_index play.touched c)) (core_numbers plan)

-- an entry of a core was added
pub record HasAdded (p : Meaning) (plan : Plan) (e : Entry) (old new : Play) : Type 0 where
  pub play : IsPlay p plan new
  pub history : new.history ≡ old.history ++ e ∷ []
  pub looks : new.looks ≡ old.looks

-- what cores owe still fits in a history
abbrev pub HasRoom : Meaning → Plan → List Entry → Type 0
HasRoom p plan history = length history + owed_total p plan history ≤ MAX_ENTRIES

-- the core took its next step, if there was one
pub record Advances (p : Meaning) (plan : Plan) (a : ℕ) (old new : Play) (more : Bool) : Type 0 where
  pub play : IsPlay p plan new
  pub step : (s : SerialState) → IsStateOf plan old s → IsStateOf plan new (step_of p plan s a)
  -- each entry is one that was owed, and no round begins
  pub reserve : length new.history + owed_total p plan new.history ≡ length old.history + owed_total p plan old.history
  pub rounds : rounds_begun new.history ≡ rounds_begun old.history
  -- there is none where the turn is over
  pub over : IsFalse more → (s : SerialState) → IsStateOf plan old s → step_of p plan s a ≡ s
