-- What the search for a starving trace may come to.
use Rattle.std.specs.Prelude.{◌≡◌, ℕ, List, Option, Some, None}
use Rattle.policy_tree.specs.Meaning.{Meaning}
use Rattle.round_model.specs.declared.plan.Plan.{Plan}
use Rattle.serial_steps.specs.Room.{HasRoomForRounds}
use Rattle.serial_steps.specs.SerialRounds.{serial_history}
use Rattle.trace_play.specs.Plays.{MeansPlan}
use Rattle.starving_plays.specs.declared.searching.Starving.{Starving}
use Rattle.starving_plays.specs.declared.starving.Starved.{Starved}
use Rattle.starving_plays.specs.declared.traces.Crowd.{Crowd}
use Rattle.starving_plays.specs.Starving.{IsLoneCrowd, Starves}
use Rattle.starving_plays.specs.Traces.{three_alike, trace_text, two_alike, two_unlike}

-- the text is a trace of threads that all come to one core early, and serial play of it starves this thread
pub record StarvesBy (p : Meaning) (text : List ℕ) (thread round : ℕ) : Type 0 where
  pub plan : Plan
  pub means : MeansPlan p text plan
  pub crowd : IsLoneCrowd plan
  pub starves : Starves p plan (serial_history p plan) thread round

-- serial play of the trace of this text starves none, if the text is such a trace and has room for all its rounds
abbrev pub StarvesNone : Meaning → List ℕ → Type 0
StarvesNone p text = (plan : Plan) (thread round : ℕ) → MeansPlan p text plan → IsLoneCrowd plan → HasRoomForRounds plan
    → ¬ Starves p plan (serial_history p plan) thread round

-- of a plan
abbrev pub IsFoundBy : Meaning → Plan → Option Starved → Type 0
IsFoundBy p plan None = IsLoneCrowd plan → HasRoomForRounds plan
    → (thread round : ℕ) → ¬ Starves p plan (serial_history p plan) thread round
IsFoundBy p plan (Some starved) =
    IsLoneCrowd plan × Starves p plan (serial_history p plan) starved.thread starved.round

-- of the text of a trace
abbrev pub IsFoundUnder : Meaning → List ℕ → Option Starved → Type 0
IsFoundUnder p text None = StarvesNone p text
IsFoundUnder p text (Some starved) = StarvesBy p text starved.thread starved.round

-- the trace that was found is one under which the thread waits for ever
abbrev pub ShowsStarving : Meaning → Starving → Type 0
ShowsStarving p starving = StarvesBy p starving.trace.items starving.thread starving.round

-- of such threads
abbrev pub IsFoundOf : Meaning → Crowd → Option Starving → Type 0
IsFoundOf p crowd None = StarvesNone p (trace_text crowd)
IsFoundOf p crowd (Some starving) = ShowsStarving p starving

-- none of the tried traces starves a thread
pub record NoneStarve (p : Meaning) : Type 0 where
  pub two_alike : StarvesNone p (trace_text (two_alike p.load))
  pub two_unlike : StarvesNone p (trace_text (two_unlike p.load))
  pub three_alike : StarvesNone p (trace_text (three_alike p.load))

-- what the search comes to
abbrev pub IsFound : Meaning → Option Starving → Type 0
IsFound p None = NoneStarve p
IsFound p (Some starving) = ShowsStarving p starving
