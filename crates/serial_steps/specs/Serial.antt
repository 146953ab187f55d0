-- The steps of serial play, a core at a time.
use Rattle.std.specs.Prelude.{ℕ, ◌==◌, cond, List, [], ◌∷◌, ◌++◌, Option, Some, None}
use Rattle.policy_tree.specs.Meaning.{Meaning}
use Rattle.round_model.specs.declared.entry.Did.{Did}
use Rattle.round_model.specs.declared.entry.Entry.{Entry}
use Rattle.round_model.specs.declared.entry.Entry.TheVariants as entry
use Rattle.round_model.specs.declared.plan.Plan.{Plan}
use Rattle.round_model.specs.Attempts.{attempt_of}
use Rattle.round_model.specs.Choices.{target_of}
use Rattle.round_model.specs.FreshReads.{fresh_reads, placement_reads}
use Rattle.round_model.specs.Reads.{read_values}
use Rattle.round_model.specs.Scenes.{Scene, scene_of}
use Rattle.round_model.specs.Work.{worked}
use Rattle.serial_steps.specs.TurnSteps.{TurnStep, attempting, entering, looking, over, turn_step_of, waking, working}

-- the history so far, and the look of each core that has looked in the open round
pub record SerialState : Type 0 where
  pub history : List Entry
  pub looks : ℕ → Option (List ℕ)

abbrev pub with_entry : SerialState → Entry → SerialState
with_entry play e = record play { history = play.history ++ e ∷ [] }

-- an entry by which a thread comes to the core where it is placed
abbrev pub with_placed : SerialState → (ℕ → Entry) → Option ℕ → SerialState
with_placed play e None = play
with_placed play e (Some at) = with_entry play (e at)

-- a unit of work, with the first word that may be said of it
abbrev pub with_work : SerialState → ℕ → List Did → SerialState
with_work play a [] = play
with_work play a (d ∷ ds) = with_entry play (entry.Work a d)

-- the play after the core a made this step of its turn, where placing a thread reads these positions
module _ (p : Meaning) (plan : Plan) (play : SerialState) (s : Scene) (a : ℕ) (reads : List ℕ) where
  abbrev pub answered : TurnStep → SerialState
  answered (entering t) =
      with_placed play (λ at. entry.Enter t.id a at reads)
      (target_of p plan.cores (read_values plan s.seen reads) a)
  answered (waking b) =
      with_placed play (λ at. entry.Wake b.task.id a at reads)
      (target_of p plan.cores (read_values plan s.seen reads) a)
  answered working = with_work play a (worked p plan s.round (s.cores a)).dids
  answered looking =
      record play { looks = λ c. cond (c == a) (Some (fresh_reads plan play.history s)) (play.looks c) }
  answered (attempting look) =
      with_entry play (attempt_of p plan s.cores (read_values plan s.seen look) a look)
  answered over = play

-- the core's next step: what its turn asks of it, all reads being made just now
unfoldable pub step_of : Meaning → Plan → SerialState → ℕ → SerialState
step_of p plan play a =
    let s : Scene = scene_of p plan play.history a in
    answered p plan play s a (placement_reads p.place plan play.history s) (turn_step_of plan s a (play.looks a))
