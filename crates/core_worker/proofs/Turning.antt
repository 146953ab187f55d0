-- Steps of several cores, one after the other.
use Rattle.std.proofs.Common.{◌≡◌, ℕ, ◌<◌, List, [], ◌∷◌, ◌++◌, fold, replicate, sym, subst, ◌∙◌, arith}
use Rattle.std.proofs.lemmas.List.Sums.{fold-append, fold_push}
use Rattle.policy_tree.specs.Meaning.{Meaning}
use Rattle.round_model.specs.declared.plan.Plan.{Plan}
use Rattle.serial_steps.specs.Serial.{SerialState, step_of}
use Rattle.serial_steps.specs.SerialRounds.{most_steps}
use Rattle.serial_steps.proofs.SerialEnding.{rest_stays}
use Rattle.core_worker.specs.declared.run.Run.{Run}
use Rattle.core_worker.specs.Runs.{IsAt, IsMoment, Moves, Steps}

module _ (p : Meaning) (plan : Plan) where
  abbrev pub IsSome : Run → Type 0
  IsSome run = IsAt p plan (λ s. Unit {0}) run

  pub still_at : (cores : List ℕ) (old new : Run) → IsSome old → Moves p plan cores old new → IsSome new
  still_at cores old new (s, m, is) moves = (fold (step_of p plan) s cores, moves s m, tt)

  pub moved_on : (cores : List ℕ) (a : ℕ) (old mid new : Run) → Moves p plan cores old mid → Steps p plan a (λ s. Unit {0}) mid new → Moves p plan (cores ++ a ∷ []) old new
  moved_on cores a old mid new moves step s m =
      subst (IsMoment p plan new) (sym (fold_push (step_of p plan) s cores a)) (step (fold (step_of p plan) s cores) (moves s m) tt)

  pub moved_both : (first second : List ℕ) (old mid new : Run) → Moves p plan first old mid → Moves p plan second mid new → Moves p plan (first ++ second) old new
  moved_both first second old mid new one two s m =
      subst (IsMoment p plan new) (sym (fold-append (step_of p plan) s first second)) (two (fold (step_of p plan) s first) (one s m))

  -- the turn ends where a step was none
  pub ended_early : (a at : ℕ) (old mid new : Run) → at < most_steps plan → Moves p plan (replicate at a) old mid → Steps p plan a (λ s. Unit {0}) mid new
      → ((s : SerialState) → IsMoment p plan mid s → step_of p plan s a ≡ s) → Moves p plan (replicate (most_steps plan) a) old new
  ended_early a at old mid new inside moves step over s m =
      let t = fold (step_of p plan) s (replicate at a) in
      let here = moves s m in
      let stays = over t here in
      subst (IsMoment p plan new) (stays ∙ sym (rest_stays p plan a s at (most_steps plan) (omega (arith, inside)) stays)) (step t here tt)
