-- Steps of several cores, one after the other.
use Rattle.std.proofs.Common.{ℕ, ◌<◌, Bool, false, List, [], ◌∷◌, ◌++◌, fold, replicate, refl, sym, subst, ◌∙◌, arith}
use Rattle.std.proofs.lemmas.List.Sums.{fold-append, fold_push}
use Rattle.policy_tree.specs.Meaning.{Meaning}
use Rattle.round_model.specs.declared.plan.Plan.{Plan}
use Rattle.serial_steps.specs.Serial.{step_of}
use Rattle.serial_steps.proofs.SerialEnding.{rest_stays}
use Rattle.serial_play.specs.declared.play.Play.{Play}
use Rattle.serial_steps.specs.SerialRounds.{most_steps}
use Rattle.serial_play.specs.Plays.{Advances, IsPlay, IsStateOf}
use Rattle.serial_play.specs.Rounds.{Moves}

module _ (p : Meaning) (plan : Plan) where
  pub moved_none : (play : Play) → IsPlay p plan play → Moves p plan [] play play
  moved_none play is = record { play = is; steps = λ s at. at; reserve = refl; rounds = refl }

  pub moved_on : (cores : List ℕ) (a : ℕ) (more : Bool) (old mid new : Play) → Moves p plan cores old mid → Advances p plan a mid new more → Moves p plan (cores ++ a ∷ []) old new
  moved_on cores a more old mid new moves advances = record {
    play = advances.play;
    steps = λ s at. subst (IsStateOf plan new) (sym (fold_push (step_of p plan) s cores a)) (advances.step (fold (step_of p plan) s cores) (moves.steps s at));
    reserve = advances.reserve ∙ moves.reserve;
    rounds = advances.rounds ∙ moves.rounds;
  }

  pub moved_both : (first second : List ℕ) (old mid new : Play) → Moves p plan first old mid → Moves p plan second mid new → Moves p plan (first ++ second) old new
  moved_both first second old mid new one two = record {
    play = two.play;
    steps = λ s at. subst (IsStateOf plan new) (sym (fold-append (step_of p plan) s first second)) (two.steps (fold (step_of p plan) s first) (one.steps s at));
    reserve = two.reserve ∙ one.reserve;
    rounds = two.rounds ∙ one.rounds;
  }

-- the turn ends where a step was none
pub ended_early : (p : Meaning) (plan : Plan) (a at : ℕ) (old mid new : Play) → at < most_steps plan → Moves p plan (replicate at a) old mid → Advances p plan a mid new false → Moves p plan (replicate (most_steps plan) a) old new
ended_early p plan a at old mid new inside moves advances = record {
  play = advances.play;
  steps = λ s is.
      let t = fold (step_of p plan) s (replicate at a) in
      let here = moves.steps s is in
      let stays = advances.over refl t here in
      subst (IsStateOf plan new) (stays ∙ sym (rest_stays p plan a s at (most_steps plan) (omega (arith, inside)) stays)) (advances.step t here);
  reserve = advances.reserve ∙ moves.reserve;
  rounds = advances.rounds ∙ moves.rounds;
}
