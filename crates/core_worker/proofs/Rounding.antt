-- The rounds of serial play over running cores.
use Rattle.std.proofs.Common.{◌∙◌, ◌≡◌, ◌<◌, ◌≤◌, ℕ, ◌+◌, [], length, false, None, refl, sym, subst, arith}
use Rattle.policy_tree.specs.Meaning.{Meaning}
use Rattle.policy_eval.specs.Obligations.{MeetsHandlerObligations}
use Rattle.round_laws.proofs.MainTheorem.{main_theorem}
use Rattle.round_model.specs.declared.plan.Plan.{Plan}
use Rattle.round_model.specs.Fits.{Fits}
use Rattle.round_model.specs.Legal.{IsDue, is_due}
use Rattle.serial_steps.specs.Serial.{SerialState}
use Rattle.serial_steps.specs.SerialEnds.{IsFull, RoundFits}
use Rattle.serial_steps.specs.SerialRounds.{serial_rounds, with_round}
use Rattle.serial_steps.proofs.SerialEnding.{ended_whole, fits_not_full, round_legal}
use Rattle.serial_steps.proofs.SerialEnding.{rounds_over, serial_next, stopped_full}
use Rattle.serial_steps.proofs.SerialWholes.{next_too}
use Rattle.core_state.specs.Logs.{LogsOf}
use Rattle.core_state.specs.Views.{ClosedView}
use Rattle.core_worker.specs.declared.run.Run.{Run}
use Rattle.core_worker.specs.Played.{PlaysFull, PlaysWhole}
use Rattle.core_worker.specs.Runs.{IsRunOf, MayBegin}

-- so many rounds of serial play were played, each of which fitted
pub record HasPlayed (p : Meaning) (plan : Plan) (k : ℕ) (run : Run) : Type 0 where
  pub state : SerialState
  pub at : IsRunOf p plan run state
  pub serial : state.history ≡ serial_rounds p plan k
  pub fitted : (j : ℕ) → j < k → IsFull plan (serial_rounds p plan j) → ⊥

pub none_played : (p : Meaning) (plan : Plan) (run : Run) → IsRunOf p plan run (record { history = []; looks = λ c. None }) → HasPlayed p plan 0 run
none_played p plan run at = record { state = record { history = []; looks = λ c. None }; at = at; serial = refl; fitted = λ j none. absurd (omega arith) }

module _ (p : Meaning) (plan : Plan) (fits : Fits p plan) (handlers : MeetsHandlerObligations p) (k : ℕ) (run : Run) (played : HasPlayed p plan k run) where
  pub count_is : run.cores.entries ≡ length played.state.history
  count_is = played.at.cores.entries

  -- the next round may begin
  pub next_may : IsDue plan played.state.history → RoundFits plan run.cores.entries → MayBegin p plan (k + 1) run played.state
  next_may due room = record {
    at = played.at;
    next = round_legal p plan fits handlers k played.state.history played.serial due;
    fits = subst (RoundFits plan) count_is room;
  }

  -- and is played
  pub more_played : (new : Run) (t : SerialState) → t.history ≡ with_round p plan played.state.history (k + 1) → IsRunOf p plan new t → RoundFits plan run.cores.entries → HasPlayed p plan (k + 1) new
  more_played new t is at room = record {
    state = t;
    at = at;
    serial = serial_next p plan k played.state.history t.history played.serial is;
    fitted = next_too (λ j. IsFull plan (serial_rounds p plan j) → ⊥) k played.fitted
        (fits_not_full plan played.state.history (serial_rounds p plan k) played.serial (subst (RoundFits plan) count_is room));
  }

  -- no round is due any more
  pub played_whole : (closed : ClosedView) → closed.cores ≡ run.cores.cores → LogsOf played.state.history closed → k ≤ plan.rounds → is_due plan played.state.history ≡ false → PlaysWhole p plan closed
  played_whole closed same logs within none = record {
    history = played.state.history;
    cores = same ∙ played.at.cores.cores;
    logs = logs;
    ends = ended_whole p plan fits handlers k played.state.history within played.serial none played.fitted;
    keeps = λ meets. main_theorem p meets plan played.state.history fits played.at.legal;
  }

  pub played_all : (closed : ClosedView) → closed.cores ≡ run.cores.cores → LogsOf played.state.history closed → k ≡ plan.rounds → PlaysWhole p plan closed
  played_all closed same logs all =
      played_whole closed same logs (omega (arith, all)) (rounds_over p plan fits handlers k played.state.history played.serial (omega (arith, all)))

  -- the next round might not fit
  pub played_full : (closed : ClosedView) → closed.cores ≡ run.cores.cores → LogsOf played.state.history closed → IsDue plan played.state.history → (RoundFits plan run.cores.entries → ⊥) → PlaysFull p plan closed
  played_full closed same logs due full = record {
    history = played.state.history;
    cores = same ∙ played.at.cores.cores;
    logs = logs;
    stops = stopped_full p plan fits handlers k played.state.history played.serial due (λ room. full (subst (RoundFits plan) (sym count_is) room)) played.fitted;
    keeps = λ meets. main_theorem p meets plan played.state.history fits played.at.legal;
  }
