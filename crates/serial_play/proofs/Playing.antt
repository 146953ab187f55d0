-- A round of serial play.
use Rattle.std.proofs.Common.{◌≡◌, ℕ, zero, suc, ◌≤◌, cond, List, [], ◌∷◌, ◌++◌, fold, length, replicate, slice_index, slice_index_or, Option, None, refl, sym, ap, subst, ◌∙◌, arith}
use Rattle.std.proofs.lemmas.List.{length-append}
use Rattle.policy_tree.specs.Meaning.{Meaning}
use Rattle.round_model.specs.declared.entry.Entry.{Entry}
use Rattle.round_model.specs.declared.plan.Plan.{Plan}
use Rattle.policy_eval.specs.Obligations.{MeetsHandlerObligations}
use Rattle.round_model.specs.declared.entry.Entry.TheVariants as entry
use Rattle.round_model.specs.Entries.{touches}
use Rattle.round_model.specs.Fits.{Fits}
use Rattle.round_model.specs.FreshReads.{touched_from}
use Rattle.round_model.specs.Legal.{IsDue, Legal}
use Rattle.round_model.specs.Reads.{round_start}
use Rattle.round_model.proofs.Longer.{start_of_round}
use Rattle.round_judge.specs.Past.{IsPastOf, StandsFor}
use Rattle.serial_steps.specs.SerialEnds.{RoundFits}
use Rattle.serial_steps.specs.Serial.{SerialState, step_of}
use Rattle.serial_steps.specs.SerialRounds.{order_of, remaining_turns, with_round}
use Rattle.serial_steps.proofs.SerialEnding.{round_room}
use Rattle.serial_play.specs.declared.play.Play.{Play}
use Rattle.serial_play.specs.Plays.{HasRoom, IsPlay, look_of}
use Rattle.serial_play.specs.Rounds.{Begins, Moves, PlaysRound}
use Rattle.round_model.proofs.Touched.{touched_more}
use Rattle.serial_play.proofs.Turning.{moved_both}

-- the first round begins nothing that was touched
touched_begun : (c : ℕ) (h : List Entry) (number : ℕ) → touched_from c 0 0 (h ++ entry.Round number ∷ []) ≡ touched_from c 0 0 h
unfolding touches
touched_begun c h number = touched_more c h (entry.Round number)

abbrev no_look : Option (List ℕ)
no_look = None

-- an array of nothing
pub zeros_at : (n c : ℕ) → slice_index (replicate n 0) c ≡ 0
zeros_at zero c = refl
zeros_at (suc n) zero = refl
zeros_at (suc n) (suc c) = zeros_at n c

pub none_at : (n c : ℕ) → slice_index_or (replicate n no_look) c None ≡ None
none_at zero c = refl
none_at (suc n) zero = refl
none_at (suc n) (suc c) = none_at n c

-- the play of no entry
pub started : (p : Meaning) (plan : Plan) (play : Play) → StandsFor p plan play.past [] → IsPastOf p plan play.past → play.history ≡ [] → play.start ≡ 0
    → ((c : ℕ) → slice_index play.touched c ≡ 0) → ((c : ℕ) → look_of play c ≡ None) → IsPlay p plan play
started p plan play stands belongs empty start touched looks = record {
  stands = subst (StandsFor p plan play.past) (sym empty) stands;
  belongs = belongs;
  start = start ∙ ap round_start (sym empty);
  touched = λ c there. touched c ∙ ap (touched_from c 0 0) (sym empty);
  looks = λ c reads there is. let none = sym (looks c) ∙ is in absurd (cc);
}

-- a round began
pub begun_play : (p : Meaning) (plan : Plan) (number : ℕ) (old new : Play) → IsPlay p plan old → StandsFor p plan new.past (old.history ++ entry.Round number ∷ []) → IsPastOf p plan new.past
    → new.history ≡ old.history ++ entry.Round number ∷ [] → new.start ≡ length new.history → new.touched ≡ old.touched → ((c : ℕ) → look_of new c ≡ None) → Begins p plan number old new
begun_play p plan number old new is stands belongs history start touched looks =
    let e = entry.Round number in let h = old.history in
    record {
      play = record {
        stands = subst (StandsFor p plan new.past) (sym history) stands;
        belongs = belongs;
        start = start ∙ (ap length history ∙ (length-append h (e ∷ []) ∙ (sym (start_of_round h e refl) ∙ ap round_start (sym history))));
        touched = λ c there.
            ap (λ (t : List ℕ). slice_index t c) touched
            ∙ (is.touched c there ∙ (sym (touched_begun c h number) ∙ ap (touched_from c 0 0) (sym history)));
        looks = λ c reads there found. let none = sym (looks c) ∙ found in absurd (cc);
      };
      history = history;
      looks = λ c there. looks c;
    }

-- all that a round may add fits behind its beginning
pub room_behind : (p : Meaning) (plan : Plan) (old new : Play) (number : ℕ) → Fits p plan → MeetsHandlerObligations p → RoundFits plan (length old.history) → Begins p plan number old new → HasRoom p plan new.history
room_behind p plan old new number fits handlers room begins =
    let is = begins.history in
    let few = round_room p plan fits handlers old.history number (subst (Legal p plan) is begins.play.stands.legal) room in
    let limit = begins.play.belongs.limits.few_entries in
    subst (HasRoom p plan) (sym is) (omega arith)

-- the round of that number
pub round_played : (p : Meaning) (plan : Plan) (number : ℕ) (old begun mid new : Play) → IsDue plan old.history → Begins p plan number old begun
    → Moves p plan (order_of plan number) begun mid → Moves p plan (remaining_turns plan) mid new → PlaysRound p plan number old new
unfolding with_round
round_played p plan number old begun mid new due begins ordered ended =
    let e = entry.Round number in let h = old.history in
    let opened : SerialState = record { history = h ++ e ∷ []; looks = λ c. None } in
    let all = moved_both p plan (order_of plan number) (remaining_turns plan) begun mid new ordered ended in
    let at = all.steps opened (record { history = sym begins.history; looks = λ c there. sym (begins.looks c there) }) in
    record {
      play = ended.play;
      history = sym at.history ∙ sym (ap (λ b. cond b (fold (step_of p plan) opened (order_of plan number ++ remaining_turns plan)).history h) due);
    }
