-- The run before the first entry, and as a round begins.
use Rattle.std.proofs.Common.{◌≡◌, ℕ, zero, suc, ◌+◌, ◌≤◌, ◌==◌, Bool, false, List, [], ◌∷◌, ◌++◌, filter, length, map, replicate, get_or, Option, None, refl, sym, ap, ap₂, subst, ◌∙◌, arith}
use Rattle.std.specs.Prelude.{vec_capacity}
use Rattle.std.proofs.lemmas.List.{length-append, length-replicate}
use Rattle.std.proofs.lemmas.List.Folds.{list_any-append}
use Rattle.sched_base.specs.declared.limits.TheConstants.{MAX_THREADS}
use Rattle.policy_tree.specs.Meaning.{Meaning}
use Rattle.policy_eval.specs.Obligations.{MeetsHandlerObligations}
use Rattle.round_model.specs.declared.entry.Entry.{Entry}
use Rattle.round_model.specs.declared.entry.Entry.TheVariants as entry
use Rattle.round_model.specs.declared.plan.Plan.{Plan}
use Rattle.round_model.specs.declared.plan.Planned.{Planned}
use Rattle.round_model.specs.After.{round_of}
use Rattle.round_model.specs.Entries.{ends}
use Rattle.round_model.specs.Fits.{Fits}
use Rattle.round_model.specs.Legal.{LegalNext, has_ended}
use Rattle.round_model.specs.Scenes.{has_attempted, has_worked, is_entering}
use Rattle.round_model.proofs.Acting.{or_nothing}
use Rattle.round_model.proofs.Grows.{legal_grows}
use Rattle.round_model.proofs.Longer.{begun_more, own_none, round_of_more}
use Rattle.round_judge.specs.Past.{arrival_of, arrives_at, is_flagged}
use Rattle.round_judge.proofs.Begun.{arriving_by}
use Rattle.serial_steps.specs.Serial.{SerialState}
use Rattle.serial_steps.proofs.SerialEnding.{round_room}
use Rattle.core_moves.specs.Cores.{AreCoresOf}
use Rattle.core_moves.specs.Moves.{MayMove}
use Rattle.core_worker.specs.declared.run.Run.{Run}
use Rattle.core_worker.specs.declared.turn.Look.{Look}
use Rattle.core_worker.specs.Runs.{IsMoment, IsRunOf, KeepsLook, MayBegin, opened}
use Rattle.core_worker.specs.Turns.{IsBegun}

pub none_set : (n c : ℕ) → is_flagged (replicate n false) c ≡ false
none_set zero c = refl
none_set (suc n) zero = refl
none_set (suc n) (suc c) = none_set n c

abbrev no_look : Option Look
no_look = None

pub none_kept : (n c : ℕ) → get_or (replicate n no_look) c None ≡ None
none_kept zero c = refl
none_kept (suc n) zero = refl
none_kept (suc n) (suc c) = none_kept n c

-- the run of no entry
pub run_opened : (p : Meaning) (plan : Plan) (run : Run) → AreCoresOf p plan [] run.cores → run.round ≡ 0 → IsBegun run.turns → length plan.threads ≤ vec_capacity run.arrivals
    → run.ended ≡ replicate (MAX_THREADS + 1) false → IsRunOf p plan run (record { history = []; looks = λ c. None })
run_opened p plan run cores round turns places ended = record {
  cores = cores;
  legal = λ k e is. absurd (cc);
  within = omega arith;
  round = round;
  turns = λ c there. record { worked = turns.worked c; attempted = turns.attempted c; look = subst (KeepsLook p plan (record { history = []; looks = λ k. None }) c) (sym (turns.looks c)) refl };
  arrivals = λ begun. absurd (omega (arith, round));
  places = places;
  ended = λ k d inside. ap (λ (flags : List Bool). is_flagged flags (get_or plan.threads k d).id) ended ∙ none_set (MAX_THREADS + 1) (get_or plan.threads k d).id;
  flags = ap length ended ∙ length-replicate (MAX_THREADS + 1) false;
}

module _ (p : Meaning) (plan : Plan) (fits : Fits p plan) (handlers : MeetsHandlerObligations p) (number : ℕ) where
  pub may_begin : (run : Run) (s : SerialState) → MayBegin p plan number run s → MayMove p plan s.history (entry.Round number) run.cores
  may_begin run s may = record { are = may.at.cores; legal = may.at.legal; next = may.next; room = let fit = may.fits in omega arith }

  -- a round began
  pub run_begun : (old new : Run) (s : SerialState) → MayBegin p plan number old s → AreCoresOf p plan (s.history ++ entry.Round number ∷ []) new.cores → new.round ≡ number → IsBegun new.turns
      → new.arrivals.items ≡ map arrival_of (filter (λ (t : Planned). t.round == number) plan.threads) → vec_capacity new.arrivals ≡ vec_capacity old.arrivals → new.ended ≡ old.ended
      → IsMoment p plan new (opened s.history number)
  unfolding LegalNext
  run_begun old new s may cores round turns arrivals places ended =
      let h = s.history in
      let e = entry.Round number in
      let legal = legal_grows.grows p plan h e may.at.legal may.next in
      let fit = may.fits in
      let long = length-append h (e ∷ []) in
      let number_of : round_of (h ++ e ∷ []) ≡ number = round_of_more h e in
      record {
        at = record {
          cores = cores;
          legal = legal;
          within = omega (arith, long);
          round = round ∙ (may.next.next ∙ sym (begun_more h e));
          turns = λ c there. record {
            worked = turns.worked c ∙ sym (ap has_worked (own_none h e c refl));
            attempted = turns.attempted c ∙ sym (ap has_attempted (own_none h e c refl));
            look = subst (KeepsLook p plan (opened h number) c) (sym (turns.looks c)) refl;
          };
          arrivals = λ begun. record {
            at_core = λ a. ap (filter (arrives_at a)) arrivals
                ∙ (arriving_by number a plan.threads
                ∙ ap₂ (λ (r : ℕ) (own : List Entry). map arrival_of (filter (is_entering r a own) plan.threads)) (sym number_of) (sym (own_none h e a refl)));
          };
          places = let before = may.at.places in omega (arith, places);
          ended = λ k d inside.
              let t = get_or plan.threads k d in
              ap (λ (flags : List Bool). is_flagged flags t.id) ended
              ∙ (may.at.ended k d inside ∙ sym (list_any-append (ends t.id) h (e ∷ []) ∙ or_nothing (has_ended h t)));
          flags = ap length ended ∙ may.at.flags;
        };
        begun = omega (arith, begun_more h e);
        room = round_room p plan fits handlers h number legal may.fits;
      }
