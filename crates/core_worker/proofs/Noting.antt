-- What an entry of a core makes of a run.
use Rattle.std.proofs.Common.{◌≡◌, ℕ, ◌+◌, ◌<◌, ◌||◌, ◌&&◌, Bool, true, cond, List, [], ◌∷◌, ◌++◌, length, get_or, Option, Some, None, length-set, refl, sym, ap, subst, ◌∙◌, arith}
use Rattle.std.specs.Prelude.{vec_capacity}
use Rattle.std.proofs.lemmas.List.{length-append, take-append-le}
use Rattle.std.proofs.lemmas.List.Folds.{list_any-append}
use Rattle.sched_base.specs.declared.limits.TheConstants.{MAX_CORES}
use Rattle.policy_tree.specs.Meaning.{Meaning}
use Rattle.policy_eval.specs.Obligations.{MeetsHandlerObligations}
use Rattle.round_model.specs.declared.entry.Did.{Did}
use Rattle.round_model.specs.declared.entry.Did.TheVariants as did
use Rattle.round_model.specs.declared.entry.Entry.{Entry}
use Rattle.round_model.specs.declared.plan.Plan.{Plan}
use Rattle.round_model.specs.After.{after}
use Rattle.round_model.specs.Outcomes.{values_at}
use Rattle.round_model.specs.Cores.{seen_of}
use Rattle.round_model.specs.Entries.{acting_core, acts, ends}
use Rattle.round_model.specs.Fits.{Fits}
use Rattle.round_model.specs.Kinds.{is_attempt, is_work}
use Rattle.round_model.specs.Legal.{LegalNext, has_ended, rounds_begun}
use Rattle.round_model.specs.Reads.{ReadsFit, round_start, values_of}
use Rattle.round_model.proofs.Acting.{no_round, or_nothing}
use Rattle.round_model.proofs.Longer.{begun_more}
use Rattle.round_model.proofs.Outcomes.{choice_same}
use Rattle.round_model.proofs.OwedTotals.{room_for}
use Rattle.round_judge.specs.declared.past.Turn.{Turn}
use Rattle.round_judge.specs.Additions.{arrivals_after, ended_by}
use Rattle.round_judge.specs.Past.{Awaits, is_flagged}
use Rattle.round_judge.proofs.Added.{turn_more}
use Rattle.round_judge.proofs.AddedArrivals.{arrivals_added}
use Rattle.serial_steps.specs.Serial.{SerialState, step_of, with_entry}
use Rattle.serial_steps.specs.SerialMoments.{IsWithinRound}
use Rattle.serial_steps.proofs.SerialTurns.{keeps_step}
use Rattle.core_moves.specs.Cores.{AreCoresOf, IsReachedBy}
use Rattle.core_moves.specs.Moves.{MayMove}
use Rattle.core_worker.specs.declared.run.Run.{Run}
use Rattle.core_worker.specs.declared.turn.Look.{Look}
use Rattle.core_worker.specs.Runs.{IsMoment, IsRunOf, KeepsLook}
use Rattle.core_worker.specs.Turns.{look_of}

-- what is said of a unit leaves the number of flags
pub flags_long : (what : Did) (flags : List Bool) → length (ended_by what flags) ≡ length flags
flags_long did.Nothing flags = refl
flags_long (did.Kept thread) flags = refl
flags_long (did.Queued thread) flags = refl
flags_long (did.Blocked thread) flags = refl
flags_long (did.Ended thread) flags = length-set flags thread true

-- beside the cores, an entry of the core changes this of a run
pub record Notes (a : ℕ) (e : Entry) (old new : Run) : Type 0 where
  pub round : new.round ≡ old.round
  pub worked : (c : ℕ) → c < MAX_CORES → is_flagged new.turns.worked c ≡ (is_flagged old.turns.worked c || (acts c e && is_work e))
  pub attempted : (c : ℕ) → c < MAX_CORES → is_flagged new.turns.attempted c ≡ (is_flagged old.turns.attempted c || (acts c e && is_attempt e))
  pub looks : new.turns.looks ≡ old.turns.looks
  pub arrivals : new.arrivals.items ≡ arrivals_after a e old.arrivals.items
  pub places : vec_capacity new.arrivals ≡ vec_capacity old.arrivals
  pub ended : (id : ℕ) → id < length old.ended → is_flagged new.ended id ≡ (is_flagged old.ended id || ends id e)
  pub flags : length new.ended ≡ length old.ended

module _ (p : Meaning) (plan : Plan) (fits : Fits p plan) (handlers : MeetsHandlerObligations p) where
  -- the moment as the model has it
  pub within_of : (run : Run) (s : SerialState) → IsMoment p plan run s → IsWithinRound p plan s
  within_of run s m = record { legal = m.at.legal; begun = m.begun; looks = λ c reads there is. fit_of c reads (look_of run.turns c) (m.at.turns c there).look is }
    where
      fit_of : (c : ℕ) (reads : List ℕ) (look : Option Look) → KeepsLook p plan s c look → s.looks c ≡ Some reads → ReadsFit plan.cores (round_start s.history) (length s.history) reads
      fit_of c reads None none is = absurd (cc)
      fit_of c reads (Some look) has is =
          let both = sym has.kept ∙ is in
          let same : look.reads ≡ reads = cc in subst (ReadsFit plan.cores (round_start s.history) (length s.history)) same has.fit

  -- what was read stays what it was
  values_stay : (h : List Entry) (e : Entry) (reads : List ℕ) (start : ℕ) → ReadsFit plan.cores start (length h) reads → (c : ℕ) → c < plan.cores → values_at p plan (h ++ e ∷ []) reads c ≡ values_at p plan h reads c
  values_stay h e reads start fit c there =
      let inside : c < length reads = omega (arith, fit.one_each) in
      let read = fit.each c 0 inside in
      let high = read.before_entry in
      ap (λ (g : List Entry). values_of plan c (seen_of (after p plan g c))) (take-append-le (get_or reads c 0) h (e ∷ []) high)

  look_stays : (s : SerialState) (e : Entry) → IsWithinRound p plan (with_entry s e) → (c : ℕ) → c < plan.cores → (look : Option Look) → KeepsLook p plan s c look → KeepsLook p plan (with_entry s e) c look
  look_stays s e within c there None none = none
  look_stays s e within c there (Some look) has = record {
    kept = has.kept;
    fit = within.looks c look.reads there has.kept;
    choice = has.choice ∙ sym (choice_same p plan.cores (values_at p plan (s.history ++ e ∷ []) look.reads) (values_at p plan s.history look.reads) (values_stay s.history e look.reads (round_start s.history) has.fit) c there);
    there = has.there;
  }

  -- a run with an entry of a core more
  pub moment_added : (old new : Run) (s : SerialState) (a : ℕ) (e : Entry) → IsMoment p plan old s → a < plan.cores → LegalNext p plan s.history e → acting_core e ≡ Some a
      → step_of p plan s a ≡ with_entry s e → AreCoresOf p plan (s.history ++ e ∷ []) new.cores → Notes a e old new → IsMoment p plan new (step_of p plan s a)
  moment_added old new s a e m there legal acting is cores notes =
      let h = s.history in
      let keeps = keeps_step p plan fits handlers s a (within_of old s m) there in
      let within = subst (IsWithinRound p plan) is keeps.within in
      let inner = no_round e a acting in
      let room = room_for p plan h e a plan.limit fits handlers m.at.legal legal acting there m.room in
      let rounds : rounds_begun (h ++ e ∷ []) ≡ rounds_begun h = begun_more h e ∙ (ap (λ b. rounds_begun h + cond b 1 0) inner ∙ omega arith) in
      let long = length-append h (e ∷ []) in
      let now : IsRunOf p plan new (with_entry s e) = record {
        cores = cores;
        legal = within.legal;
        within = omega (arith, long, room);
        round = notes.round ∙ (m.at.round ∙ sym rounds);
        turns = λ c inside.
            let turn = m.at.turns c inside in
            let few = m.at.cores.limits.few_cores in
            let more = turn_more h e c inner in
            record {
              worked = notes.worked c (omega arith) ∙ (ap (λ b. b || (acts c e && is_work e)) turn.worked ∙ sym (ap (λ (t : Turn). t.worked) more));
              attempted = notes.attempted c (omega arith) ∙ (ap (λ b. b || (acts c e && is_attempt e)) turn.attempted ∙ sym (ap (λ (t : Turn). t.attempted) more));
              look = subst (λ (looks : List (Option Look)). KeepsLook p plan (with_entry s e) c (get_or looks c None)) (sym notes.looks) (look_stays s e within c inside (look_of old.turns c) turn.look);
            };
        arrivals = λ begun.
            subst (Awaits plan (h ++ e ∷ [])) (sym notes.arrivals)
            (arrivals_added p plan h old.arrivals.items e a fits acting legal (m.at.arrivals (omega (arith, m.at.round, m.begun))));
        places = let before = m.at.places in omega (arith, notes.places);
        ended = λ k d inside.
            let t = get_or plan.threads k d in
            let small = (fits.threads k d inside).id_small in
            notes.ended t.id (omega (arith, m.at.flags))
            ∙ (ap (λ b. b || ends t.id e) (m.at.ended k d inside)
            ∙ sym (list_any-append (ends t.id) h (e ∷ []) ∙ ap (λ b. has_ended h t || b) (or_nothing (ends t.id e))));
        flags = notes.flags ∙ m.at.flags;
      } in
      record {
        at = subst (IsRunOf p plan new) (sym is) now;
        begun = keeps.within.begun;
        room = let before = m.room in omega (arith, keeps.reserve);
      }

  -- the entry may move the cores
  pub may_move : (run : Run) (s : SerialState) (a : ℕ) (e : Entry) → IsMoment p plan run s → a < plan.cores → LegalNext p plan s.history e → acting_core e ≡ Some a → MayMove p plan s.history e run.cores
  may_move run s a e m there legal acting = record {
    are = m.at.cores;
    legal = m.at.legal;
    next = legal;
    room = room_for p plan s.history e a plan.limit fits handlers m.at.legal legal acting there m.room;
  }

  pub reached_by : (run : Run) (s : SerialState) → IsMoment p plan run s → IsReachedBy p plan s.history run.cores
  reached_by run s m = record { are = m.at.cores; legal = m.at.legal; within = m.at.within }
