-- From how `play` ends to the truth of what it says.
use Rattle.std.proofs.Common.{◌≡◌, ℕ, inl, List, [], ◌∷◌, length, Option, Some, refl, sym, arith, subst}
use Rattle.sched_io.specs.Told.{Told}
use Rattle.sched_io.specs.Written.{Adds}
use Rattle.policy_tree.specs.Meaning.{Meaning}
use Rattle.round_model.specs.declared.entry.Entry.{Entry}
use Rattle.round_model.specs.declared.plan.Plan.{Plan}
use Rattle.serial_steps.specs.declared.serial.Played.TheVariants as played
use Rattle.serial_steps.specs.SerialEnds.{EndsWhole, IsFull, StopsFull}
use Rattle.serial_steps.specs.SerialRounds.{serial_rounds}
use Rattle.round_laws.proofs.MainTheorem.{main_theorem}
use Rattle.sched_history.specs.Spelling.{text_of_history}
use Rattle.core_state.specs.Views.{ClosedView}
use Rattle.history_merge.specs.Merged.{merged}
use Rattle.trace_play.specs.declared.answer.PlayAnswer.{PlayAnswer}
use Rattle.trace_play.specs.declared.answer.PlayAnswer.TheVariants as play_answer
use Rattle.trace_play.specs.declared.cores.PlayedCores.TheVariants as cores
use Rattle.trace_play.specs.Plays as plays
use Rattle.ipanema_cli.specs.Answers.{play_status}
use Rattle.ipanema_cli.specs.Causes.{OneOf}
use Rattle.ipanema_cli.specs.Status.{code_of}
use Rattle.ipanema_cli.specs.TraceTruths.{DoPlay, MustAnswer, MustPlay, PlaysTruly}
use Rattle.ipanema_cli.proofs.Stopped.{Stopped}
use Rattle.ipanema_cli.proofs.TraceTruths.{Read, broken_trace, held_play, long_trace, may_play, others_played, play_crowds, play_known, same_plan, stopped_trace, trace_shows, weaker_0, weaker_8}
use Rattle.command_words.specs.Command.{Asked, play}
use Rattle.ipanema_cli.specs.Commands.{statuses_of, trace_files}
use Rattle.ipanema_cli.proofs.CheckTruths.{never_long}
use Rattle.ipanema_cli.proofs.CommandLaw.{CommandLaw}

must_of : (policy trace : Told) (code : ℕ) → ((p : Meaning) (plan : Plan) → DoPlay policy trace p plan → OneOf (3 ∷ 4 ∷ 5 ∷ 6 ∷ []) code) → MustAnswer policy trace code → MustPlay policy trace code
must_of policy trace code low others = record {
  reaches_end = λ p plan held none. weaker_0 code (low p plan held);
  stops_full = λ p plan k held full. weaker_8 code (low p plan held);
  others = others;
}

pub stopped_play : (policy trace : Told) (before after : Option (List ℕ)) (code : ℕ) → Stopped code → PlaysTruly policy trace before after code
stopped_play policy trace before after code stop = stopped_trace EndsWhole StopsFull MustPlay must_of policy trace before after code stop

played_whole : (policy trace : Told) (text jobs : List ℕ) (p : Meaning) (history : List Entry) (before after : Option (List ℕ)) (code : ℕ) → Read policy trace text jobs p
    → (made : plays.PlaysText p jobs (played.Whole history)) → code ≡ 0 → Adds (text_of_history made.plan.cores history) before after → PlaysTruly policy trace before after code
played_whole policy trace text jobs p history before after code read made own added = record {
  whole = λ h.
      let may = may_play policy trace text jobs p made.trace made.plan read made.spells made.means made.fits made.limits in
      (p, made.plan, history, may, made.played, main_theorem p may.meets made.plan history made.fits made.played.whole.legal, added);
  full = λ h. absurd (omega arith);
  must = record {
    reaches_end = λ other plan held _. rw own refl;
    stops_full = λ other plan k held is_full.
        let s = held_play policy trace text jobs p other plan read held in
        let is_plan = same_plan p jobs made.trace held.lines made.plan plan made.spells made.means s.spells s.means in
        let here : IsFull plan (serial_rounds p plan k) = subst (λ (q : Meaning). IsFull plan (serial_rounds q plan k)) (sym s.policy) is_full in
        absurd (made.played.fitted k (subst (λ (x : Plan). IsFull x (serial_rounds p x k)) (sym is_plan) here));
    others = others_played policy trace text jobs p made.trace made.plan code read made.spells made.means (λ three. omega arith);
  };
  lines = λ low. absurd (let bad = rw own at low in cc);
  bad_text = λ h. absurd (omega arith);
}

played_full : (policy trace : Told) (text jobs : List ℕ) (p : Meaning) (history : List Entry) (before after : Option (List ℕ)) (code : ℕ) → Read policy trace text jobs p
    → (made : plays.PlaysText p jobs (played.Full history)) → code ≡ 8 → Adds (text_of_history made.plan.cores history) before after → PlaysTruly policy trace before after code
played_full policy trace text jobs p history before after code read made own added = record {
  whole = λ h. absurd (omega arith);
  full = λ h.
      let may = may_play policy trace text jobs p made.trace made.plan read made.spells made.means made.fits made.limits in
      (p, made.plan, history, may, made.played, main_theorem p may.meets made.plan history made.fits made.played.legal, added);
  must = record {
    reaches_end = λ other plan held none.
        let s = held_play policy trace text jobs p other plan read held in
        let is_plan = same_plan p jobs made.trace held.lines made.plan plan made.spells made.means s.spells s.means in
        let k : ℕ = made.played.rounds in
        let here : IsFull made.plan (serial_rounds p made.plan k) = subst (IsFull made.plan) made.played.serial made.played.full in
        let there = subst (λ (x : Plan). IsFull x (serial_rounds p x k)) is_plan here in
        absurd (none k (subst (λ (q : Meaning). IsFull plan (serial_rounds q plan k)) s.policy there));
    stops_full = λ other plan k held is_full. rw own refl;
    others = others_played policy trace text jobs p made.trace made.plan code read made.spells made.means (λ three. omega arith);
  };
  lines = λ low. absurd (let bad = rw own at low in cc);
  bad_text = λ h. absurd (omega arith);
}

-- the cores that are left are the plan's
pub of_plan : (closed : ClosedView) (plan : Plan) (before after : Option (List ℕ)) → length closed.cores ≡ plan.cores
    → Adds (text_of_history (length closed.cores) (merged closed)) before after → Adds (text_of_history plan.cores (merged closed)) before after
of_plan closed plan before after count added = subst (λ (cores : ℕ). Adds (text_of_history cores (merged closed)) before after) count added

-- the trace was read
answered_trace : (policy trace : Told) (text jobs : List ℕ) (p : Meaning) (play : PlayAnswer) (before after : Option (List ℕ)) (code : ℕ) → Read policy trace text jobs p
    → plays.IsPlayOf p jobs play → code ≡ code_of (play_status play) → Adds (plays.output_of play) before after → PlaysTruly policy trace before after code
answered_trace policy trace text jobs p (play_answer.Broken fault) before after code read is own added = broken_trace EndsWhole StopsFull MustPlay must_of policy trace text jobs p fault before after code read is own added
answered_trace policy trace text jobs p (play_answer.Played (cores.Whole closed)) before after code read is own added = played_whole policy trace text jobs p (merged closed) before after code read is.plays own (of_plan closed is.plays.plan before after is.count added)
answered_trace policy trace text jobs p (play_answer.Played (cores.Full closed)) before after code read is own added = played_full policy trace text jobs p (merged closed) before after code read is.plays own (of_plan closed is.plays.plan before after is.count added)

pub play_law : (Passed : ℕ → ℕ → Type 0) (policy trace : List ℕ) → CommandLaw Passed (Some (play policy trace))
play_law Passed policy trace =
    let asked : Option Asked = Some (play policy trace) in
    record {
      known = λ text a is. play_known plays.IsPlayOf text a is (statuses_of asked) refl refl refl refl refl refl;
      crowds = λ told text before after a files is. play_crowds plays.IsPlayOf text a is asked told before after policy (inl (refl, refl)) files.0;
      shows = λ told text before after code a files is.
          trace_shows EndsWhole StopsFull MustPlay must_of plays.IsPlayOf answered_trace told policy trace text before after code a files is;
      long = λ told before after code which long own.
          long_trace EndsWhole StopsFull MustPlay must_of (told policy) (told trace) before after code
          (λ text jobs held also. never_long which told (trace_files policy trace) long ((text, held), ((jobs, also), tt))) own;
      stopped = λ told before after code stop file. stopped_play (told policy) (told trace) before after code stop;
    }
