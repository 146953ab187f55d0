-- From how `run` ends to the truth of what it says.
use Rattle.std.proofs.Common.{◌≡◌, ℕ, inl, List, [], ◌∷◌, Option, Some, refl, sym, arith, subst}
use Rattle.sched_io.specs.Told.{Told}
use Rattle.sched_io.specs.Written.{Adds}
use Rattle.policy_eval.proofs.Statements.{handler_obligations}
use Rattle.policy_tree.specs.Meaning.{Meaning}
use Rattle.round_model.specs.declared.entry.Entry.{Entry}
use Rattle.round_model.specs.declared.plan.Plan.{Plan}
use Rattle.round_model.specs.Legal.{Whole, rounds_begun}
use Rattle.serial_steps.specs.declared.serial.Played.TheVariants as played
use Rattle.serial_steps.specs.Room.{HasRoomForRounds}
use Rattle.serial_steps.proofs.EntryBounds.{room_suffices}
use Rattle.round_laws.proofs.MainTheorem.{main_theorem}
use Rattle.sched_history.specs.Spelling.{text_of_history}
use Rattle.history_merge.specs.Merged.{merged}
use Rattle.trace_play.specs.declared.answer.PlayAnswer.{PlayAnswer}
use Rattle.trace_play.specs.declared.answer.PlayAnswer.TheVariants as play_answer
use Rattle.trace_play.specs.declared.cores.PlayedCores.{PlayedCores}
use Rattle.trace_play.specs.declared.cores.PlayedCores.TheVariants as cores
use Rattle.trace_play.specs.Plays as plays
use Rattle.parallel_play.specs.Runs.{AllPassed, HadRoom}
use Rattle.parallel_play.proofs.Beginnings.{never_whole}
use Rattle.trace_run.specs.Runs.{GatedEnds, GatedStops, HavePassedFor, IsGatedRunOf, IsRunOf, RunsText}
use Rattle.ipanema_cli.specs.Answers.{play_status}
use Rattle.ipanema_cli.specs.Causes.{OneOf}
use Rattle.ipanema_cli.specs.Status.{code_of}
use Rattle.ipanema_cli.specs.TraceTruths.{DoPlay, MustAnswer, MustRun, RunsTruly}
use Rattle.ipanema_cli.proofs.Stopped.{Stopped}
use Rattle.ipanema_cli.proofs.PlayTruths.{of_plan}
use Rattle.ipanema_cli.proofs.TraceTruths.{Read, broken_trace, held_play, long_trace, may_play, others_played, play_crowds, play_known, same_plan, stopped_trace, trace_shows, weaker_0, weaker_8, weaker_both}
use Rattle.command_words.specs.Command.{Asked, crew, run}
use Rattle.ipanema_cli.specs.Commands.{statuses_of, trace_files}
use Rattle.ipanema_cli.proofs.CheckTruths.{never_long}
use Rattle.ipanema_cli.proofs.CommandLaw.{CommandLaw}

must_of : (policy trace : Told) (code : ℕ) → ((p : Meaning) (plan : Plan) → DoPlay policy trace p plan → OneOf (3 ∷ 4 ∷ 5 ∷ 6 ∷ []) code) → MustAnswer policy trace code → MustRun policy trace code
must_of policy trace code low others = record {
  ends = λ p plan held. weaker_both code (low p plan held);
  reaches_end = λ p plan held room. weaker_0 code (low p plan held);
  stops_full = λ p plan held none. weaker_8 code (low p plan held);
  stops_at_once = λ p plan held full. weaker_8 code (low p plan held);
  others = others;
}

-- the plan is the one whose cores passed the gate
past_by : (Passed : ℕ → ℕ → Type 0) (p : Meaning) (jobs : List ℕ) (left : PlayedCores) → HavePassedFor Passed p jobs (play_answer.Played left) → (made : RunsText p jobs (plays.played_by left))
    → AllPassed Passed made.plan (rounds_begun (plays.history_of (plays.played_by left)))
past_by Passed p jobs left past made =
    subst (λ (plan : Plan). AllPassed Passed plan (rounds_begun (plays.history_of (plays.played_by left))))
    (same_plan p jobs past.1.trace made.trace past.0 made.plan past.1.spells past.1.means made.spells made.means) past.2

module _ (Passed : ℕ → ℕ → Type 0) where
  pub stopped_run : (policy trace : Told) (before after : Option (List ℕ)) (code : ℕ) → Stopped code → RunsTruly Passed policy trace before after code
  stopped_run policy trace before after code stop = stopped_trace (GatedEnds Passed) (GatedStops Passed) MustRun must_of policy trace before after code stop

  ran_whole : (policy trace : Told) (text jobs : List ℕ) (p : Meaning) (history : List Entry) (before after : Option (List ℕ)) (code : ℕ) → Read policy trace text jobs p
      → (made : RunsText p jobs (played.Whole history)) → AllPassed Passed made.plan (rounds_begun history) → code ≡ 0 → Adds (text_of_history made.plan.cores history) before after → RunsTruly Passed policy trace before after code
  ran_whole policy trace text jobs p history before after code read made past own added = record {
    whole = λ h.
        let may = may_play policy trace text jobs p made.trace made.plan read made.spells made.means made.fits made.limits in
        (p, made.plan, history, may, (made.ran, past), main_theorem p may.meets made.plan history made.fits made.ran.whole.legal, added);
    full = λ h. absurd (omega arith);
    must = record {
      ends = λ other plan held. rw own refl;
      reaches_end = λ other plan held room. rw own refl;
      stops_full = λ other plan held none. absurd (not_whole other plan held none);
      stops_at_once = λ other plan held full. absurd (not_whole other plan held (λ h whole roomy. never_whole other plan h whole roomy full));
      others = others_played policy trace text jobs p made.trace made.plan code read made.spells made.means (λ three. omega arith);
    };
    lines = λ low. absurd (let bad = rw own at low in cc);
    bad_text = λ h. absurd (omega arith);
  }
    where
      -- it is a whole history of what the files hold, in which each round had room
      not_whole : (other : Meaning) (plan : Plan) → DoPlay policy trace other plan → ((h : List Entry) → Whole other plan h → HadRoom plan h → ⊥) → ⊥
      not_whole other plan held none =
          let s = held_play policy trace text jobs p other plan read held in
          let is_plan = same_plan p jobs made.trace held.lines made.plan plan made.spells made.means s.spells s.means in
          none history (subst (λ (q : Meaning). Whole q plan history) s.policy (subst (λ (x : Plan). Whole p x history) is_plan made.ran.whole)) (subst (λ (x : Plan). HadRoom x history) is_plan made.ran.roomy)

  ran_full : (policy trace : Told) (text jobs : List ℕ) (p : Meaning) (history : List Entry) (before after : Option (List ℕ)) (code : ℕ) → Read policy trace text jobs p
      → (made : RunsText p jobs (played.Full history)) → AllPassed Passed made.plan (rounds_begun history) → code ≡ 8 → Adds (text_of_history made.plan.cores history) before after → RunsTruly Passed policy trace before after code
  ran_full policy trace text jobs p history before after code read made past own added =
      let may = may_play policy trace text jobs p made.trace made.plan read made.spells made.means made.fits made.limits in
      record {
        whole = λ h. absurd (omega arith);
        full = λ h. (p, made.plan, history, may, (made.ran, past), main_theorem p may.meets made.plan history made.fits made.ran.legal, added);
        must = record {
          ends = λ other plan held. rw own refl;
          reaches_end = λ other plan held room.
              let s = held_play policy trace text jobs p other plan read held in
              let is_plan = same_plan p jobs made.trace held.lines made.plan plan made.spells made.means s.spells s.means in
              absurd (room_suffices p made.plan history made.fits (handler_obligations p may.meets) (subst HasRoomForRounds (sym is_plan) room) made.ran.legal made.ran.full);
          stops_full = λ other plan held none. rw own refl;
          stops_at_once = λ other plan held full. rw own refl;
          others = others_played policy trace text jobs p made.trace made.plan code read made.spells made.means (λ three. omega arith);
        };
        lines = λ low. absurd (let bad = rw own at low in cc);
        bad_text = λ h. absurd (omega arith);
      }

  -- the trace was read
  answered_trace : (policy trace : Told) (text jobs : List ℕ) (p : Meaning) (play : PlayAnswer) (before after : Option (List ℕ)) (code : ℕ) → Read policy trace text jobs p
      → IsGatedRunOf Passed p jobs play → code ≡ code_of (play_status play) → Adds (plays.output_of play) before after → RunsTruly Passed policy trace before after code
  answered_trace policy trace text jobs p (play_answer.Broken fault) before after code read is own added = broken_trace (GatedEnds Passed) (GatedStops Passed) MustRun must_of policy trace text jobs p fault before after code read is.0 own added
  answered_trace policy trace text jobs p (play_answer.Played (cores.Whole closed)) before after code read is own added =
      ran_whole policy trace text jobs p (merged closed) before after code read is.0.runs (past_by Passed p jobs (cores.Whole closed) is.1 is.0.runs) own (of_plan closed is.0.runs.plan before after is.0.count added)
  answered_trace policy trace text jobs p (play_answer.Played (cores.Full closed)) before after code read is own added =
      ran_full policy trace text jobs p (merged closed) before after code read is.0.runs (past_by Passed p jobs (cores.Full closed) is.1 is.0.runs) own (of_plan closed is.0.runs.plan before after is.0.count added)

pub run_law : (Passed : ℕ → ℕ → Type 0) (policy trace : List ℕ) → CommandLaw Passed (Some (run policy trace))
run_law Passed policy trace =
    let asked : Option Asked = Some (run policy trace) in
    record {
      known = λ text a is. play_known IsRunOf text a is (statuses_of asked) refl refl refl refl refl refl;
      crowds = λ told text before after a files is. play_crowds IsRunOf text a is asked told before after policy (inl (refl, refl)) files.0;
      shows = λ told text before after code a files is.
          trace_shows (GatedEnds Passed) (GatedStops Passed) MustRun must_of (IsGatedRunOf Passed) (answered_trace Passed) told policy trace text before after code a files is;
      long = λ told before after code which long own.
          long_trace (GatedEnds Passed) (GatedStops Passed) MustRun must_of (told policy) (told trace) before after code
          (λ text jobs held also. never_long which told (trace_files policy trace) long ((text, held), ((jobs, also), tt))) own;
      stopped = λ told before after code stop file. stopped_run Passed (told policy) (told trace) before after code stop;
    }

pub crew_law : (Passed : ℕ → ℕ → Type 0) (policy trace : List ℕ) (workers : ℕ) → CommandLaw Passed (Some (crew policy trace workers))
crew_law Passed policy trace workers =
    let asked : Option Asked = Some (crew policy trace workers) in
    record {
      known = λ text a is. play_known IsRunOf text a is (statuses_of asked) refl refl refl refl refl refl;
      crowds = λ told text before after a files is. play_crowds IsRunOf text a is asked told before after policy (inl (refl, refl)) files.0;
      shows = λ told text before after code a files is.
          trace_shows (GatedEnds Passed) (GatedStops Passed) MustRun must_of (IsGatedRunOf Passed) (answered_trace Passed) told policy trace text before after code a files is;
      long = λ told before after code which long own.
          long_trace (GatedEnds Passed) (GatedStops Passed) MustRun must_of (told policy) (told trace) before after code
          (λ text jobs held also. never_long which told (trace_files policy trace) long ((text, held), ((jobs, also), tt))) own;
      stopped = λ told before after code stop file. stopped_run Passed (told policy) (told trace) before after code stop;
    }
