-- From how a command that simulates a trace ends to the truth of what it says.
use Rattle.std.specs.Prelude.{IsFalse}
use Rattle.std.proofs.Common.{◌≡◌, ◌≢◌, ◌∙◌, ℕ, ◌≤◌, inl, inr, List, [], ◌∷◌, ◌++◌, length, take, Option, Some, append-nil, ap, refl, sym, arith, subst}
use Rattle.std.proofs.lemmas.List.Folds.{flat_map-map}
use Rattle.sched_io.specs.Puts.{joined}
use Rattle.sched_io.specs.Told.{Told}
use Rattle.sched_io.specs.Written.{Adds}
use Rattle.policy_eval.specs.Obligations.{MeetsHandlerObligations, MeetsObligations}
use Rattle.policy_tree.specs.Meaning.{Meaning}
use Rattle.policy_checker.specs.Playable.{is_playable}
use Rattle.policy_checker.specs.declared.verdict.Verdict.{Verdict}
use Rattle.policy_checker.specs.declared.verdict.Verdict.TheVariants as verdict
use Rattle.policy_checker.proofs.KeptHandlers.{playable_law}
use Rattle.policy_answers.specs.Checks.{IsCheckOf}
use Rattle.policy_answers.specs.Lines.{check_lines}
use Rattle.policy_answers.specs.declared.answer.CheckAnswer.{CheckAnswer}
use Rattle.policy_answers.specs.declared.answer.CheckAnswer.TheVariants as checked
use Rattle.round_model.specs.declared.entry.Entry.{Entry}
use Rattle.round_model.specs.declared.plan.Plan.{Plan}
use Rattle.round_model.specs.Legal.{Legal}
use Rattle.round_model.specs.OnePlace.{OnePlace}
use Rattle.serial_steps.specs.declared.serial.Played.{Played}
use Rattle.trace_play.specs.declared.cores.PlayedCores.TheVariants as cores
use Rattle.serial_steps.specs.SerialEnds.{EndsWhole, IsFull, StopsFull}
use Rattle.serial_steps.specs.SerialRounds.{serial_rounds}
use Rattle.round_laws.specs.MainTheorem.{KeepsLaws}
use Rattle.round_laws.proofs.MainTheorem.{main_theorem}
use Rattle.round_laws.proofs.OnePlace.{one_place_law}
use Rattle.job_trace.specs.Plans.{SpellsPlan}
use Rattle.job_trace.specs.TraceText.{SpellsTrace}
use Rattle.history_merge.specs.Merged.{merged}
use Rattle.sched_history.specs.Lines.{entry_lines}
use Rattle.sched_history.specs.Spelling.{header, line_of, lines_of_history, second_form, text_of_history}
use Rattle.trace_play.specs.declared.fault.LineFault.{LineFault}
use Rattle.trace_play.specs.Plays as plays
use Rattle.trace_play.specs.Told as trace_faults
use Rattle.trace_play.proofs.OnePlay.{never_faulty}
use Rattle.trace_simulation.specs.declared.answer.PlayedWaste.TheVariants as wasted
use Rattle.trace_simulation.specs.declared.answer.SimulationAnswer.{SimulationAnswer}
use Rattle.trace_simulation.specs.declared.answer.SimulationAnswer.TheVariants as simulation
use Rattle.trace_simulation.specs.Lines as simulations
use Rattle.trace_simulation.specs.Simulations.{IsSimulationOf, IsWasteOf, Simulates}
use Rattle.ipanema_cli.specs.Causes.{OneOf}
use Rattle.ipanema_cli.specs.Simulations.{IsPlayable, Simulating, lets_play}
use Rattle.ipanema_cli.specs.Status.{check_status, code_of, simulation_status, verdict_status}
use Rattle.ipanema_cli.specs.Texts.{MayRead}
use Rattle.ipanema_cli.specs.CheckTruths.{Holds, Spells}
use Rattle.ipanema_cli.specs.SimulationTruths.{DoHoldPlayable, DoSimulate, MayHoldPlayable, MustSimulate, SaysHistory, SaysWaste, SimulatesTruly}
use Rattle.ipanema_cli.specs.declared.answers.Answer.{Answer}
use Rattle.ipanema_cli.specs.declared.answers.Answer.TheVariants as answer
use Rattle.ipanema_cli.specs.declared.texts.TextKind.TheVariants as kind
use Rattle.ipanema_cli.proofs.CheckTruths.{refusal_not_0, stopped_refuses, tells_fault}
use Rattle.ipanema_cli.proofs.Stopped.{Stopped, at_4, at_5, at_6, stopped_not}
use Rattle.ipanema_cli.proofs.PolicyFacts.{judged_refuses, read_refuses, refused_text, resolved, same_policy, text_read}
use Rattle.ipanema_cli.proofs.Unplayed.{never_certain, unplayable_lines}
use Rattle.ipanema_cli.proofs.TraceTruths.{SamePlay, low_or_stopped, no_line, refusal_not_8, same_plan}
use Rattle.command_words.specs.Command.{Asked, simulate, waste}
use Rattle.ipanema_cli.specs.Answers.{status_of}
use Rattle.ipanema_cli.specs.Commands.{statuses_of, trace_files}
use Rattle.ipanema_cli.specs.Files.{AreRead, IsFileOf}
use Rattle.ipanema_cli.specs.Replies.{RepliesSimulation}
use Rattle.ipanema_cli.specs.declared.texts.TextKind.{TextKind}
use Rattle.ipanema_cli.proofs.CheckTruths.{never_long}
use Rattle.ipanema_cli.proofs.CodeLemmas.{check_among, simulation_among}
use Rattle.ipanema_cli.proofs.CommandLaw.{CommandLaw, Crowds, Shows, given_either}
use Rattle.ipanema_cli.proofs.Crowding.{check_crowds}

-- What serial play of the trace came to: a fault of it, or a history of which this is said.
data Came (Says : Meaning → Plan → List Entry → List ℕ → Type 0) (p : Meaning) (jobs bytes : List ℕ) (code : ℕ) : Type 0 where
  broke : (fault : LineFault) → plays.HasFault p jobs fault → bytes ≡ trace_faults.fault_line fault → code ≡ 2 → Came Says p jobs bytes code
  ended : (history : List Entry) (made : Simulates p jobs EndsWhole history) → Says p made.plan history bytes → code ≡ 0 → Came Says p jobs bytes code
  filled : (history : List Entry) (made : Simulates p jobs StopsFull history) → Says p made.plan history bytes → code ≡ 8 → Came Says p jobs bytes code

-- what a command answers comes to that
abbrev Comes : (Is : Simulating) (Says : Meaning → Plan → List Entry → List ℕ → Type 0) → Type 0
Comes Is Says = (p : Meaning) (jobs : List ℕ) (s : SimulationAnswer) (code : ℕ) → Is p jobs s → code ≡ code_of (simulation_status s) → Came Says p jobs (joined (simulations.lines_of s)) code

-- the bytes of a history's lines are its text
pub text_of_lines : (cores : ℕ) (history : List Entry) → joined (lines_of_history cores history) ≡ text_of_history cores history
text_of_lines cores history =
    ap (λ (bytes : List ℕ). header cores ++ bytes) (flat_map-map (λ l. l) line_of (entry_lines 0 (second_form cores) history))

-- the plan that was played is the one that the trace means
means_plan : (p : Meaning) (jobs : List ℕ) (play : Played) (made : plays.PlaysText p jobs play) → plays.MeansPlan p jobs made.plan
means_plan p jobs play made = record { trace = made.trace; spells = made.spells; means = made.means; fits = made.fits; limits = made.limits }

simulation_comes : Comes IsSimulationOf SaysHistory
simulation_comes p jobs (simulation.Broken fault) code has own = broke fault has (append-nil (trace_faults.fault_line fault)) own
simulation_comes p jobs (simulation.Played (cores.Whole closed)) code is own =
    ended (merged closed) (record { plan = is.plays.plan; means = means_plan p jobs _ is.plays; ends = is.plays.played })
    (text_of_lines (length closed.cores) (merged closed) ∙ ap (λ cores. text_of_history cores (merged closed)) is.count) own
simulation_comes p jobs (simulation.Played (cores.Full closed)) code is own =
    filled (merged closed) (record { plan = is.plays.plan; means = means_plan p jobs _ is.plays; ends = is.plays.played })
    (text_of_lines (length closed.cores) (merged closed) ∙ ap (λ cores. text_of_history cores (merged closed)) is.count) own
simulation_comes p jobs (simulation.Wasted told) code is own = absurd is

waste_comes : Comes IsWasteOf SaysWaste
waste_comes p jobs (simulation.Broken fault) code has own = broke fault has (append-nil (trace_faults.fault_line fault)) own
waste_comes p jobs (simulation.Played play) code is own = absurd is
waste_comes p jobs (simulation.Wasted (wasted.Whole report)) code made own = ended made.history made.simulates (report, made.waste, refl) own
waste_comes p jobs (simulation.Wasted (wasted.Full report)) code made own = filled made.history made.simulates (report, made.waste, refl) own

-- what must come of a stop
stopped_must : (policy trace : Told) (code : ℕ) → Stopped code → MustSimulate policy trace code
stopped_must policy trace code stop = record {
  reaches_end = λ p plan held none. elim stop [ at_4 e ↦ rw e refl | at_5 e ↦ rw e refl | at_6 e ↦ rw e refl ];
  stops_full = λ p plan k held full. elim stop [ at_4 e ↦ rw e refl | at_5 e ↦ rw e refl | at_6 e ↦ rw e refl ];
  faulty = λ p jobs fault held has. elim stop [ at_4 e ↦ rw e refl | at_5 e ↦ rw e refl | at_6 e ↦ rw e refl ];
  refuses = λ p jobs held also unmet. elim stop [ at_4 e ↦ rw e refl | at_5 e ↦ rw e refl | at_6 e ↦ rw e refl ];
  unjudged = λ jobs also. stopped_refuses policy code stop;
}

-- both files were read, and the policy can be played
may_hold : (policy trace : Told) (text jobs : List ℕ) (p : Meaning) → MayRead kind.Policy policy text → MayRead kind.Trace trace jobs → IsPlayable text p → MayHoldPlayable policy trace p jobs
may_hold policy trace text jobs p read trace_read playable = record {
  text = text;
  policy_read = read;
  trace_read = trace_read;
  playable = playable;
  handlers = playable_law.meets p (resolved policy text p read playable.spells) playable.certified;
}

module _ (policy trace : Told) (p : Meaning) (jobs : List ℕ) (may : MayHoldPlayable policy trace p jobs) where
  -- what is held is what was read
  same_meaning : (other : Meaning) → Spells policy other → p ≡ other
  same_meaning other held = same_policy policy may.text p other may.policy_read may.playable.spells held

  held_simulation : (other : Meaning) (plan : Plan) (held : DoSimulate policy trace other plan) → SamePlay may.text jobs p other held.lines plan
  held_simulation other plan held =
      let same_jobs = text_read kind.Trace trace jobs held.jobs may.trace_read held.held.trace_held in
      let is_policy = same_meaning other held.held.spells in
      record {
        policy = is_policy;
        spells = subst (λ (t : List ℕ). SpellsTrace t held.lines) (sym same_jobs) held.spells;
        means = subst (λ (q : Meaning). SpellsPlan q held.lines plan) (sym is_policy) held.means;
      }

  -- a fault of what is held is one of what was read
  held_fault : (other : Meaning) (also : List ℕ) (fault : LineFault) → DoHoldPlayable policy trace other also → plays.HasFault other also fault → plays.HasFault p jobs fault
  held_fault other also fault held has =
      let same_jobs = text_read kind.Trace trace jobs also may.trace_read held.trace_held in
      subst (λ (q : Meaning). plays.HasFault q jobs fault) (sym (same_meaning other held.spells))
      (subst (λ (t : List ℕ). plays.HasFault other t fault) (sym same_jobs) has)

  -- the policy that is held meets its handler obligations
  held_handlers : (other : Meaning) → Spells policy other → MeetsHandlerObligations other
  held_handlers other held = subst MeetsHandlerObligations (same_meaning other held) may.handlers

  -- a round that might not fit in the one plan might not in the other
  same_full : (other : Meaning) (made plan : Plan) (k : ℕ) → p ≡ other → made ≡ plan → IsFull plan (serial_rounds other plan k) → IsFull made (serial_rounds p made k)
  same_full other made plan k same is_plan full =
      subst (λ (x : Plan). IsFull x (serial_rounds p x k)) (sym is_plan) (subst (λ (q : Meaning). IsFull plan (serial_rounds q plan k)) (sym same) full)

  held_full : (other : Meaning) (made plan : Plan) (k : ℕ) → p ≡ other → made ≡ plan → IsFull made (serial_rounds p made k) → IsFull plan (serial_rounds other plan k)
  held_full other made plan k same is_plan full =
      subst (λ (q : Meaning). IsFull plan (serial_rounds q plan k)) same (subst (λ (x : Plan). IsFull x (serial_rounds p x k)) is_plan full)

  -- each legal history of a plan that the trace means keeps the law of one place, and where the policy meets its
  -- obligations, the others
  stands : (plan : Plan) (history : List Entry) → plays.MeansPlan p jobs plan → Legal p plan history → (k : ℕ) → k ≤ length history → OnePlace p plan (take k history)
  stands plan history means legal = one_place_law p plan history means.fits may.handlers legal

  keeps : (plan : Plan) (history : List Entry) → plays.MeansPlan p jobs plan → Legal p plan history → MeetsObligations p → KeepsLaws p plan history
  keeps plan history means legal meets = main_theorem p meets plan history means.fits legal

  held_plan : (made plan : Plan) (other : Meaning) → plays.MeansPlan p jobs made → DoSimulate policy trace other plan → made ≡ plan
  held_plan made plan other means held =
      let s = held_simulation other plan held in
      same_plan p jobs means.trace held.lines made plan means.spells means.means s.spells s.means

  module _ (Says : Meaning → Plan → List Entry → List ℕ → Type 0) where
    -- what was said is true
    came_truly : (bytes : List ℕ) (before after : Option (List ℕ)) (code : ℕ) → Came Says p jobs bytes code → Adds bytes before after → SimulatesTruly Says policy trace before after code
    came_truly bytes before after code (broke fault has is own) added = record {
      whole = λ h. absurd (omega arith);
      full = λ h. absurd (omega arith);
      must = record {
        reaches_end = λ other plan held none. absurd (never other plan held);
        stops_full = λ other plan k held full. absurd (never other plan held);
        faulty = λ other also found held has_it. rw own refl;
        refuses = λ other also held holding unmet. absurd (unmet (held_handlers other held));
        unjudged = λ also holding. judged_refuses policy may.text p code may.policy_read may.playable.spells may.playable.few;
      };
      lines = λ low. absurd (let bad = rw own at low in cc);
      bad_text = λ h. inr (record { p = p; jobs = jobs; may = may; fault = fault; has = has; written = subst (λ (b : List ℕ). Adds b before after) is added });
    }
      where
        never : (other : Meaning) (plan : Plan) → DoSimulate policy trace other plan → ⊥
        never other plan held = let s = held_simulation other plan held in never_faulty p jobs held.lines plan fault s.spells s.means has
    came_truly bytes before after code (ended history made says own) added = record {
      whole = λ h. record { p = p; jobs = jobs; may = may; plan = made.plan; means = made.means; history = history; ends = made.ends; one_place = stands made.plan history made.means made.ends.whole.legal; keeps = keeps made.plan history made.means made.ends.whole.legal; bytes = bytes; says = says; written = added };
      full = λ h. absurd (omega arith);
      must = record {
        reaches_end = λ other plan held none. rw own refl;
        stops_full = λ other plan k held full.
            absurd (made.ends.fitted k (same_full other made.plan plan k (same_meaning other held.held.spells) (held_plan made.plan plan other made.means held) full));
        faulty = λ other also found held has_it. absurd (never_faulty p jobs made.means.trace made.plan found made.means.spells made.means.means (held_fault other also found held has_it));
        refuses = λ other also held holding unmet. absurd (unmet (held_handlers other held));
        unjudged = λ also holding. judged_refuses policy may.text p code may.policy_read may.playable.spells may.playable.few;
      };
      lines = λ low. absurd (let bad = rw own at low in cc);
      bad_text = λ h. absurd (omega arith);
    }
    came_truly bytes before after code (filled history made says own) added = record {
      whole = λ h. absurd (omega arith);
      full = λ h. record { p = p; jobs = jobs; may = may; plan = made.plan; means = made.means; history = history; ends = made.ends; one_place = stands made.plan history made.means made.ends.legal; keeps = keeps made.plan history made.means made.ends.legal; bytes = bytes; says = says; written = added };
      must = record {
        reaches_end = λ other plan held none.
            let k : ℕ = made.ends.rounds in
            let here : IsFull made.plan (serial_rounds p made.plan k) = subst (IsFull made.plan) made.ends.serial made.ends.full in
            absurd (none k (held_full other made.plan plan k (same_meaning other held.held.spells) (held_plan made.plan plan other made.means held) here));
        stops_full = λ other plan k held full. rw own refl;
        faulty = λ other also found held has_it. absurd (never_faulty p jobs made.means.trace made.plan found made.means.spells made.means.means (held_fault other also found held has_it));
        refuses = λ other also held holding unmet. absurd (unmet (held_handlers other held));
        unjudged = λ also holding. judged_refuses policy may.text p code may.policy_read may.playable.spells may.playable.few;
      };
      lines = λ low. absurd (let bad = rw own at low in cc);
      bad_text = λ h. absurd (omega arith);
    }

module _ (Says : Meaning → Plan → List Entry → List ℕ → Type 0) where
  pub stopped_simulation : (policy trace : Told) (before after : Option (List ℕ)) (code : ℕ) → Stopped code → SimulatesTruly Says policy trace before after code
  stopped_simulation policy trace before after code stop = record {
    whole = λ h. absurd (stopped_not code 0 (λ e. omega arith) (λ e. omega arith) (λ e. omega arith) stop h);
    full = λ h. absurd (stopped_not code 8 (λ e. omega arith) (λ e. omega arith) (λ e. omega arith) stop h);
    must = stopped_must policy trace code stop;
    lines = λ low. absurd (low_or_stopped code low stop);
    bad_text = λ h. absurd (stopped_not code 2 (λ e. omega arith) (λ e. omega arith) (λ e. omega arith) stop h);
  }

  -- a file is too long, which one doesn't matter
  long_simulation : (policy trace : Told) (before after : Option (List ℕ)) (code : ℕ) → ((text jobs : List ℕ) → Holds kind.Policy policy text → Holds kind.Trace trace jobs → ⊥) → code ≡ 10
      → SimulatesTruly Says policy trace before after code
  long_simulation policy trace before after code none own = record {
    whole = λ h. absurd (omega arith);
    full = λ h. absurd (omega arith);
    must = record {
      reaches_end = λ p plan held _. absurd (none held.held.spells.text held.jobs held.held.spells.held held.held.trace_held);
      stops_full = λ p plan k held _. absurd (none held.held.spells.text held.jobs held.held.spells.held held.held.trace_held);
      faulty = λ p jobs fault held _. absurd (none held.spells.text jobs held.spells.held held.trace_held);
      refuses = λ p jobs held also _. absurd (none held.text jobs held.held also);
      unjudged = λ jobs also. record {
        crowded = λ text p held _ _. absurd (none text jobs held also);
        faulty = λ text fault held _. absurd (none text jobs held also);
      };
    };
    lines = λ low. absurd (let bad = rw own at low in cc);
    bad_text = λ h. absurd (omega arith);
  }

  -- the policy was judged, and can't be played
  judged : (policy trace : Told) (v : Verdict) (text : List ℕ) (before after : Option (List ℕ)) (code : ℕ) → MayRead kind.Policy policy text → IsCheckOf text (checked.Judged v) → IsFalse (is_playable v)
      → code ≡ code_of (verdict_status v) → code ≢ 0 → code ≢ 8 → code ≢ 2 → OneOf (1 ∷ 3 ∷ 4 ∷ 5 ∷ 6 ∷ []) code
      → Adds (joined (check_lines (checked.Judged v))) before after → SimulatesTruly Says policy trace before after code
  judged policy trace v text before after code read is unplayable own not_0 not_8 not_2 low added = record {
    whole = λ h. absurd (not_0 h);
    full = λ h. absurd (not_8 h);
    must = record {
      reaches_end = λ other plan held _. absurd (never_certain policy text v read is unplayable other held.held.spells held.held.certain);
      stops_full = λ other plan k held _. absurd (never_certain policy text v read is unplayable other held.held.spells held.held.certain);
      faulty = λ other jobs fault held _. absurd (never_certain policy text v read is unplayable other held.spells held.certain);
      refuses = λ other jobs held also _. low;
      unjudged = λ jobs also. read_refuses policy text (checked.Judged v) code read is own;
    };
    lines = λ few. unplayable_lines policy text v read is unplayable before after code own added;
    bad_text = λ h. absurd (not_2 h);
  }

  -- the policy can't be played
  unplayed : (policy trace : Told) (c : CheckAnswer) (text : List ℕ) (before after : Option (List ℕ)) (code : ℕ) → MayRead kind.Policy policy text → IsCheckOf text c → IsFalse (lets_play c)
      → code ≡ code_of (check_status c) → Adds (joined (check_lines c)) before after → SimulatesTruly Says policy trace before after code
  unplayed policy trace (checked.Judged (verdict.Accepted kept)) text before after code read is unplayable own added = absurd (cc)
  unplayed policy trace (checked.Judged (verdict.Refused answers kept)) text before after code read is unplayable own added =
      judged policy trace (verdict.Refused answers kept) text before after code read is unplayable own (λ e. omega arith) (λ e. omega arith) (λ e. omega arith) (rw own refl) added
  unplayed policy trace (checked.Judged (verdict.Undecided answers kept)) text before after code read is unplayable own added =
      judged policy trace (verdict.Undecided answers kept) text before after code read is unplayable own (λ e. omega arith) (λ e. omega arith) (λ e. omega arith) (rw own refl) added
  unplayed policy trace (checked.Unjudged why) text before after code read is unplayable own added = record {
    whole = λ h. absurd (refusal_not_0 why code own h);
    full = λ h. absurd (refusal_not_8 why code own h);
    must = record {
      reaches_end = λ p plan held _. absurd (refused_text policy text why p read is held.held.spells);
      stops_full = λ p plan k held _. absurd (refused_text policy text why p read is held.held.spells);
      faulty = λ p jobs fault held _. absurd (refused_text policy text why p read is held.spells);
      refuses = λ p jobs held also _. absurd (refused_text policy text why p read is held);
      unjudged = λ jobs also. read_refuses policy text (checked.Unjudged why) code read is own;
    };
    lines = λ low. absurd (no_line why code own low);
    bad_text = λ h. inl (tells_fault policy text why before after code read is own added h);
  }

  simulation_shows : (Is : Simulating) → Comes Is Says → (told : List ℕ → Told) (policy trace : List ℕ) (text : TextKind → List ℕ) (before after : Option (List ℕ)) (code : ℕ) (a : Answer)
      → AreRead told text (trace_files policy trace) → RepliesSimulation Is (text kind.Policy) (text kind.Trace) a → Shows (SimulatesTruly Says (told policy) (told trace) before after code) before after code a
  simulation_shows Is comes told policy trace text before after code a files is =
      given_either answer.Checked answer.Simulated _ _ (Shows (SimulatesTruly Says (told policy) (told trace) before after code) before after code)
      (λ c is own added. unplayed (told policy) (told trace) c (text kind.Policy) before after code files.0 is.0 is.1 own added)
      (λ s is own added. came_truly (told policy) (told trace) is.0 (text kind.Trace)
      (may_hold (told policy) (told trace) (text kind.Policy) (text kind.Trace) is.0 files.0 files.1.0 is.1) Says
      (joined (simulations.lines_of s)) before after code (comes is.0 (text kind.Trace) s code is.2 own) added) a is

simulation_not_10 : (s : SimulationAnswer) → code_of (simulation_status s) ≢ 10
simulation_not_10 (simulation.Broken fault) e = omega arith
simulation_not_10 (simulation.Played (cores.Whole closed)) e = omega arith
simulation_not_10 (simulation.Played (cores.Full closed)) e = omega arith
simulation_not_10 (simulation.Wasted (wasted.Whole told)) e = omega arith
simulation_not_10 (simulation.Wasted (wasted.Full told)) e = omega arith

module _ (Is : Simulating) (text : TextKind → List ℕ) (a : Answer) (is : RepliesSimulation Is (text kind.Policy) (text kind.Trace) a) where
  -- its number is one of these
  simulation_known : (codes : List ℕ) → OneOf codes 0 → OneOf codes 1 → OneOf codes 2 → OneOf codes 3 → OneOf codes 8 → OneOf codes 10 → OneOf codes (code_of (status_of a))
  simulation_known codes done refused bad undecided full much =
      given_either answer.Checked answer.Simulated _ _ (λ a. OneOf codes (code_of (status_of a)))
      (λ c is. check_among codes bad much done refused undecided c) (λ s is. simulation_among codes bad done full s) a is

  -- and 10 where an obligation has too many cases
  simulation_crowds : (asked : Option Asked) (told : List ℕ → Told) (before after : Option (List ℕ)) (policy : List ℕ) → IsFileOf asked kind.Policy policy
      → MayRead kind.Policy (told policy) (text kind.Policy) → Crowds asked told before after a
  simulation_crowds asked told before after policy file read =
      given_either answer.Checked answer.Simulated _ _ (Crowds asked told before after)
      (λ c is. check_crowds asked told before after policy (text kind.Policy) file read c is.0) (λ s is e added. absurd (simulation_not_10 s e)) a is

pub simulate_law : (Passed : ℕ → ℕ → Type 0) (policy trace : List ℕ) → CommandLaw Passed (Some (simulate policy trace))
simulate_law Passed policy trace =
    let asked : Option Asked = Some (simulate policy trace) in
    record {
      known = λ text a is. simulation_known IsSimulationOf text a is (statuses_of asked) refl refl refl refl refl refl;
      crowds = λ told text before after a files is. simulation_crowds IsSimulationOf text a is asked told before after policy (inl (refl, refl)) files.0;
      shows = λ told text before after code a files is. simulation_shows SaysHistory IsSimulationOf simulation_comes told policy trace text before after code a files is;
      long = λ told before after code which long own.
          long_simulation SaysHistory (told policy) (told trace) before after code
          (λ text jobs held also. never_long which told (trace_files policy trace) long ((text, held), ((jobs, also), tt))) own;
      stopped = λ told before after code stop file. stopped_simulation SaysHistory (told policy) (told trace) before after code stop;
    }

pub waste_law : (Passed : ℕ → ℕ → Type 0) (policy trace : List ℕ) → CommandLaw Passed (Some (waste policy trace))
waste_law Passed policy trace =
    let asked : Option Asked = Some (waste policy trace) in
    record {
      known = λ text a is. simulation_known IsWasteOf text a is (statuses_of asked) refl refl refl refl refl refl;
      crowds = λ told text before after a files is. simulation_crowds IsWasteOf text a is asked told before after policy (inl (refl, refl)) files.0;
      shows = λ told text before after code a files is. simulation_shows SaysWaste IsWasteOf waste_comes told policy trace text before after code a files is;
      long = λ told before after code which long own.
          long_simulation SaysWaste (told policy) (told trace) before after code
          (λ text jobs held also. never_long which told (trace_files policy trace) long ((text, held), ((jobs, also), tt))) own;
      stopped = λ told before after code stop file. stopped_simulation SaysWaste (told policy) (told trace) before after code stop;
    }
