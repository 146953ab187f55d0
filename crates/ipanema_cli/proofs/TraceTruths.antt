-- From how a command that plays a trace ends to the truth of what it says, as far as that isn't of its play.
use Rattle.std.specs.List.{list_any}
use Rattle.std.specs.Prelude.{IsFalse}
use Rattle.std.proofs.Common.{◌≡◌, ◌≢◌, ℕ, ◌==◌, ◌||◌, Bool, true, false, inl, inr, List, [], ◌∷◌, ◌++◌, length, Option, append-nil, ap, refl, sym, arith, subst}
use Rattle.std.proofs.lemmas.List.Folds.{flat_map-map}
use Rattle.sched_io.specs.Puts.{joined}
use Rattle.sched_io.specs.Told.{Told}
use Rattle.sched_io.specs.Written.{Adds}
use Rattle.policy_eval.specs.Obligations.{MeetsObligations}
use Rattle.policy_tree.specs.declared.typed.Policy.{Policy}
use Rattle.policy_tree.specs.Meaning.{Meaning, meaning_of}
use Rattle.policy_checker.specs.declared.answer.Answered.{Answered}
use Rattle.policy_checker.specs.declared.verdict.Verdict.{Verdict}
use Rattle.policy_checker.specs.declared.verdict.Verdict.TheVariants as verdict
use Rattle.policy_checker.proofs.True.{meets}
use Rattle.policy_checker.proofs.Worth.{unmet}
use Rattle.policy_answers.specs.Checks.{IsCheckOf, IsJudged}
use Rattle.policy_answers.specs.Lines.{check_lines}
use Rattle.policy_answers.specs.declared.answer.CheckAnswer.{CheckAnswer}
use Rattle.policy_answers.specs.declared.answer.CheckAnswer.TheVariants as checked
use Rattle.policy_answers.specs.declared.reading.Refusal.{Refusal}
use Rattle.policy_answers.specs.declared.reading.Refusal.TheVariants as refusal
use Rattle.round_model.specs.declared.entry.Entry.{Entry}
use Rattle.round_model.specs.declared.plan.Plan.{Plan}
use Rattle.round_model.specs.Fits.{Fits}
use Rattle.round_model.specs.Limits.{IsWithinLimits}
use Rattle.job_trace.specs.declared.trace.Numbered.{Numbered}
use Rattle.job_trace.specs.Plans.{SpellsPlan}
use Rattle.job_trace.specs.TraceText.{SpellsTrace}
use Rattle.trace_play.specs.declared.answer.PlayAnswer.{PlayAnswer}
use Rattle.trace_play.specs.declared.answer.PlayAnswer.TheVariants as play_answer
use Rattle.trace_play.specs.declared.fault.LineFault.{LineFault}
use Rattle.trace_play.specs.Plays as plays
use Rattle.trace_play.specs.Told as trace_faults
use Rattle.sched_history.specs.Lines.{entry_lines}
use Rattle.sched_history.specs.Spelling.{header, line_of, second_form}
use Rattle.history_merge.specs.Merged.{merged}
use Rattle.trace_play.proofs.OnePlay.{never_faulty, one_plan, one_trace}
use Rattle.ipanema_cli.specs.TraceAnswers.{Playing}
use Rattle.ipanema_cli.specs.PolicyAnswers.{IsAccepted, accepts}
use Rattle.ipanema_cli.specs.Answers.{play_status, status_of}
use Rattle.ipanema_cli.specs.Causes.{OneOf}
use Rattle.ipanema_cli.specs.Status.{check_status, code_of, refusal_status, verdict_status}
use Rattle.ipanema_cli.specs.Texts.{MayRead}
use Rattle.ipanema_cli.specs.CheckTruths.{Decides, Holds, Refuses, Spells}
use Rattle.ipanema_cli.specs.TraceTruths.{DoHold, DoPlay, MayPlay, MustAnswer, TracesTruly}
use Rattle.ipanema_cli.specs.declared.answers.Answer.{Answer}
use Rattle.ipanema_cli.specs.declared.answers.Answer.TheVariants as answer
use Rattle.ipanema_cli.specs.declared.texts.TextKind.TheVariants as kind
use Rattle.ipanema_cli.proofs.CheckTruths.{refusal_not_0, stopped_refuses, tells_fault, verdict_answers}
use Rattle.ipanema_cli.proofs.Stopped.{Stopped, at_4, at_5, at_6, stopped_not}
use Rattle.ipanema_cli.proofs.PolicyFacts.{judged_refuses, read_decides, read_refuses, refused_text, resolved, same_policy, text_read}
use Rattle.trace_play.specs.declared.cores.PlayedCores.TheVariants as cores
use Rattle.command_words.specs.Command.{Asked}
use Rattle.ipanema_cli.specs.Commands.{trace_files}
use Rattle.ipanema_cli.specs.Files.{AreRead, IsFileOf}
use Rattle.ipanema_cli.specs.Replies.{RepliesPlay}
use Rattle.ipanema_cli.specs.declared.texts.TextKind.{TextKind}
use Rattle.ipanema_cli.proofs.CodeLemmas.{check_among, play_among}
use Rattle.ipanema_cli.proofs.CommandLaw.{Crowds, Shows, given_either}
use Rattle.ipanema_cli.proofs.Crowding.{check_crowds}

-- the statuses that are always possible
pub weaker_0 : (code : ℕ) → OneOf (3 ∷ 4 ∷ 5 ∷ 6 ∷ []) code → OneOf (0 ∷ 3 ∷ 4 ∷ 5 ∷ 6 ∷ []) code
weaker_0 code low = front (0 == code) (list_any (λ s. s == code) (3 ∷ 4 ∷ 5 ∷ 6 ∷ [])) low
  where
    front : (a b : Bool) → b ≡ true → (a || b) ≡ true
    front true b is = refl
    front false b is = is

pub weaker_8 : (code : ℕ) → OneOf (3 ∷ 4 ∷ 5 ∷ 6 ∷ []) code → OneOf (3 ∷ 4 ∷ 5 ∷ 6 ∷ 8 ∷ []) code
weaker_8 code low = back (3 == code) (4 == code) (5 == code) (6 == code) (8 == code) low
  where
    back : (a b c d e : Bool) → (a || (b || (c || (d || false)))) ≡ true → (a || (b || (c || (d || (e || false))))) ≡ true
    back true b c d e is = refl
    back false true c d e is = refl
    back false false true d e is = refl
    back false false false true e is = refl
    back false false false false e is = absurd (cc)

pub weaker_both : (code : ℕ) → OneOf (3 ∷ 4 ∷ 5 ∷ 6 ∷ []) code → OneOf (0 ∷ 3 ∷ 4 ∷ 5 ∷ 6 ∷ 8 ∷ []) code
weaker_both code low = front (0 == code) (list_any (λ s. s == code) (3 ∷ 4 ∷ 5 ∷ 6 ∷ 8 ∷ [])) (weaker_8 code low)
  where
    front : (a b : Bool) → b ≡ true → (a || b) ≡ true
    front true b is = refl
    front false b is = is

stopped_others : (policy trace : Told) (code : ℕ) → Stopped code → MustAnswer policy trace code
stopped_others policy trace code stop = record {
  faulty = λ p jobs fault held has. elim stop [ at_4 e ↦ rw e refl | at_5 e ↦ rw e refl | at_6 e ↦ rw e refl ];
  decides = λ p jobs held also none. stopped_not code 3 (λ e. omega arith) (λ e. omega arith) (λ e. omega arith) stop;
  refuses = λ p jobs held also unmet. elim stop [ at_4 e ↦ rw e refl | at_5 e ↦ rw e refl | at_6 e ↦ rw e refl ];
  unjudged = λ jobs also. stopped_refuses policy code stop;
}

pub low_or_stopped : (code : ℕ) → OneOf (1 ∷ 3 ∷ []) code → Stopped code → ⊥
low_or_stopped code low stop = elim stop [ at_4 e ↦ (let bad = rw e at low in cc) | at_5 e ↦ (let bad = rw e at low in cc) | at_6 e ↦ (let bad = rw e at low in cc) ]

-- Under a policy that isn't accepted, what must come of the policy's text must come of the call. One that meets its
-- obligations is left undecided.
others_of : (policy trace : Told) (code : ℕ) → ((p : Meaning) → Spells policy p → MeetsObligations p → code ≡ 3) → Decides policy code → Refuses policy code → MustAnswer policy trace code
others_of policy trace code left decides refuses = record {
  faulty = λ p jobs fault held _. rw (left p held.spells held.meets) refl;
  decides = λ p jobs held also none. decides.decides p held none;
  refuses = λ p jobs held also unmet. decides.refuses p held unmet;
  unjudged = λ jobs also. refuses;
}

-- a refused policy doesn't meet its obligations
pub refused_left : (policy : Told) (text : List ℕ) (answers : List Answered) (kept : Policy) (code : ℕ) → MayRead kind.Policy policy text
    → IsJudged text (meaning_of kept) (verdict.Refused answers kept) → (p : Meaning) → Spells policy p → MeetsObligations p → code ≡ 3
refused_left policy text answers kept code read is p held met =
    let own = meaning_of kept in
    absurd (unmet own (resolved policy text own read is.spells) answers is.is (subst MeetsObligations (sym (same_policy policy text own p read is.spells held)) met))

pub refusal_not_8 : (why : Refusal) (code : ℕ) → code ≡ code_of (refusal_status why) → code ≢ 8
refusal_not_8 (refusal.Faulty fault) code own e = omega arith
refusal_not_8 (refusal.Crowded name) code own e = omega arith

-- a text that isn't judged has no line of an obligation
pub no_line : (why : Refusal) (code : ℕ) → code ≡ code_of (refusal_status why) → OneOf (1 ∷ 3 ∷ []) code → ⊥
no_line (refusal.Faulty fault) code own low = let bad = rw own at low in cc
no_line (refusal.Crowded name) code own low = let bad = rw own at low in cc

-- both files were read, and the policy is accepted
pub record Read (policy trace : Told) (text jobs : List ℕ) (p : Meaning) : Type 0 where
  pub policy_read : MayRead kind.Policy policy text
  pub trace_read : MayRead kind.Trace trace jobs
  pub accepted : IsAccepted text p

-- what is read is what the files hold
pub record SamePlay (text jobs : List ℕ) (p other : Meaning) (lines : List Numbered) (plan : Plan) : Type 0 where
  pub policy : p ≡ other
  pub spells : SpellsTrace jobs lines
  pub means : SpellsPlan p lines plan

pub held_play : (policy trace : Told) (text jobs : List ℕ) (p other : Meaning) (plan : Plan) → Read policy trace text jobs p
    → (held : DoPlay policy trace other plan) → SamePlay text jobs p other held.lines plan
held_play policy trace text jobs p other plan read held =
    let same_jobs = text_read kind.Trace trace jobs held.jobs read.trace_read held.held.trace_held in
    let is_policy : p ≡ other = same_policy policy text p other read.policy_read read.accepted.spells held.held.spells in
    record {
      policy = is_policy;
      spells = subst (λ (t : List ℕ). SpellsTrace t held.lines) (sym same_jobs) held.spells;
      means = subst (λ (q : Meaning). SpellsPlan q held.lines plan) (sym is_policy) held.means;
    }

pub same_plan : (p : Meaning) (jobs : List ℕ) (trace lines : List Numbered) (made plan : Plan) → SpellsTrace jobs trace → SpellsPlan p trace made → SpellsTrace jobs lines → SpellsPlan p lines plan → made ≡ plan
same_plan p jobs trace lines made plan spelled meant spells means =
    let same = one_trace jobs trace lines spelled spells in
    one_plan p lines made plan (subst (λ (l : List Numbered). SpellsPlan p l made) same meant) means

-- a fault of what the files hold is one of what was read
pub still_faulty : (policy trace : Told) (text jobs : List ℕ) (p other : Meaning) (also : List ℕ) (fault : LineFault) → Read policy trace text jobs p
    → DoHold policy trace other also → plays.HasFault other also fault → plays.HasFault p jobs fault
still_faulty policy trace text jobs p other also fault read held has =
    let is_policy : p ≡ other = same_policy policy text p other read.policy_read read.accepted.spells held.spells in
    let same = text_read kind.Trace trace jobs also read.trace_read held.trace_held in
    let here : plays.HasFault other jobs fault = subst (λ (t : List ℕ). plays.HasFault other t fault) (sym same) has in
    subst (λ (q : Meaning). plays.HasFault q jobs fault) (sym is_policy) here

-- an accepted policy meets its obligations, and so does the one that is held
pub still_meets : (policy trace : Told) (text jobs : List ℕ) (p other : Meaning) → Read policy trace text jobs p → Spells policy other → MeetsObligations other
still_meets policy trace text jobs p other read held =
    subst MeetsObligations (same_policy policy text p other read.policy_read read.accepted.spells held)
    (meets p (resolved policy text p read.policy_read read.accepted.spells) read.accepted.certified)

pub may_play : (policy trace : Told) (text jobs : List ℕ) (p : Meaning) (lines : List Numbered) (plan : Plan) → Read policy trace text jobs p → SpellsTrace jobs lines → SpellsPlan p lines plan → Fits p plan → IsWithinLimits plan → MayPlay policy trace p plan
may_play policy trace text jobs p lines plan read spells means fits limits = record {
  text = text;
  jobs = jobs;
  policy_read = read.policy_read;
  trace_read = read.trace_read;
  accepted = read.accepted;
  meets = meets p (resolved policy text p read.policy_read read.accepted.spells) read.accepted.certified;
  lines = lines;
  spells = spells;
  means = means;
  fits = fits;
  limits = limits;
}

-- what was played has no other fault, and its policy is none that is refused
pub others_played : (policy trace : Told) (text jobs : List ℕ) (p : Meaning) (lines : List Numbered) (plan : Plan) (code : ℕ) → Read policy trace text jobs p → SpellsTrace jobs lines → SpellsPlan p lines plan → code ≢ 3 → MustAnswer policy trace code
others_played policy trace text jobs p lines plan code read spells means other_code = record {
  faulty = λ other also fault held has. absurd (never_faulty p jobs lines plan fault spells means (still_faulty policy trace text jobs p other also fault read held has));
  decides = λ other also held holding none. other_code;
  refuses = λ other also held holding unmet. absurd (unmet (still_meets policy trace text jobs p other read held));
  unjudged = λ also holding. judged_refuses policy text p code read.policy_read read.accepted.spells read.accepted.few;
}

-- the bytes of the lines are those of the answer
played_lines : (p : PlayAnswer) → joined (plays.lines_of p) ≡ plays.output_of p
played_lines (play_answer.Broken fault) = append-nil (trace_faults.fault_line fault)
played_lines (play_answer.Played left) =
    let closed = plays.closed_of left in
    ap (λ (bytes : List ℕ). header (length closed.cores) ++ bytes) (flat_map-map (λ l. l) line_of (entry_lines 0 (second_form (length closed.cores)) (merged closed)))

-- what a status promises of its play follows where nothing was played
module _ (Ends Stops : Meaning → Plan → List Entry → Type 0) (Must : Told → Told → ℕ → Type 0)
    (must_of : (policy trace : Told) (code : ℕ) → ((p : Meaning) (plan : Plan) → DoPlay policy trace p plan → OneOf (3 ∷ 4 ∷ 5 ∷ 6 ∷ []) code) → MustAnswer policy trace code → Must policy trace code) where
  pub stopped_trace : (policy trace : Told) (before after : Option (List ℕ)) (code : ℕ) → Stopped code → TracesTruly Ends Stops (Must policy trace) policy trace before after code
  stopped_trace policy trace before after code stop = record {
    whole = λ h. absurd (stopped_not code 0 (λ e. omega arith) (λ e. omega arith) (λ e. omega arith) stop h);
    full = λ h. absurd (stopped_not code 8 (λ e. omega arith) (λ e. omega arith) (λ e. omega arith) stop h);
    must = must_of policy trace code (λ p plan held. elim stop [ at_4 e ↦ rw e refl | at_5 e ↦ rw e refl | at_6 e ↦ rw e refl ]) (stopped_others policy trace code stop);
    lines = λ low. absurd (low_or_stopped code low stop);
    bad_text = λ h. absurd (stopped_not code 2 (λ e. omega arith) (λ e. omega arith) (λ e. omega arith) stop h);
  }

  -- a file is too long, which one doesn't matter
  pub long_trace : (policy trace : Told) (before after : Option (List ℕ)) (code : ℕ) → ((text jobs : List ℕ) → Holds kind.Policy policy text → Holds kind.Trace trace jobs → ⊥) → code ≡ 10
      → TracesTruly Ends Stops (Must policy trace) policy trace before after code
  long_trace policy trace before after code none own = record {
    whole = λ h. absurd (omega arith);
    full = λ h. absurd (omega arith);
    must = must_of policy trace code (λ p plan held. absurd (none held.held.spells.text held.jobs held.held.spells.held held.held.trace_held)) (record {
      faulty = λ p jobs fault held _. absurd (none held.spells.text jobs held.spells.held held.trace_held);
      decides = λ p jobs held also _ three. none held.text jobs held.held also;
      refuses = λ p jobs held also _. absurd (none held.text jobs held.held also);
      unjudged = λ jobs also. record {
        crowded = λ text p held _ _. absurd (none text jobs held also);
        faulty = λ text fault held _. absurd (none text jobs held also);
      };
    });
    lines = λ low. absurd (let bad = rw own at low in cc);
    bad_text = λ h. absurd (omega arith);
  }

  -- the policy was judged, and isn't accepted
  judged : (policy trace : Told) (v : Verdict) (text : List ℕ) (before after : Option (List ℕ)) (code : ℕ) → MayRead kind.Policy policy text → IsCheckOf text (checked.Judged v)
      → code ≡ code_of (verdict_status v) → code ≢ 0 → code ≢ 8 → code ≢ 2 → ((p : Meaning) → Spells policy p → MeetsObligations p → code ≡ 3)
      → Adds (joined (check_lines (checked.Judged v))) before after → TracesTruly Ends Stops (Must policy trace) policy trace before after code
  judged policy trace v text before after code read is own not_0 not_8 not_2 left added = record {
    whole = λ h. absurd (not_0 h);
    full = λ h. absurd (not_8 h);
    must = must_of policy trace code (λ p plan held. rw (left p held.held.spells held.held.meets) refl)
        (others_of policy trace code left (read_decides policy text (checked.Judged v) code read is own) (read_refuses policy text (checked.Judged v) code read is own));
    lines = λ low. verdict_answers policy text v before after code read is own added;
    bad_text = λ h. absurd (not_2 h);
  }

  -- the policy isn't accepted
  pub unaccepted : (policy trace : Told) (c : CheckAnswer) (text : List ℕ) (before after : Option (List ℕ)) (code : ℕ) → MayRead kind.Policy policy text → IsCheckOf text c → IsFalse (accepts c)
      → code ≡ code_of (check_status c) → Adds (joined (check_lines c)) before after → TracesTruly Ends Stops (Must policy trace) policy trace before after code
  unaccepted policy trace (checked.Judged (verdict.Accepted kept)) text before after code read is refusal own added = absurd (cc)
  unaccepted policy trace (checked.Judged (verdict.Refused answers kept)) text before after code read is refusal own added =
      judged policy trace (verdict.Refused answers kept) text before after code read is own (λ e. omega arith) (λ e. omega arith) (λ e. omega arith)
      (refused_left policy text answers kept code read is) added
  unaccepted policy trace (checked.Judged (verdict.Undecided answers kept)) text before after code read is refusal own added =
      judged policy trace (verdict.Undecided answers kept) text before after code read is own (λ e. omega arith) (λ e. omega arith) (λ e. omega arith) (λ p held met. own) added
  unaccepted policy trace (checked.Unjudged why) text before after code read is refusal own added = record {
    whole = λ h. absurd (refusal_not_0 why code own h);
    full = λ h. absurd (refusal_not_8 why code own h);
    must = must_of policy trace code (λ p plan held. absurd (refused_text policy text why p read is held.held.spells))
        (others_of policy trace code (λ p held met. absurd (refused_text policy text why p read is held))
        (read_decides policy text (checked.Unjudged why) code read is own) (read_refuses policy text (checked.Unjudged why) code read is own));
    lines = λ low. absurd (no_line why code own low);
    bad_text = λ h. inl (tells_fault policy text why before after code read is own added h);
  }

  pub broken_trace : (policy trace : Told) (text jobs : List ℕ) (p : Meaning) (fault : LineFault) (before after : Option (List ℕ)) (code : ℕ) → Read policy trace text jobs p
      → plays.HasFault p jobs fault → code ≡ 2 → Adds (trace_faults.fault_line fault) before after → TracesTruly Ends Stops (Must policy trace) policy trace before after code
  broken_trace policy trace text jobs p fault before after code read has own added =
      let never : (other : Meaning) (plan : Plan) → DoPlay policy trace other plan → ⊥ = λ other plan held.
      let s = held_play policy trace text jobs p other plan read held in
      never_faulty p jobs held.lines plan fault s.spells s.means has in
      record {
        whole = λ h. absurd (omega arith);
        full = λ h. absurd (omega arith);
        must = must_of policy trace code (λ other plan held. absurd (never other plan held)) (record {
          faulty = λ other also found held has_it. rw own refl;
          decides = λ other also held holding none three. absurd (omega arith);
          refuses = λ other also held holding unmet. absurd (unmet (still_meets policy trace text jobs p other read held));
          unjudged = λ also holding. judged_refuses policy text p code read.policy_read read.accepted.spells read.accepted.few;
        });
        lines = λ low. absurd (let bad = rw own at low in cc);
        bad_text = λ h. inr (record {
          text = text;
          jobs = jobs;
          policy_read = read.policy_read;
          trace_read = read.trace_read;
          p = p;
          accepted = read.accepted;
          fault = fault;
          has = has;
          written = added;
        });
      }

  -- so what the command says is true, if that is so of what it played
  module _ (Is : Playing) (played_truly : (policy trace : Told) (text jobs : List ℕ) (p : Meaning) (play : PlayAnswer) (before after : Option (List ℕ)) (code : ℕ) → Read policy trace text jobs p
      → Is p jobs play → code ≡ code_of (play_status play) → Adds (plays.output_of play) before after → TracesTruly Ends Stops (Must policy trace) policy trace before after code) where
    pub trace_shows : (told : List ℕ → Told) (policy trace : List ℕ) (text : TextKind → List ℕ) (before after : Option (List ℕ)) (code : ℕ) (a : Answer) → AreRead told text (trace_files policy trace)
        → RepliesPlay Is (text kind.Policy) (text kind.Trace) a → Shows (TracesTruly Ends Stops (Must (told policy) (told trace)) (told policy) (told trace) before after code) before after code a
    trace_shows told policy trace text before after code a files is =
        given_either answer.Checked answer.Played _ _ (Shows (TracesTruly Ends Stops (Must (told policy) (told trace)) (told policy) (told trace) before after code) before after code)
        (λ c is own added. unaccepted (told policy) (told trace) c (text kind.Policy) before after code files.0 is.0 is.1 own added)
        (λ outcome is own added. played_truly (told policy) (told trace) (text kind.Policy) (text kind.Trace) is.0 outcome before after code
        (record { policy_read = files.0; trace_read = files.1.0; accepted = is.1 }) is.2 own
        (subst (λ (bytes : List ℕ). Adds bytes before after) (played_lines outcome) added)) a is

play_not_10 : (play : PlayAnswer) → code_of (play_status play) ≢ 10
play_not_10 (play_answer.Broken fault) e = omega arith
play_not_10 (play_answer.Played (cores.Whole closed)) e = omega arith
play_not_10 (play_answer.Played (cores.Full closed)) e = omega arith

module _ (Is : Playing) (text : TextKind → List ℕ) (a : Answer) (is : RepliesPlay Is (text kind.Policy) (text kind.Trace) a) where
  -- its number is one of these
  pub play_known : (codes : List ℕ) → OneOf codes 0 → OneOf codes 1 → OneOf codes 2 → OneOf codes 3 → OneOf codes 8 → OneOf codes 10 → OneOf codes (code_of (status_of a))
  play_known codes done refused bad undecided full much =
      given_either answer.Checked answer.Played _ _ (λ a. OneOf codes (code_of (status_of a)))
      (λ c is. check_among codes bad much done refused undecided c) (λ outcome is. play_among codes bad done full outcome) a is

  -- and 10 where an obligation has too many cases
  pub play_crowds : (asked : Option Asked) (told : List ℕ → Told) (before after : Option (List ℕ)) (policy : List ℕ) → IsFileOf asked kind.Policy policy
      → MayRead kind.Policy (told policy) (text kind.Policy) → Crowds asked told before after a
  play_crowds asked told before after policy file read =
      given_either answer.Checked answer.Played _ _ (Crowds asked told before after)
      (λ c is. check_crowds asked told before after policy (text kind.Policy) file read c is.0) (λ outcome is e added. absurd (play_not_10 outcome e)) a is
