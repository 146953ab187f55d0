-- From how a command that judges a history ends to the truth of what it says.
use Rattle.std.proofs.Common.{◌≡◌, ◌≢◌, ℕ, inl, List, Option, Some, refl, sym, ap, arith, subst}
use Rattle.sched_io.specs.Puts.{joined}
use Rattle.sched_io.specs.Told.{Told}
use Rattle.sched_io.specs.Written.{Adds}
use Rattle.policy_eval.specs.Obligations.{MeetsObligations}
use Rattle.policy_tree.specs.Meaning.{Meaning}
use Rattle.policy_checker.specs.declared.verdict.Verdict.{Verdict}
use Rattle.policy_checker.specs.declared.verdict.Verdict.TheVariants as verdict
use Rattle.policy_answers.specs.Lines.{check_lines}
use Rattle.policy_answers.specs.declared.answer.CheckAnswer.{CheckAnswer}
use Rattle.policy_answers.specs.declared.answer.CheckAnswer.TheVariants as checked
use Rattle.policy_answers.specs.declared.reading.Refusal.{Refusal}
use Rattle.policy_answers.specs.declared.reading.Refusal.TheVariants as refusal
use Rattle.sched_history.specs.Spelling.{lines_of_history}
use Rattle.history_judge.proofs.Judged.{one_judgement}
use Rattle.history_reader.specs.Reading.{SpellsHistory}
use Rattle.history_reader.proofs.EachText.{one_reading}
use Rattle.history_replay.specs.declared.answer.HistoryAnswer.{HistoryAnswer}
use Rattle.history_reasons.specs.declared.explaining.Explanation.{Explanation}
use Rattle.history_reasons.specs.declared.explaining.Explanation.TheVariants as explained
use Rattle.history_replay.specs.declared.answer.HistoryAnswer.TheVariants as judged
use Rattle.history_replay.specs.Judges.{IsMigrationOf, IsReplayOf, IsReportOf, IsWhyOf}
use Rattle.history_replay.proofs.Migrating.{can_be_printed}
use Rattle.history_replay.specs.Lines as histories
use Rattle.sched_report.specs.Lines.{report_lines}
use Rattle.ipanema_cli.specs.TraceAnswers.{Judging}
use Rattle.ipanema_cli.specs.Status.{check_status, code_of, history_status, refusal_status, verdict_status}
use Rattle.ipanema_cli.specs.CheckTruths.{Decides, Holds, Refuses, Spells}
use Rattle.ipanema_cli.specs.JudgeTruths.{DoHoldAll, JudgesTruly, MustJudge, Saying, SaysMigrated, SaysReport, SaysWhole, SaysWhy}
use Rattle.ipanema_cli.specs.declared.answers.Answer.{Answer}
use Rattle.ipanema_cli.specs.declared.answers.Answer.TheVariants as answer
use Rattle.ipanema_cli.specs.declared.texts.TextKind.TheVariants as kind
use Rattle.ipanema_cli.proofs.SimulationTruths.{text_of_lines}
use Rattle.ipanema_cli.proofs.CheckTruths.{refusal_not_0, stopped_refuses, tells_fault, verdict_answers}
use Rattle.ipanema_cli.proofs.Stopped.{Stopped, at_4, at_5, at_6, stopped_not}
use Rattle.ipanema_cli.proofs.TraceTruths.{low_or_stopped, no_line, refused_left}
use Rattle.ipanema_cli.proofs.PolicyFacts.{read_decides, read_refuses, refused_text}
use Rattle.ipanema_cli.proofs.WritesLemmas.{one_line}
use Rattle.ipanema_cli.proofs.Judgements.{Read, judged_not_whole, judged_whole, refused_history, unread_history}
use Rattle.std.specs.Prelude.{IsFalse}
use Rattle.policy_answers.specs.Checks.{IsCheckOf}
use Rattle.history_replay.specs.declared.refusal.HistoryRefusal.TheVariants as no_history
use Rattle.command_words.specs.Command.{Asked, migrate, replay, report, tell_why}
use Rattle.ipanema_cli.specs.Answers.{status_of}
use Rattle.ipanema_cli.specs.Causes.{OneOf}
use Rattle.ipanema_cli.specs.Commands.{history_files, statuses_of}
use Rattle.ipanema_cli.specs.Files.{AreRead, IsFileOf}
use Rattle.ipanema_cli.specs.PolicyAnswers.{accepts}
use Rattle.ipanema_cli.specs.Replies.{RepliesJudging}
use Rattle.ipanema_cli.specs.Texts.{MayRead}
use Rattle.ipanema_cli.specs.declared.texts.TextKind.{TextKind}
use Rattle.ipanema_cli.proofs.CheckTruths.{never_long}
use Rattle.ipanema_cli.proofs.CodeLemmas.{check_among, history_among}
use Rattle.ipanema_cli.proofs.CommandLaw.{CommandLaw, Crowds, Shows, given_either}
use Rattle.ipanema_cli.proofs.Crowding.{check_crowds}

stopped_must : (policy trace history : Told) (code : ℕ) → Stopped code → MustJudge policy trace history code
stopped_must policy trace history code stop = record {
  whole = λ p jobs lines plan entries held gives is. elim stop [ at_4 e ↦ rw e refl | at_5 e ↦ rw e refl | at_6 e ↦ rw e refl ];
  not_whole = λ p jobs lines plan entries held gives is. elim stop [ at_4 e ↦ rw e refl | at_5 e ↦ rw e refl | at_6 e ↦ rw e refl ];
  faulty = λ p jobs lines fault held has. elim stop [ at_4 e ↦ rw e refl | at_5 e ↦ rw e refl | at_6 e ↦ rw e refl ];
  bad_line = λ p jobs lines plan line held means bad. elim stop [ at_4 e ↦ rw e refl | at_5 e ↦ rw e refl | at_6 e ↦ rw e refl ];
  decides = λ p jobs lines held also too none. stopped_not code 3 (λ e. omega arith) (λ e. omega arith) (λ e. omega arith) stop;
  refuses = λ p jobs lines held also too unmet. elim stop [ at_4 e ↦ rw e refl | at_5 e ↦ rw e refl | at_6 e ↦ rw e refl ];
  unjudged = λ jobs lines also too. stopped_refuses policy code stop;
}

pub stopped_judge : (Says : Saying) (policy trace history : Told) (before after : Option (List ℕ)) (code : ℕ) → Stopped code → JudgesTruly Says policy trace history before after code
stopped_judge Says policy trace history before after code stop = record {
  whole = λ h. absurd (stopped_not code 0 (λ e. omega arith) (λ e. omega arith) (λ e. omega arith) stop h);
  not_whole = λ h. absurd (stopped_not code 9 (λ e. omega arith) (λ e. omega arith) (λ e. omega arith) stop h);
  must = stopped_must policy trace history code stop;
  lines = λ low. absurd (low_or_stopped code low stop);
  bad_text = λ h. absurd (stopped_not code 2 (λ e. omega arith) (λ e. omega arith) (λ e. omega arith) stop h);
}

-- a file is too long, which one doesn't matter
long_judge : (Says : Saying) (policy trace history : Told) (before after : Option (List ℕ)) (code : ℕ)
    → ((text jobs lines : List ℕ) → Holds kind.Policy policy text → Holds kind.Trace trace jobs → Holds kind.History history lines → ⊥) → code ≡ 10
    → JudgesTruly Says policy trace history before after code
long_judge Says policy trace history before after code none own =
    let never : (p : Meaning) (jobs lines : List ℕ) → DoHoldAll policy trace history p jobs lines → ⊥ =
    λ p jobs lines held. none held.spells.text jobs lines held.spells.held held.trace_held held.history_held in
    record {
      whole = λ h. absurd (omega arith);
      not_whole = λ h. absurd (omega arith);
      must = record {
        whole = λ p jobs lines plan entries held _ _. absurd (never p jobs lines held);
        not_whole = λ p jobs lines plan entries held _ _. absurd (never p jobs lines held);
        faulty = λ p jobs lines fault held _. absurd (never p jobs lines held);
        bad_line = λ p jobs lines plan line held _ _. absurd (never p jobs lines held);
        decides = λ p jobs lines held also too _ three. none held.text jobs lines held.held also too;
        refuses = λ p jobs lines held also too _. absurd (none held.text jobs lines held.held also too);
        unjudged = λ jobs lines also too. record {
          crowded = λ text p held _ _. absurd (none text jobs lines held also too);
          faulty = λ text fault held _. absurd (none text jobs lines held also too);
        };
      };
      lines = λ low. absurd (let bad = rw own at low in cc);
      bad_text = λ h. absurd (omega arith);
    }

-- Under a policy that isn't accepted, what must come of the policy's text must come of the call. One that meets its
-- obligations is left undecided.
must_of : (policy trace history : Told) (code : ℕ) → ((p : Meaning) → Spells policy p → MeetsObligations p → code ≡ 3) → Decides policy code → Refuses policy code
    → MustJudge policy trace history code
must_of policy trace history code left decides refuses = record {
  whole = λ p jobs lines plan entries held _ _. rw (left p held.spells held.meets) refl;
  not_whole = λ p jobs lines plan entries held _ _. rw (left p held.spells held.meets) refl;
  faulty = λ p jobs lines fault held _. rw (left p held.spells held.meets) refl;
  bad_line = λ p jobs lines plan line held _ _. rw (left p held.spells held.meets) refl;
  decides = λ p jobs lines held also too none. decides.decides p held none;
  refuses = λ p jobs lines held also too unmet. decides.refuses p held unmet;
  unjudged = λ jobs lines also too. refuses;
}

module _ (Says : Saying) (policy trace history : Told) where
  -- the policy was judged, and isn't accepted
  verdict_judge : (v : Verdict) (text : List ℕ) (before after : Option (List ℕ)) (code : ℕ) → MayRead kind.Policy policy text → IsCheckOf text (checked.Judged v)
      → code ≡ code_of (verdict_status v) → code ≢ 0 → code ≢ 9 → code ≢ 2 → ((p : Meaning) → Spells policy p → MeetsObligations p → code ≡ 3)
      → Adds (joined (check_lines (checked.Judged v))) before after → JudgesTruly Says policy trace history before after code
  verdict_judge v text before after code read is own not_0 not_9 not_2 left added = record {
    whole = λ h. absurd (not_0 h);
    not_whole = λ h. absurd (not_9 h);
    must = must_of policy trace history code left (read_decides policy text (checked.Judged v) code read is own)
        (read_refuses policy text (checked.Judged v) code read is own);
    lines = λ low. verdict_answers policy text v before after code read is own added;
    bad_text = λ h. absurd (not_2 h);
  }

  refusal_not_9 : (why : Refusal) (code : ℕ) → code ≡ code_of (refusal_status why) → code ≢ 9
  refusal_not_9 (refusal.Faulty fault) code own e = omega arith
  refusal_not_9 (refusal.Crowded name) code own e = omega arith

  -- the policy isn't accepted
  unaccepted : (c : CheckAnswer) (text : List ℕ) (before after : Option (List ℕ)) (code : ℕ) → MayRead kind.Policy policy text → IsCheckOf text c → IsFalse (accepts c)
      → code ≡ code_of (check_status c) → Adds (joined (check_lines c)) before after → JudgesTruly Says policy trace history before after code
  unaccepted (checked.Judged (verdict.Accepted kept)) text before after code read is refusal own added = absurd (cc)
  unaccepted (checked.Judged (verdict.Refused answers kept)) text before after code read is refusal own added =
      verdict_judge (verdict.Refused answers kept) text before after code read is own (λ e. omega arith) (λ e. omega arith) (λ e. omega arith)
      (refused_left policy text answers kept code read is) added
  unaccepted (checked.Judged (verdict.Undecided answers kept)) text before after code read is refusal own added =
      verdict_judge (verdict.Undecided answers kept) text before after code read is own (λ e. omega arith) (λ e. omega arith) (λ e. omega arith) (λ p held met. own) added
  unaccepted (checked.Unjudged why) text before after code read is refusal own added = record {
    whole = λ h. absurd (refusal_not_0 why code own h);
    not_whole = λ h. absurd (refusal_not_9 why code own h);
    must = must_of policy trace history code (λ p held met. absurd (refused_text policy text why p read is held))
        (read_decides policy text (checked.Unjudged why) code read is own) (read_refuses policy text (checked.Unjudged why) code read is own);
    lines = λ low. absurd (no_line why code own low);
    bad_text = λ h. inl (tells_fault policy text why before after code read is own added h);
  }

-- the answers of `replay` to a history that was judged
replay_answer : (policy trace history : Told) (text jobs lines : List ℕ) (p : Meaning) → Read policy trace history text jobs lines p → (h : HistoryAnswer) (before after : Option (List ℕ)) (code : ℕ)
    → IsReplayOf p jobs lines h → code ≡ code_of (history_status h) → Adds (joined (histories.lines_of h)) before after → JudgesTruly SaysWhole policy trace history before after code
replay_answer policy trace history text jobs lines p read (judged.Whole count) before after code is own added =
    let line : List ℕ = histories.whole_line count in
    judged_whole policy trace history text jobs lines p read SaysWhole is.plan is.history line before after code is.gives is.whole
    (ap histories.whole_line is.count_is) own (one_line line before after added)
replay_answer policy trace history text jobs lines p read (judged.Reported told) before after code is own added = absurd is
replay_answer policy trace history text jobs lines p read (judged.Migrated given) before after code is own added = absurd is
replay_answer policy trace history text jobs lines p read (judged.Explained explanation) before after code is own added = absurd is
replay_answer policy trace history text jobs lines p read (judged.Refused why) before after code is own added =
    refused_history policy trace history text jobs lines p read SaysWhole (λ plan entries bytes says. says) why before after code is own (one_line (histories.refusal_line why) before after added)

-- and those of `report`
report_answer : (policy trace history : Told) (text jobs lines : List ℕ) (p : Meaning) → Read policy trace history text jobs lines p → (h : HistoryAnswer) (before after : Option (List ℕ)) (code : ℕ)
    → IsReportOf p jobs lines h → code ≡ code_of (history_status h) → Adds (joined (histories.lines_of h)) before after → JudgesTruly SaysReport policy trace history before after code
report_answer policy trace history text jobs lines p read (judged.Whole count) before after code is own added = absurd is
report_answer policy trace history text jobs lines p read (judged.Migrated given) before after code is own added = absurd is
report_answer policy trace history text jobs lines p read (judged.Reported told) before after code is own added =
    judged_whole policy trace history text jobs lines p read SaysReport is.plan is.history (joined (report_lines told)) before after code is.gives is.whole
    (told, is.tells, refl) own added
report_answer policy trace history text jobs lines p read (judged.Explained explanation) before after code is own added = absurd is
report_answer policy trace history text jobs lines p read (judged.Refused why) before after code is own added =
    refused_history policy trace history text jobs lines p read SaysReport (λ plan entries bytes says. says) why before after code is own (one_line (histories.refusal_line why) before after added)

-- and those of `migrate`
migrate_answer : (policy trace history : Told) (text jobs lines : List ℕ) (p : Meaning) → Read policy trace history text jobs lines p → (h : HistoryAnswer) (before after : Option (List ℕ)) (code : ℕ)
    → IsMigrationOf p jobs lines h → code ≡ code_of (history_status h) → Adds (joined (histories.lines_of h)) before after → JudgesTruly SaysMigrated policy trace history before after code
migrate_answer policy trace history text jobs lines p read (judged.Whole count) before after code is own added = absurd is
migrate_answer policy trace history text jobs lines p read (judged.Reported told) before after code is own added = absurd is
migrate_answer policy trace history text jobs lines p read (judged.Migrated given) before after code is own added =
    let cores : ℕ = given.plan.cores in let entries = given.history in
    let same = text_of_lines cores entries in
    let again = (one_reading cores).a_text entries (can_be_printed p jobs lines given is) in
    judged_whole policy trace history text jobs lines p read SaysMigrated given.plan entries (joined (lines_of_history cores entries)) before after code is.gives is.whole
    (same, subst (λ (bytes : List ℕ). SpellsHistory cores bytes entries) (sym same) again) own added
migrate_answer policy trace history text jobs lines p read (judged.Explained explanation) before after code is own added = absurd is
migrate_answer policy trace history text jobs lines p read (judged.Refused why) before after code is own added =
    refused_history policy trace history text jobs lines p read SaysMigrated (λ plan entries bytes says. says) why before after code is own (one_line (histories.refusal_line why) before after added)

-- and those of `why`
why_answer : (policy trace history : Told) (text jobs lines : List ℕ) (p : Meaning) → Read policy trace history text jobs lines p → (h : HistoryAnswer) (before after : Option (List ℕ)) (code : ℕ)
    → IsWhyOf p jobs lines h → code ≡ code_of (history_status h) → Adds (joined (histories.lines_of h)) before after → JudgesTruly SaysWhy policy trace history before after code
why_answer policy trace history text jobs lines p read (judged.Whole count) before after code is own added = absurd is
why_answer policy trace history text jobs lines p read (judged.Reported told) before after code is own added = absurd is
why_answer policy trace history text jobs lines p read (judged.Migrated given) before after code is own added = absurd is
why_answer policy trace history text jobs lines p read (judged.Explained (explained.Whole count)) before after code is own added =
    let line : List ℕ = histories.whole_line count in
    judged_whole policy trace history text jobs lines p read SaysWhy is.plan is.history line before after code is.gives is.is.whole
    (ap histories.whole_line is.is.count_is) own (one_line line before after added)
why_answer policy trace history text jobs lines p read (judged.Explained (explained.Short count coming)) before after code is own added =
    let explanation : Explanation = explained.Short count coming in
    judged_not_whole policy trace history text jobs lines p read SaysWhy is.plan is.history (joined (histories.explanation_lines explanation)) before after code is.gives
    is.is.short.unfinished (explanation, is.is, refl) own added
why_answer policy trace history text jobs lines p read (judged.Explained (explained.Illegal at why coming)) before after code is own added =
    let explanation : Explanation = explained.Illegal at why coming in
    judged_not_whole policy trace history text jobs lines p read SaysWhy is.plan is.history (joined (histories.explanation_lines explanation)) before after code is.gives
    (λ whole. one_judgement.legal p is.plan is.history at whole.legal is.is.first) (explanation, is.is, refl) own added
why_answer policy trace history text jobs lines p read (judged.Refused why) before after code is own added =
    unread_history policy trace history text jobs lines p read SaysWhy why before after code is own (one_line (histories.refusal_line why) before after added)

-- what follows for a command from what its answers to judged histories are worth
judging_shows : (Is : Judging) (Says : Saying) → ((policy trace history : Told) (text jobs lines : List ℕ) (p : Meaning) → Read policy trace history text jobs lines p → (h : HistoryAnswer) (before after : Option (List ℕ)) (code : ℕ)
    → Is p jobs lines h → code ≡ code_of (history_status h) → Adds (joined (histories.lines_of h)) before after → JudgesTruly Says policy trace history before after code)
    → (told : List ℕ → Told) (policy trace history : List ℕ) (text : TextKind → List ℕ) (before after : Option (List ℕ)) (code : ℕ) (a : Answer) → AreRead told text (history_files policy trace history)
    → RepliesJudging Is (text kind.Policy) (text kind.Trace) (text kind.History) a → Shows (JudgesTruly Says (told policy) (told trace) (told history) before after code) before after code a
judging_shows Is Says worth told policy trace history text before after code a files is =
    given_either answer.Checked answer.Judged _ _ (Shows (JudgesTruly Says (told policy) (told trace) (told history) before after code) before after code)
    (λ c is own added. unaccepted Says (told policy) (told trace) (told history) c (text kind.Policy) before after code files.0 is.0 is.1 own added)
    (λ h is own added. worth (told policy) (told trace) (told history) (text kind.Policy) (text kind.Trace) (text kind.History) is.0
    (record { policy_read = files.0; trace_read = files.1.0; history_read = files.1.1.0; accepted = is.1 }) h before after code is.2 own added) a is

history_not_10 : (h : HistoryAnswer) → code_of (history_status h) ≢ 10
history_not_10 (judged.Whole count) e = omega arith
history_not_10 (judged.Reported told) e = omega arith
history_not_10 (judged.Migrated given) e = omega arith
history_not_10 (judged.Explained (explained.Whole count)) e = omega arith
history_not_10 (judged.Explained (explained.Short count coming)) e = omega arith
history_not_10 (judged.Explained (explained.Illegal at why coming)) e = omega arith
history_not_10 (judged.Refused (no_history.Trace fault)) e = omega arith
history_not_10 (judged.Refused (no_history.BadLine line)) e = omega arith
history_not_10 (judged.Refused (no_history.Illegal position)) e = omega arith
history_not_10 (judged.Refused (no_history.Short count)) e = omega arith

module _ (Is : Judging) (text : TextKind → List ℕ) (a : Answer) (is : RepliesJudging Is (text kind.Policy) (text kind.Trace) (text kind.History) a) where
  -- its number is one of these
  judging_known : (codes : List ℕ) → OneOf codes 0 → OneOf codes 1 → OneOf codes 2 → OneOf codes 3 → OneOf codes 9 → OneOf codes 10 → OneOf codes (code_of (status_of a))
  judging_known codes done refused bad undecided not_whole much =
      given_either answer.Checked answer.Judged _ _ (λ a. OneOf codes (code_of (status_of a)))
      (λ c is. check_among codes bad much done refused undecided c) (λ h is. history_among codes bad done not_whole h) a is

  -- and 10 where an obligation has too many cases
  judging_crowds : (asked : Option Asked) (told : List ℕ → Told) (before after : Option (List ℕ)) (policy : List ℕ) → IsFileOf asked kind.Policy policy
      → MayRead kind.Policy (told policy) (text kind.Policy) → Crowds asked told before after a
  judging_crowds asked told before after policy file read =
      given_either answer.Checked answer.Judged _ _ (Crowds asked told before after)
      (λ c is. check_crowds asked told before after policy (text kind.Policy) file read c is.0) (λ h is e added. absurd (history_not_10 h e)) a is

pub replay_law : (Passed : ℕ → ℕ → Type 0) (policy trace history : List ℕ) → CommandLaw Passed (Some (replay policy trace history))
replay_law Passed policy trace history =
    let asked : Option Asked = Some (replay policy trace history) in
    record {
      known = λ text a is. judging_known IsReplayOf text a is (statuses_of asked) refl refl refl refl refl refl;
      crowds = λ told text before after a files is. judging_crowds IsReplayOf text a is asked told before after policy (inl (refl, refl)) files.0;
      shows = λ told text before after code a files is. judging_shows IsReplayOf SaysWhole replay_answer told policy trace history text before after code a files is;
      long = λ told before after code which long own.
          long_judge SaysWhole (told policy) (told trace) (told history) before after code
          (λ text jobs lines held also too. never_long which told (history_files policy trace history) long ((text, held), ((jobs, also), ((lines, too), tt)))) own;
      stopped = λ told before after code stop file. stopped_judge SaysWhole (told policy) (told trace) (told history) before after code stop;
    }

pub report_law : (Passed : ℕ → ℕ → Type 0) (policy trace history : List ℕ) → CommandLaw Passed (Some (report policy trace history))
report_law Passed policy trace history =
    let asked : Option Asked = Some (report policy trace history) in
    record {
      known = λ text a is. judging_known IsReportOf text a is (statuses_of asked) refl refl refl refl refl refl;
      crowds = λ told text before after a files is. judging_crowds IsReportOf text a is asked told before after policy (inl (refl, refl)) files.0;
      shows = λ told text before after code a files is. judging_shows IsReportOf SaysReport report_answer told policy trace history text before after code a files is;
      long = λ told before after code which long own.
          long_judge SaysReport (told policy) (told trace) (told history) before after code
          (λ text jobs lines held also too. never_long which told (history_files policy trace history) long ((text, held), ((jobs, also), ((lines, too), tt)))) own;
      stopped = λ told before after code stop file. stopped_judge SaysReport (told policy) (told trace) (told history) before after code stop;
    }

pub migrate_law : (Passed : ℕ → ℕ → Type 0) (policy trace history : List ℕ) → CommandLaw Passed (Some (migrate policy trace history))
migrate_law Passed policy trace history =
    let asked : Option Asked = Some (migrate policy trace history) in
    record {
      known = λ text a is. judging_known IsMigrationOf text a is (statuses_of asked) refl refl refl refl refl refl;
      crowds = λ told text before after a files is. judging_crowds IsMigrationOf text a is asked told before after policy (inl (refl, refl)) files.0;
      shows = λ told text before after code a files is. judging_shows IsMigrationOf SaysMigrated migrate_answer told policy trace history text before after code a files is;
      long = λ told before after code which long own.
          long_judge SaysMigrated (told policy) (told trace) (told history) before after code
          (λ text jobs lines held also too. never_long which told (history_files policy trace history) long ((text, held), ((jobs, also), ((lines, too), tt)))) own;
      stopped = λ told before after code stop file. stopped_judge SaysMigrated (told policy) (told trace) (told history) before after code stop;
    }

pub why_law : (Passed : ℕ → ℕ → Type 0) (policy trace history : List ℕ) → CommandLaw Passed (Some (tell_why policy trace history))
why_law Passed policy trace history =
    let asked : Option Asked = Some (tell_why policy trace history) in
    record {
      known = λ text a is. judging_known IsWhyOf text a is (statuses_of asked) refl refl refl refl refl refl;
      crowds = λ told text before after a files is. judging_crowds IsWhyOf text a is asked told before after policy (inl (refl, refl)) files.0;
      shows = λ told text before after code a files is. judging_shows IsWhyOf SaysWhy why_answer told policy trace history text before after code a files is;
      long = λ told before after code which long own.
          long_judge SaysWhy (told policy) (told trace) (told history) before after code
          (λ text jobs lines held also too. never_long which told (history_files policy trace history) long ((text, held), ((jobs, also), ((lines, too), tt)))) own;
      stopped = λ told before after code stop file. stopped_judge SaysWhy (told policy) (told trace) (told history) before after code stop;
    }
