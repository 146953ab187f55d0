-- From how `draft` ends to the truth of what it says.
use Rattle.std.specs.Prelude.{IsFalse, IsTrue}
use Rattle.std.proofs.Common.{◌≡◌, ◌≢◌, ℕ, inl, List, [], ◌∷◌, Option, Some, refl, arith, subst}
use Rattle.sched_io.specs.Puts.{joined}
use Rattle.sched_io.specs.Told.{Told}
use Rattle.sched_io.specs.Written.{Adds}
use Rattle.policy_eval.specs.Obligations.{MeetsHandlerObligations}
use Rattle.policy_tree.specs.Meaning.{Meaning, meaning_of}
use Rattle.policy_checker.specs.Playable.{is_playable}
use Rattle.policy_checker.specs.Verdicts.{policy_of}
use Rattle.policy_checker.specs.declared.verdict.Verdict.{Verdict}
use Rattle.policy_checker.specs.declared.verdict.Verdict.TheVariants as verdict
use Rattle.policy_checker.proofs.KeptHandlers.{playable_law}
use Rattle.policy_answers.specs.Checks.{IsCheckOf}
use Rattle.policy_answers.specs.Lines.{check_lines}
use Rattle.policy_answers.specs.declared.answer.CheckAnswer.{CheckAnswer}
use Rattle.policy_answers.specs.declared.answer.CheckAnswer.TheVariants as checked
use Rattle.policy_answers.proofs.FirstLines.{joined_lines}
use Rattle.c_drafts.specs.Drafts.{draft_text}
use Rattle.command_words.specs.Command.{Asked, draft}
use Rattle.ipanema_cli.specs.Causes.{OneOf}
use Rattle.ipanema_cli.specs.Commands.{statuses_of}
use Rattle.ipanema_cli.specs.DraftTruths.{DraftsTruly}
use Rattle.ipanema_cli.specs.Replies.{IsDraftBy, RepliesDraft}
use Rattle.ipanema_cli.specs.Simulations.{lets_play}
use Rattle.ipanema_cli.specs.Status.{check_status, code_of, verdict_status}
use Rattle.ipanema_cli.specs.Texts.{MayBeLong, MayRead}
use Rattle.ipanema_cli.specs.declared.answers.Answer.{Answer}
use Rattle.ipanema_cli.specs.declared.answers.Answer.TheVariants as answer
use Rattle.ipanema_cli.specs.declared.texts.TextKind.TheVariants as kind
use Rattle.ipanema_cli.proofs.CheckTruths.{long_policy, long_refuses, not_long, refusal_not_0, stopped_refuses, tells_fault}
use Rattle.ipanema_cli.proofs.CodeLemmas.{check_among}
use Rattle.ipanema_cli.proofs.CommandLaw.{CommandLaw, Crowds, Known, Shows, given_either}
use Rattle.ipanema_cli.proofs.Crowding.{check_crowds}
use Rattle.ipanema_cli.proofs.PolicyFacts.{handlers_of, judged_refuses, read_refuses, refused_text, resolved, same_policy, told_truly}
use Rattle.ipanema_cli.proofs.Stopped.{Stopped, at_4, at_5, at_6, stopped_not}
use Rattle.ipanema_cli.proofs.TraceTruths.{low_or_stopped, no_line}
use Rattle.ipanema_cli.proofs.Unplayed.{never_certain, unplayable_lines}

stopped_draft : (policy : Told) (before after : Option (List ℕ)) (code : ℕ) → Stopped code → DraftsTruly policy before after code
stopped_draft policy before after code stop = record {
  drafted = λ h. absurd (stopped_not code 0 (λ e. omega arith) (λ e. omega arith) (λ e. omega arith) stop h);
  must = record {
    drafts = λ p held certain. elim stop [ at_4 e ↦ rw e refl | at_5 e ↦ rw e refl | at_6 e ↦ rw e refl ];
    refuses = λ p held unmet. elim stop [ at_4 e ↦ rw e refl | at_5 e ↦ rw e refl | at_6 e ↦ rw e refl ];
    unjudged = stopped_refuses policy code stop;
  };
  lines = λ low. absurd (low_or_stopped code low stop);
  bad_text = λ h. absurd (stopped_not code 2 (λ e. omega arith) (λ e. omega arith) (λ e. omega arith) stop h);
}

long_draft : (policy : Told) (before after : Option (List ℕ)) (code : ℕ) → MayBeLong kind.Policy policy → code ≡ 10 → DraftsTruly policy before after code
long_draft policy before after code long own = record {
  drafted = λ h. absurd (omega arith);
  must = record {
    drafts = λ p held certain. absurd (not_long kind.Policy policy held.text long held.held);
    refuses = λ p held unmet. absurd (not_long kind.Policy policy held.text long held.held);
    unjudged = long_refuses policy code long;
  };
  lines = λ low. absurd (let bad = rw own at low in cc);
  bad_text = λ h. absurd (omega arith);
}

-- the policy can be played, and its header is written
header_written : (policy : Told) (text : List ℕ) (v : Verdict) (before after : Option (List ℕ)) (code : ℕ) → MayRead kind.Policy policy text → IsCheckOf text (checked.Judged v)
    → IsTrue (is_playable v) → code ≡ 0 → Adds (draft_text v) before after → DraftsTruly policy before after code
header_written policy text v before after code read is plays own added =
    let p : Meaning = meaning_of (policy_of v) in
    let met : MeetsHandlerObligations p = playable_law.meets p (resolved policy text p read is.spells) (handlers_of p v is.is plays) in
    record {
      drafted = λ h. record {
        p = p;
        verdict = v;
        spelled = (text, read, is.spells);
        of = refl;
        reasons = is.is;
        words = told_truly p v (resolved policy text p read is.spells) is.is;
        handlers = met;
        written = added;
      };
      must = record {
        drafts = λ other held certain. rw own refl;
        refuses = λ other held unmet. absurd (unmet (subst MeetsHandlerObligations (same_policy policy text p other read is.spells held) met));
        unjudged = judged_refuses policy text p code read is.spells is.few;
      };
      lines = λ low. absurd (let bad = rw own at low in cc);
      bad_text = λ h. absurd (omega arith);
    }

-- the policy was judged, and can't be played
judged : (policy : Told) (v : Verdict) (text : List ℕ) (before after : Option (List ℕ)) (code : ℕ) → MayRead kind.Policy policy text → IsCheckOf text (checked.Judged v) → IsFalse (is_playable v)
    → code ≡ code_of (verdict_status v) → code ≢ 0 → code ≢ 2 → OneOf (1 ∷ 3 ∷ 4 ∷ 5 ∷ 6 ∷ []) code → Adds (joined (check_lines (checked.Judged v))) before after → DraftsTruly policy before after code
judged policy v text before after code read is unplayable own not_0 not_2 low added = record {
  drafted = λ h. absurd (not_0 h);
  must = record {
    drafts = λ other held certain. absurd (never_certain policy text v read is unplayable other held certain);
    refuses = λ other held unmet. low;
    unjudged = read_refuses policy text (checked.Judged v) code read is own;
  };
  lines = λ few. unplayable_lines policy text v read is unplayable before after code own added;
  bad_text = λ h. absurd (not_2 h);
}

-- the policy can't be played
undrafted : (policy : Told) (c : CheckAnswer) (text : List ℕ) (before after : Option (List ℕ)) (code : ℕ) → MayRead kind.Policy policy text → IsCheckOf text c → IsFalse (lets_play c)
    → code ≡ code_of (check_status c) → Adds (joined (check_lines c)) before after → DraftsTruly policy before after code
undrafted policy (checked.Judged (verdict.Accepted kept)) text before after code read is unplayable own added = absurd (cc)
undrafted policy (checked.Judged (verdict.Refused answers kept)) text before after code read is unplayable own added =
    judged policy (verdict.Refused answers kept) text before after code read is unplayable own (λ e. omega arith) (λ e. omega arith) (rw own refl) added
undrafted policy (checked.Judged (verdict.Undecided answers kept)) text before after code read is unplayable own added =
    judged policy (verdict.Undecided answers kept) text before after code read is unplayable own (λ e. omega arith) (λ e. omega arith) (rw own refl) added
undrafted policy (checked.Unjudged why) text before after code read is unplayable own added = record {
  drafted = λ h. absurd (refusal_not_0 why code own h);
  must = record {
    drafts = λ p held certain. absurd (refused_text policy text why p read is held);
    refuses = λ p held unmet. absurd (refused_text policy text why p read is held);
    unjudged = read_refuses policy text (checked.Unjudged why) code read is own;
  };
  lines = λ low. absurd (no_line why code own low);
  bad_text = λ h. tells_fault policy text why before after code read is own added h;
}

-- so it is by the answer of `check`
by_answer : (policy : Told) (text given : List ℕ) (c : CheckAnswer) (before after : Option (List ℕ)) (code : ℕ) → MayRead kind.Policy policy text → IsCheckOf text c → IsDraftBy c given
    → code ≡ 0 → Adds given before after → DraftsTruly policy before after code
by_answer policy text given (checked.Judged v) before after code read is (plays, same) own added =
    header_written policy text v before after code read is plays own (subst (λ (bytes : List ℕ). Adds bytes before after) same added)
by_answer policy text given (checked.Unjudged why) before after code read is drafted own added = absurd drafted

draft_shows : (policy : Told) (text : List ℕ) (before after : Option (List ℕ)) (code : ℕ) → MayRead kind.Policy policy text → (a : Answer) → RepliesDraft text a
    → Shows (DraftsTruly policy before after code) before after code a
draft_shows policy text before after code read a is =
    given_either answer.Checked answer.Exported _ _ (Shows (DraftsTruly policy before after code) before after code)
    (λ c is own added. undrafted policy c text before after code read is.0 is.1 own added)
    (λ given is own added. by_answer policy text given.items is.0 before after code read is.1 is.2 own
    (subst (λ (bytes : List ℕ). Adds bytes before after) (joined_lines given.items) added)) a is

pub draft_law : (Passed : ℕ → ℕ → Type 0) (policy : List ℕ) → CommandLaw Passed (Some (draft policy))
draft_law Passed policy =
    let asked : Option Asked = Some (draft policy) in
    record {
      known = λ text a is. given_either answer.Checked answer.Exported _ _ (Known asked) (λ c is. check_among (statuses_of asked) refl refl refl refl refl c) (λ text is. refl) a is;
      crowds = λ told text before after a files is.
          given_either answer.Checked answer.Exported _ _ (Crowds asked told before after)
          (λ c is. check_crowds asked told before after policy (text kind.Policy) (inl (refl, refl)) files.0 c is.0) (λ text is e added. absurd (omega arith)) a is;
      shows = λ told text before after code a files is. draft_shows (told policy) (text kind.Policy) before after code files.0 a is;
      long = λ told before after code which long own. long_draft (told policy) before after code (long_policy which told policy long) own;
      stopped = λ told before after code stop file. stopped_draft (told policy) before after code stop;
    }
