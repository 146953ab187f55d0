-- From how a command ends that writes a text of an accepted policy to the truth of what it says.
use Rattle.std.specs.Prelude.{IsFalse}
use Rattle.std.proofs.Common.{◌≡◌, ◌≢◌, ℕ, inl, List, Option, Some, refl, arith, subst}
use Rattle.sched_io.specs.Puts.{joined}
use Rattle.sched_io.specs.Told.{Told}
use Rattle.sched_io.specs.Written.{Adds}
use Rattle.policy_eval.specs.Obligations.{MeetsObligations}
use Rattle.policy_tree.specs.Meaning.{Meaning}
use Rattle.policy_checker.specs.declared.verdict.Verdict.{Verdict}
use Rattle.policy_checker.specs.declared.verdict.Verdict.TheVariants as verdict
use Rattle.policy_checker.proofs.True.{meets}
use Rattle.policy_answers.specs.Checks.{IsCheckOf}
use Rattle.policy_answers.specs.Lines.{check_lines}
use Rattle.policy_answers.specs.declared.answer.CheckAnswer.{CheckAnswer}
use Rattle.policy_answers.specs.declared.answer.CheckAnswer.TheVariants as checked
use Rattle.policy_answers.proofs.FirstLines.{joined_lines}
use Rattle.round_laws.proofs.MainTheorem.{main_theorem}
use Rattle.ipanema_cli.specs.PolicyAnswers.{Exporting, IsAccepted, IsHeader, accepts}
use Rattle.ipanema_cli.specs.Status.{check_status, code_of, verdict_status}
use Rattle.ipanema_cli.specs.Texts.{MayBeLong, MayRead}
use Rattle.ipanema_cli.specs.CheckTruths.{Decides}
use Rattle.ipanema_cli.specs.ExportTruths.{ExportsTruly}
use Rattle.ipanema_cli.specs.declared.answers.Answer.{Answer}
use Rattle.ipanema_cli.specs.declared.answers.Answer.TheVariants as answer
use Rattle.ipanema_cli.specs.declared.texts.TextKind.TheVariants as kind
use Rattle.ipanema_cli.proofs.CheckTruths.{long_decides, long_refuses, pays_if_equal, refusal_not_0, stopped_decides, stopped_refuses, tells_fault, verdict_answers}
use Rattle.ipanema_cli.proofs.Stopped.{Stopped, stopped_not}
use Rattle.ipanema_cli.proofs.PolicyFacts.{judged_refuses, never_left, read_decides, read_refuses, resolved, same_policy}
use Rattle.ipanema_cli.proofs.TraceTruths.{low_or_stopped, no_line}
use Rattle.cert_file.specs.Wrong.{Proves}
use Rattle.command_words.specs.Command.{Asked, emit, prove}
use Rattle.ipanema_cli.specs.Commands.{statuses_of}
use Rattle.ipanema_cli.specs.Replies.{RepliesExport}
use Rattle.ipanema_cli.proofs.CheckTruths.{long_policy}
use Rattle.ipanema_cli.proofs.CodeLemmas.{check_among}
use Rattle.ipanema_cli.proofs.CommandLaw.{CommandLaw, Crowds, Known, Shows, given_either}
use Rattle.ipanema_cli.proofs.Crowding.{check_crowds}

pub stopped_export : (Is : Exporting) (policy : Told) (before after : Option (List ℕ)) (code : ℕ) → Stopped code → ExportsTruly Is policy before after code
stopped_export Is policy before after code stop = record {
  exported = λ h. absurd (stopped_not code 0 (λ e. omega arith) (λ e. omega arith) (λ e. omega arith) stop h);
  lines = λ low. absurd (low_or_stopped code low stop);
  decides = stopped_decides policy code stop;
  differences = never_left policy code (stopped_decides policy code stop);
  refuses = stopped_refuses policy code stop;
  bad_text = λ h. absurd (stopped_not code 2 (λ e. omega arith) (λ e. omega arith) (λ e. omega arith) stop h);
}

-- an accepted policy gets 0, and one that doesn't meet its obligations isn't accepted
accepted_decides : (policy : Told) (text : List ℕ) (p : Meaning) (code : ℕ) → MayRead kind.Policy policy text → IsAccepted text p → code ≡ 0 → Decides policy code
accepted_decides policy text p code read accepted own = record {
  accepts = λ q held met. rw own refl;
  refuses = λ q held unmet.
      absurd (unmet (subst MeetsObligations (same_policy policy text p q read accepted.spells held)
      (meets p (resolved policy text p read accepted.spells) accepted.certified)));
  decides = λ q held none three. absurd (omega arith);
}

-- the policy is accepted, and its certificates are written
export_written : (Is : Exporting) (policy : Told) (text given : List ℕ) (p : Meaning) (before after : Option (List ℕ)) (code : ℕ) → MayRead kind.Policy policy text → IsAccepted text p
    → Is p given → code ≡ 0 → Adds given before after → ExportsTruly Is policy before after code
export_written Is policy text given p before after code read accepted is own added =
    let met = meets p (resolved policy text p read accepted.spells) accepted.certified in
    let decides_it = accepted_decides policy text p code read accepted own in
    record {
      exported = λ h. record {
        p = p;
        accepted = record { spelled = (text, read, accepted.spells); certified = accepted.certified; meets = met; wastes_no_core = main_theorem p met; pays = pays_if_equal p met };
        few = accepted.few;
        text = given;
        is = is;
        written = added;
      };
      lines = λ low. absurd (let bad = rw own at low in cc);
      decides = decides_it;
      differences = never_left policy code decides_it;
      refuses = judged_refuses policy text p code read accepted.spells accepted.few;
      bad_text = λ h. absurd (omega arith);
    }

-- the policy was judged, and isn't accepted
judged : (Is : Exporting) (policy : Told) (v : Verdict) (text : List ℕ) (before after : Option (List ℕ)) (code : ℕ) → MayRead kind.Policy policy text → IsCheckOf text (checked.Judged v)
    → code ≡ code_of (verdict_status v) → code ≢ 0 → code ≢ 2 → Adds (joined (check_lines (checked.Judged v))) before after → ExportsTruly Is policy before after code
judged Is policy v text before after code read is own not_0 not_2 added =
    let decides_it = read_decides policy text (checked.Judged v) code read is own in
    record {
      exported = λ h. absurd (not_0 h);
      lines = λ low. verdict_answers policy text v before after code read is own added;
      decides = decides_it;
      differences = never_left policy code decides_it;
      refuses = read_refuses policy text (checked.Judged v) code read is own;
      bad_text = λ h. absurd (not_2 h);
    }

-- the policy isn't accepted
unaccepted : (Is : Exporting) (policy : Told) (c : CheckAnswer) (text : List ℕ) (before after : Option (List ℕ)) (code : ℕ) → MayRead kind.Policy policy text → IsCheckOf text c → IsFalse (accepts c)
    → code ≡ code_of (check_status c) → Adds (joined (check_lines c)) before after → ExportsTruly Is policy before after code
unaccepted Is policy (checked.Judged (verdict.Accepted kept)) text before after code read is refusal own added = absurd (cc)
unaccepted Is policy (checked.Judged (verdict.Refused answers kept)) text before after code read is refusal own added =
    judged Is policy (verdict.Refused answers kept) text before after code read is own (λ e. omega arith) (λ e. omega arith) added
unaccepted Is policy (checked.Judged (verdict.Undecided answers kept)) text before after code read is refusal own added =
    judged Is policy (verdict.Undecided answers kept) text before after code read is own (λ e. omega arith) (λ e. omega arith) added
unaccepted Is policy (checked.Unjudged why) text before after code read is refusal own added =
    let decides_it = read_decides policy text (checked.Unjudged why) code read is own in
    record {
      exported = λ h. absurd (refusal_not_0 why code own h);
      lines = λ low. absurd (no_line why code own low);
      decides = decides_it;
      differences = never_left policy code decides_it;
      refuses = read_refuses policy text (checked.Unjudged why) code read is own;
      bad_text = λ h. tells_fault policy text why before after code read is own added h;
    }

long_export : (Is : Exporting) (policy : Told) (before after : Option (List ℕ)) (code : ℕ) → MayBeLong kind.Policy policy → code ≡ 10 → ExportsTruly Is policy before after code
long_export Is policy before after code long own = record {
  exported = λ h. absurd (omega arith);
  lines = λ low. absurd (let bad = rw own at low in cc);
  decides = long_decides policy code long;
  differences = never_left policy code (long_decides policy code long);
  refuses = long_refuses policy code long;
  bad_text = λ h. absurd (omega arith);
}

-- what such a command answers is true
export_shows : (Is : Exporting) (policy : Told) (text : List ℕ) (before after : Option (List ℕ)) (code : ℕ) → MayRead kind.Policy policy text → (a : Answer)
    → RepliesExport Is text a → Shows (ExportsTruly Is policy before after code) before after code a
export_shows Is policy text before after code read a is =
    given_either answer.Checked answer.Exported _ _ (Shows (ExportsTruly Is policy before after code) before after code)
    (λ c is own added. unaccepted Is policy c text before after code read is.0 is.1 own added)
    (λ given is own added. export_written Is policy text given.items is.0 before after code read is.1 is.2 own
    (subst (λ (bytes : List ℕ). Adds bytes before after) (joined_lines given.items) added)) a is

pub prove_law : (Passed : ℕ → ℕ → Type 0) (policy : List ℕ) → CommandLaw Passed (Some (prove policy))
prove_law Passed policy =
    let asked : Option Asked = Some (prove policy) in
    record {
      known = λ text a is. given_either answer.Checked answer.Exported _ _ (Known asked) (λ c is. check_among (statuses_of asked) refl refl refl refl refl c) (λ text is. refl) a is;
      crowds = λ told text before after a files is.
          given_either answer.Checked answer.Exported _ _ (Crowds asked told before after)
          (λ c is. check_crowds asked told before after policy (text kind.Policy) (inl (refl, refl)) files.0 c is.0) (λ text is e added. absurd (omega arith)) a is;
      shows = λ told text before after code a files is. export_shows Proves (told policy) (text kind.Policy) before after code files.0 a is;
      long = λ told before after code which long own. long_export Proves (told policy) before after code (long_policy which told policy long) own;
      stopped = λ told before after code stop file. stopped_export Proves (told policy) before after code stop;
    }

pub emit_law : (Passed : ℕ → ℕ → Type 0) (policy : List ℕ) → CommandLaw Passed (Some (emit policy))
emit_law Passed policy =
    let asked : Option Asked = Some (emit policy) in
    record {
      known = λ text a is. given_either answer.Checked answer.Exported _ _ (Known asked) (λ c is. check_among (statuses_of asked) refl refl refl refl refl c) (λ text is. refl) a is;
      crowds = λ told text before after a files is.
          given_either answer.Checked answer.Exported _ _ (Crowds asked told before after)
          (λ c is. check_crowds asked told before after policy (text kind.Policy) (inl (refl, refl)) files.0 c is.0) (λ text is e added. absurd (omega arith)) a is;
      shows = λ told text before after code a files is. export_shows IsHeader (told policy) (text kind.Policy) before after code files.0 a is;
      long = λ told before after code which long own. long_export IsHeader (told policy) before after code (long_policy which told policy long) own;
      stopped = λ told before after code stop file. stopped_export IsHeader (told policy) before after code stop;
    }
