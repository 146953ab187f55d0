-- From how `check` ends to the truth of what it says.
use Rattle.std.proofs.Common.{◌≡◌, ◌≢◌, ℕ, inl, inr, List, [], ◌∷◌, Option, Some, refl, ap, arith, length}
use Rattle.sched_io.specs.Puts.{joined}
use Rattle.sched_io.specs.Told.{Told}
use Rattle.sched_io.specs.Written.{Adds}
use Rattle.policy_eval.specs.LastWaiting.{LeavesLastToIdle}
use Rattle.policy_eval.specs.Obligations.{MeetsObligations}
use Rattle.policy_eval.specs.Ranges.{greatest_weight, least_weight}
use Rattle.policy_reader.specs.Lines.{fault_line}
use Rattle.policy_tree.specs.Meaning.{Meaning, meaning_of}
use Rattle.policy_checker.specs.Verdicts.{policy_of}
use Rattle.policy_checker.specs.declared.verdict.Verdict.{Verdict}
use Rattle.policy_checker.specs.declared.verdict.Verdict.TheVariants as verdict
use Rattle.policy_checker.proofs.True.{meets}
use Rattle.policy_answers.specs.Checks.{IsCheckOf, IsJudged, IsRefusal}
use Rattle.policy_answers.specs.Lines.{check_lines, refusal_line, verdict_lines}
use Rattle.policy_answers.specs.declared.answer.CheckAnswer.{CheckAnswer}
use Rattle.policy_answers.specs.declared.answer.CheckAnswer.TheVariants as checked
use Rattle.policy_answers.specs.declared.reading.Refusal.{Refusal}
use Rattle.policy_answers.specs.declared.reading.Refusal.TheVariants as refusal
use Rattle.round_laws.proofs.EqualWeights.{equal_weights}
use Rattle.round_laws.proofs.MainTheorem.{main_theorem}
use Rattle.round_laws.proofs.WastePaid.{waste_is_paid_law}
use Rattle.ipanema_cli.specs.Causes.{OneOf}
use Rattle.ipanema_cli.specs.Status.{check_status, code_of, refusal_status, verdict_status}
use Rattle.ipanema_cli.specs.Texts.{MayBeLong, MayRead}
use Rattle.ipanema_cli.specs.CheckTruths.{AcceptedPolicy, AnswersFor, ChecksTruly, Decides, Holds, PaysForWaste, Refuses, TellsFault}
use Rattle.ipanema_cli.specs.declared.answers.Answer.TheVariants as answer
use Rattle.ipanema_cli.specs.declared.texts.TextKind.{TextKind}
use Rattle.ipanema_cli.specs.declared.texts.TextKind.TheVariants as kind
use Rattle.ipanema_cli.proofs.PolicyFacts.{never_left, read_decides, read_refuses, resolved, told_truly}
use Rattle.ipanema_cli.proofs.Stopped.{Stopped, at_4, at_5, at_6, stopped_not}
use Rattle.ipanema_cli.proofs.WritesLemmas.{one_line}
use Rattle.command_words.specs.Command.{Asked, check}
use Rattle.ipanema_cli.specs.Commands.{AskedFile, policy_file, statuses_of}
use Rattle.ipanema_cli.specs.Files.{IsTooLongOf}
use Rattle.ipanema_cli.specs.Truths.{IsTruthful}
use Rattle.ipanema_cli.proofs.CodeLemmas.{check_among}
use Rattle.ipanema_cli.proofs.CommandLaw.{CommandLaw, Crowds, Known, Shows, given}
use Rattle.ipanema_cli.proofs.Crowding.{check_crowds}

-- and it isn't too long
pub not_long : (which : TextKind) (told : Told) (held : List ℕ) → MayBeLong which told → Holds which told held → ⊥
not_long which told held (text, may, long) holding =
    let same = may.same held holding.is in omega (arith, long, holding.short, ap length same)

-- the numbers of answers to a policy are none of a stop
pub low_or_stopped : (code : ℕ) → OneOf (0 ∷ 1 ∷ 3 ∷ []) code → Stopped code → ⊥
low_or_stopped code low stop = elim stop [ at_4 e ↦ (let bad = rw e at low in cc) | at_5 e ↦ (let bad = rw e at low in cc) | at_6 e ↦ (let bad = rw e at low in cc) ]

pub stopped_decides : (policy : Told) (code : ℕ) → Stopped code → Decides policy code
stopped_decides policy code stop = record {
  accepts = λ p held met. elim stop [ at_4 e ↦ rw e refl | at_5 e ↦ rw e refl | at_6 e ↦ rw e refl ];
  refuses = λ p held unmet. elim stop [ at_4 e ↦ rw e refl | at_5 e ↦ rw e refl | at_6 e ↦ rw e refl ];
  decides = λ p held none. stopped_not code 3 (λ e. omega arith) (λ e. omega arith) (λ e. omega arith) stop;
}

pub stopped_refuses : (policy : Told) (code : ℕ) → Stopped code → Refuses policy code
stopped_refuses policy code stop = record {
  crowded = λ text p held spells many. elim stop [ at_4 e ↦ rw e refl | at_5 e ↦ rw e refl | at_6 e ↦ rw e refl ];
  faulty = λ text fault held has. elim stop [ at_4 e ↦ rw e refl | at_5 e ↦ rw e refl | at_6 e ↦ rw e refl ];
}

pub stopped_check : (policy : Told) (before after : Option (List ℕ)) (code : ℕ) → Stopped code → ChecksTruly policy before after code
stopped_check policy before after code stop = record {
  accepted = λ h. absurd (stopped_not code 0 (λ e. omega arith) (λ e. omega arith) (λ e. omega arith) stop h);
  lines = λ low. absurd (low_or_stopped code low stop);
  decides = stopped_decides policy code stop;
  differences = never_left policy code (stopped_decides policy code stop);
  refuses = stopped_refuses policy code stop;
  bad_text = λ h. absurd (stopped_not code 2 (λ e. omega arith) (λ e. omega arith) (λ e. omega arith) stop h);
}

-- the lines answer for the policy that was judged
pub verdict_answers : (policy : Told) (text : List ℕ) (v : Verdict) (before after : Option (List ℕ)) (code : ℕ) → MayRead kind.Policy policy text
    → IsJudged text (meaning_of (policy_of v)) v → code ≡ code_of (verdict_status v) → Adds (joined (verdict_lines v)) before after → AnswersFor policy before after code
verdict_answers policy text v before after code read is own added = record {
  p = meaning_of (policy_of v);
  verdict = v;
  spelled = (text, read, is.spells);
  of = refl;
  reasons = is.is;
  words = told_truly (meaning_of (policy_of v)) v (resolved policy text (meaning_of (policy_of v)) read is.spells) is.is;
  written = added;
  status = own;
}

pub answered_policy : (policy : Told) (text : List ℕ) (v : Verdict) (before after : Option (List ℕ)) (code : ℕ) (read : MayRead kind.Policy policy text)
    (is : IsJudged text (meaning_of (policy_of v)) v) (own : code ≡ code_of (verdict_status v)) (added : Adds (joined (verdict_lines v)) before after)
    → (verdict_answers policy text v before after code read is own added).p ≡ meaning_of (policy_of v)
unfolding verdict_answers
answered_policy policy text v before after code read is own added = refl

-- a text that isn't judged has no line of an obligation
pub refusal_high : (why : Refusal) (code : ℕ) → code ≡ code_of (refusal_status why) → OneOf (0 ∷ 1 ∷ 3 ∷ []) code → ⊥
refusal_high (refusal.Faulty fault) code own low = let bad = rw own at low in cc
refusal_high (refusal.Crowded name) code own low = let bad = rw own at low in cc

pub refusal_not_0 : (why : Refusal) (code : ℕ) → code ≡ code_of (refusal_status why) → code ≢ 0
refusal_not_0 (refusal.Faulty fault) code own e = omega arith
refusal_not_0 (refusal.Crowded name) code own e = omega arith

pub tells_fault : (policy : Told) (text : List ℕ) (why : Refusal) (before after : Option (List ℕ)) (code : ℕ) → MayRead kind.Policy policy text → IsRefusal text why
    → code ≡ code_of (refusal_status why) → Adds (joined (refusal_line why ∷ [])) before after → code ≡ 2 → TellsFault policy before after
tells_fault policy text (refusal.Faulty fault) before after code read has own added two =
    record { text = text; read = read; fault = fault; has = has; written = one_line (fault_line fault) before after added }
tells_fault policy text (refusal.Crowded name) before after code read has own added two = absurd (omega arith)

verdict_not_2 : (v : Verdict) (code : ℕ) → code ≡ code_of (verdict_status v) → code ≢ 2
verdict_not_2 (verdict.Accepted kept) code own e = omega arith
verdict_not_2 (verdict.Refused answers kept) code own e = omega arith
verdict_not_2 (verdict.Undecided answers kept) code own e = omega arith

-- where only idle cores take the last waiting thread, waste is paid for
pub pays_for_waste : (p : Meaning) → MeetsObligations p → LeavesLastToIdle p → PaysForWaste p
pays_for_waste p met leaves plan history fits legal = waste_is_paid_law p plan history fits met leaves legal

-- and so it is where all threads weigh the same
pub pays_if_equal : (p : Meaning) → MeetsObligations p → least_weight p.load ≡ greatest_weight p.load → PaysForWaste p
pays_if_equal p met same = pays_for_waste p met (equal_weights p met same)

-- what an accepted policy has
accepted_policy : (policy : Told) (text : List ℕ) (v : Verdict) (code : ℕ) → MayRead kind.Policy policy text → IsJudged text (meaning_of (policy_of v)) v
    → code ≡ code_of (verdict_status v) → code ≡ 0 → (p : Meaning) × AcceptedPolicy policy p
accepted_policy policy text (verdict.Accepted kept) code read is own zero =
    let p = meaning_of kept in
    let met = meets p (resolved policy text p read is.spells) is.is.certified in
    (p, record { spelled = (text, read, is.spells); certified = is.is.certified; meets = met; wastes_no_core = main_theorem p met; pays = pays_if_equal p met })
accepted_policy policy text (verdict.Refused answers kept) code read is own zero = absurd (omega arith)
accepted_policy policy text (verdict.Undecided answers kept) code read is own zero = absurd (omega arith)

-- a file was read
read_check : (policy : Told) (text : List ℕ) (c : CheckAnswer) (before after : Option (List ℕ)) (code : ℕ) → MayRead kind.Policy policy text → IsCheckOf text c
    → code ≡ code_of (check_status c) → Adds (joined (check_lines c)) before after → ChecksTruly policy before after code
read_check policy text (checked.Judged v) before after code read is own added = record {
  accepted = λ h. accepted_policy policy text v code read is own h;
  lines = λ low. verdict_answers policy text v before after code read is own added;
  decides = read_decides policy text (checked.Judged v) code read is own;
  differences = never_left policy code (read_decides policy text (checked.Judged v) code read is own);
  refuses = read_refuses policy text (checked.Judged v) code read is own;
  bad_text = λ h. absurd (verdict_not_2 v code own h);
}
read_check policy text (checked.Unjudged why) before after code read is own added = record {
  accepted = λ h. absurd (refusal_not_0 why code own h);
  lines = λ low. absurd (refusal_high why code own low);
  decides = read_decides policy text (checked.Unjudged why) code read is own;
  differences = never_left policy code (read_decides policy text (checked.Unjudged why) code read is own);
  refuses = read_refuses policy text (checked.Unjudged why) code read is own;
  bad_text = λ h. tells_fault policy text why before after code read is own added h;
}

-- of a file that is too long nothing must come
pub long_decides : (policy : Told) (code : ℕ) → MayBeLong kind.Policy policy → Decides policy code
long_decides policy code long = record {
  accepts = λ p held met. absurd (not_long kind.Policy policy held.text long held.held);
  refuses = λ p held unmet. absurd (not_long kind.Policy policy held.text long held.held);
  decides = λ p held none three. not_long kind.Policy policy held.text long held.held;
}

pub long_refuses : (policy : Told) (code : ℕ) → MayBeLong kind.Policy policy → Refuses policy code
long_refuses policy code long = record {
  crowded = λ text p held spells many. absurd (not_long kind.Policy policy text long held);
  faulty = λ text fault held has. absurd (not_long kind.Policy policy text long held);
}

long_check : (policy : Told) (before after : Option (List ℕ)) (code : ℕ) → MayBeLong kind.Policy policy → code ≡ 10 → ChecksTruly policy before after code
long_check policy before after code long own = record {
  accepted = λ h. absurd (omega arith);
  lines = λ low. absurd (let bad = rw own at low in cc);
  decides = long_decides policy code long;
  differences = never_left policy code (long_decides policy code long);
  refuses = long_refuses policy code long;
  bad_text = λ h. absurd (omega arith);
}

-- each file holds a text that isn't too long
abbrev AllHeld : (List ℕ → Told) → List AskedFile → Type 0
AllHeld told [] = Unit {0}
AllHeld told (file ∷ files) = ((text : List ℕ) × Holds file.which (told file.name) text) × AllHeld told files

-- so none of them is
pub never_long : (which : TextKind) (told : List ℕ → Told) (files : List AskedFile) → IsTooLongOf which told files → AllHeld told files → ⊥
never_long which told [] long held = long
never_long which told (file ∷ files) (inl (same, long)) ((text, holding), held) = not_long file.which (told file.name) text long holding
never_long which told (file ∷ files) (inr (read, long)) (holding, held) = never_long which told files long held

-- the file of a command on a policy alone is the one that is too long
pub long_policy : (which : TextKind) (told : List ℕ → Told) (policy : List ℕ) → IsTooLongOf which told (policy_file policy) → MayBeLong kind.Policy (told policy)
long_policy which told policy (inl (same, long)) = long
long_policy which told policy (inr (read, none)) = absurd none

pub check_law : (Passed : ℕ → ℕ → Type 0) (policy : List ℕ) → CommandLaw Passed (Some (check policy))
check_law Passed policy =
    let asked : Option Asked = Some (check policy) in
    record {
      known = λ text a is. given answer.Checked _ (Known asked) (λ c is. check_among (statuses_of asked) refl refl refl refl refl c) a is;
      crowds = λ told text before after a files is.
          given answer.Checked _ (Crowds asked told before after) (check_crowds asked told before after policy (text kind.Policy) (inl (refl, refl)) files.0) a is;
      shows = λ told text before after code a files is.
          given answer.Checked _ (Shows (IsTruthful Passed asked told before after code) before after code)
          (λ c is own added. read_check (told policy) (text kind.Policy) c before after code files.0 is own added) a is;
      long = λ told before after code which long own. long_check (told policy) before after code (long_policy which told policy long) own;
      stopped = λ told before after code stop file. stopped_check (told policy) before after code stop;
    }
