-- From how `verify` ends to the truth of what it says.
use Rattle.std.proofs.Common.{◌≡◌, ◌≢◌, ℕ, inl, inr, List, [], ◌∷◌, Option, Some, Result, Err, refl, sym, arith, subst}
use Rattle.sched_io.specs.Puts.{joined}
use Rattle.sched_io.specs.Told.{Told}
use Rattle.sched_io.specs.Written.{Adds}
use Rattle.policy_tree.specs.Meaning.{Meaning}
use Rattle.policy_reader.specs.Spelled.{SpellsPolicy}
use Rattle.obligations.specs.declared.names.ObName.{ObName}
use Rattle.obligations.specs.Names.{ob_names}
use Rattle.policy_checker.proofs.True.{meets}
use Rattle.cert_file.specs.Answers.{IsUncrowded, IsVerified}
use Rattle.cert_file.specs.BadLines.{IsFirstBadLine}
use Rattle.cert_file.specs.Wrong.{IsWrongAt, Proves, count_systems}
use Rattle.cert_file.specs.declared.answer.Verified.{Verified}
use Rattle.cert_file.specs.declared.answer.VerifyFault.{VerifyFault}
use Rattle.cert_file.specs.declared.answer.VerifyFault.TheVariants as fault
use Rattle.cert_file.proofs.Must.{must_answer}
use Rattle.policy_answers.specs.Checks.{IsRefusal}
use Rattle.policy_answers.specs.Lines.{refusal_line}
use Rattle.policy_answers.specs.Verifying.{IsVerifyOf, verified_line, verify_line}
use Rattle.policy_answers.specs.declared.reading.Refusal.{Refusal}
use Rattle.policy_answers.specs.declared.reading.Refusal.TheVariants as refusal
use Rattle.policy_answers.specs.declared.verifying.VerifyAnswer.{VerifyAnswer}
use Rattle.policy_answers.specs.declared.verifying.VerifyAnswer.TheVariants as found
use Rattle.round_laws.proofs.MainTheorem.{main_theorem}
use Rattle.ipanema_cli.specs.Causes.{OneOf}
use Rattle.ipanema_cli.specs.Status.{code_of, refusal_status, verify_status}
use Rattle.ipanema_cli.specs.Texts.{MayRead}
use Rattle.ipanema_cli.specs.CheckTruths.{Holds, Refuses, Spells}
use Rattle.ipanema_cli.specs.VerifyTruths.{MayVerify, VerifiesTruly}
use Rattle.ipanema_cli.specs.declared.answers.Answer.TheVariants as answer
use Rattle.ipanema_cli.specs.declared.texts.TextKind.TheVariants as kind
use Rattle.ipanema_cli.proofs.CheckTruths.{pays_if_equal, refusal_not_0, stopped_refuses, tells_fault}
use Rattle.ipanema_cli.proofs.Stopped.{Stopped, at_4, at_5, at_6, stopped_not}
use Rattle.ipanema_cli.proofs.PolicyFacts.{judged_refuses, refused_refuses, refused_text, resolved, same_policy, text_read}
use Rattle.ipanema_cli.proofs.WritesLemmas.{one_line}
use Rattle.command_words.specs.Command.{Asked, verify}
use Rattle.ipanema_cli.specs.Commands.{certified_files, statuses_of}
use Rattle.ipanema_cli.specs.Truths.{IsTruthful}
use Rattle.ipanema_cli.proofs.CheckTruths.{never_long}
use Rattle.ipanema_cli.proofs.CodeLemmas.{verify_among}
use Rattle.ipanema_cli.proofs.CommandLaw.{CommandLaw, Crowds, Known, Shows, given}
use Rattle.ipanema_cli.proofs.Crowding.{verify_crowds}

pub stopped_verify : (policy certs : Told) (before after : Option (List ℕ)) (code : ℕ) → Stopped code → VerifiesTruly policy certs before after code
stopped_verify policy certs before after code stop = record {
  ends = elim stop [ at_4 e ↦ rw e refl | at_5 e ↦ rw e refl | at_6 e ↦ rw e refl ];
  verified = λ h. absurd (stopped_not code 0 (λ e. omega arith) (λ e. omega arith) (λ e. omega arith) stop h);
  wrong = λ h. absurd (stopped_not code 11 (λ e. omega arith) (λ e. omega arith) (λ e. omega arith) stop h);
  must = record {
    proves = λ p file held also is. elim stop [ at_4 e ↦ rw e refl | at_5 e ↦ rw e refl | at_6 e ↦ rw e refl ];
    bad_line = λ p file line held also is. elim stop [ at_4 e ↦ rw e refl | at_5 e ↦ rw e refl | at_6 e ↦ rw e refl ];
    wrong = λ p file name place held also is. elim stop [ at_4 e ↦ rw e refl | at_5 e ↦ rw e refl | at_6 e ↦ rw e refl ];
    unjudged = λ file also. stopped_refuses policy code stop;
  };
  bad_text = λ h. absurd (stopped_not code 2 (λ e. omega arith) (λ e. omega arith) (λ e. omega arith) stop h);
}

-- a file is too long, which one doesn't matter
long_verify : (policy certs : Told) (before after : Option (List ℕ)) (code : ℕ) → ((text file : List ℕ) → Holds kind.Policy policy text → Holds kind.Certificates certs file → ⊥) → code ≡ 10
    → VerifiesTruly policy certs before after code
long_verify policy certs before after code none own = record {
  ends = rw own refl;
  verified = λ h. absurd (omega arith);
  wrong = λ h. absurd (omega arith);
  must = record {
    proves = λ p file held also _. absurd (none held.text file held.held also);
    bad_line = λ p file line held also _. absurd (none held.text file held.held also);
    wrong = λ p file name place held also _. absurd (none held.text file held.held also);
    unjudged = λ file also. record {
      crowded = λ text p held _ _. absurd (none text file held also);
      faulty = λ text fault held _. absurd (none text file held also);
    };
  };
  bad_text = λ h. absurd (omega arith);
}

-- What may be said of a text of certificates excludes the others.
module _ (p : Meaning) (file : List ℕ) (few : IsUncrowded p) where
  abbrev verdict : Verified
  verdict = record { systems = count_systems p ob_names }

  proved_not_bad : (line : ℕ) → Proves p file → IsFirstBadLine file line → ⊥
  proved_not_bad line proving bad =
      let result : Result Verified VerifyFault = Err (fault.BadLine line) in
      let clash = (must_answer p file result tt (few, bad)).accepts verdict (record { uncrowded = few; proves = proving; systems = refl }) in
      let nothing : ⊥ = cc clash in nothing

  proved_not_wrong : (name : ObName) (place : ℕ) → Proves p file → IsWrongAt p file name place → ⊥
  proved_not_wrong name place proving wrong =
      let result : Result Verified VerifyFault = Err (fault.Wrong name place) in
      let clash = (must_answer p file result tt (few, wrong)).accepts verdict (record { uncrowded = few; proves = proving; systems = refl }) in
      let nothing : ⊥ = cc clash in nothing

  bad_not_wrong : (line : ℕ) (name : ObName) (place : ℕ) → IsFirstBadLine file line → IsWrongAt p file name place → ⊥
  bad_not_wrong line name place bad wrong =
      let result : Result Verified VerifyFault = Err (fault.BadLine line) in
      let clash = (must_answer p file result tt (few, bad)).wrong name place few wrong in
      let nothing : ⊥ = cc clash in nothing

-- a policy's text that isn't judged gets one of these
refusal_among : (why : Refusal) (code : ℕ) → code ≡ code_of (refusal_status why) → OneOf (0 ∷ 2 ∷ 4 ∷ 5 ∷ 6 ∷ 10 ∷ 11 ∷ []) code
refusal_among (refusal.Faulty fault) code own = rw own refl
refusal_among (refusal.Crowded name) code own = rw own refl

refusal_not_11 : (why : Refusal) (code : ℕ) → code ≡ code_of (refusal_status why) → code ≢ 11
refusal_not_11 (refusal.Faulty fault) code own e = omega arith
refusal_not_11 (refusal.Crowded name) code own e = omega arith

module _ (policy certs : Told) (text file : List ℕ) (read : MayRead kind.Policy policy text) (also_read : MayRead kind.Certificates certs file) where
  -- the policy's text isn't judged
  unjudged : (why : Refusal) (before after : Option (List ℕ)) (code : ℕ) → IsRefusal text why → code ≡ code_of (refusal_status why)
      → Adds (joined (refusal_line why ∷ [])) before after → VerifiesTruly policy certs before after code
  unjudged why before after code is own added = record {
    ends = refusal_among why code own;
    verified = λ h. absurd (refusal_not_0 why code own h);
    wrong = λ h. absurd (refusal_not_11 why code own h);
    must = record {
      proves = λ q other held also _. absurd (refused_text policy text why q read is held);
      bad_line = λ q other line held also _. absurd (refused_text policy text why q read is held);
      wrong = λ q other name place held also _. absurd (refused_text policy text why q read is held);
      unjudged = λ other also. refused_refuses policy text why code read is own;
    };
    bad_text = λ h. inl (tells_fault policy text why before after code read is own added h);
  }

  module _ (p : Meaning) (spells : SpellsPolicy text p) (few : IsUncrowded p) where
    may : MayVerify policy certs p file
    may = record { spelled = (text, read, spells); few = few; read = also_read }

    -- the policy and the certificates that the files hold are those that were read
    the_policy : (q : Meaning) → Spells policy q → p ≡ q
    the_policy q held = same_policy policy text p q read spells held

    the_file : (other : List ℕ) → Holds kind.Certificates certs other → file ≡ other
    the_file other also = text_read kind.Certificates certs file other also_read also

    still_proves : (q : Meaning) (other : List ℕ) → Spells policy q → Holds kind.Certificates certs other → Proves q other → Proves p file
    still_proves q other held also is =
        subst (λ (m : Meaning). Proves m file) (sym (the_policy q held)) (subst (λ (t : List ℕ). Proves q t) (sym (the_file other also)) is)

    still_bad : (other : List ℕ) (line : ℕ) → Holds kind.Certificates certs other → IsFirstBadLine other line → IsFirstBadLine file line
    still_bad other line also is = subst (λ (t : List ℕ). IsFirstBadLine t line) (sym (the_file other also)) is

    still_wrong : (q : Meaning) (other : List ℕ) (name : ObName) (place : ℕ) → Spells policy q → Holds kind.Certificates certs other → IsWrongAt q other name place
        → IsWrongAt p file name place
    still_wrong q other name place held also is =
        subst (λ (m : Meaning). IsWrongAt m file name place) (sym (the_policy q held))
        (subst (λ (t : List ℕ). IsWrongAt q t name place) (sym (the_file other also)) is)

    still_judged : (code : ℕ) (other : List ℕ) → Holds kind.Certificates certs other → Refuses policy code
    still_judged code other also = judged_refuses policy text p code read spells few

    -- the certificates prove the policy
    verified_truly : (told : Verified) (before after : Option (List ℕ)) (code : ℕ) → IsVerified p file told → code ≡ 0 → Adds (verified_line told.systems) before after
        → VerifiesTruly policy certs before after code
    verified_truly told before after code is own added =
        let met = meets p (resolved policy text p read spells) (is.proves.lists, is.proves.right) in
        record {
          ends = rw own refl;
          verified = λ h. record {
            p = p;
            verified = record { file = file; may = may; proves = is.proves; meets = met; wastes_no_core = main_theorem p met; pays = pays_if_equal p met };
            written = subst (λ (systems : ℕ). Adds (verified_line systems) before after) is.systems added;
          };
          wrong = λ h. absurd (omega arith);
          must = record {
            proves = λ q other held also _. rw own refl;
            bad_line = λ q other line held also bad. absurd (proved_not_bad p file few line is.proves (still_bad other line also bad));
            wrong = λ q other name place held also wrong. absurd (proved_not_wrong p file few name place is.proves (still_wrong q other name place held also wrong));
            unjudged = still_judged code;
          };
          bad_text = λ h. absurd (omega arith);
        }

    -- a line of them is bad
    bad_truly : (line : ℕ) (before after : Option (List ℕ)) (code : ℕ) → IsFirstBadLine file line → code ≡ 2 → Adds (verify_line (found.BadLine line)) before after
        → VerifiesTruly policy certs before after code
    bad_truly line before after code bad own added = record {
      ends = rw own refl;
      verified = λ h. absurd (omega arith);
      wrong = λ h. absurd (omega arith);
      must = record {
        proves = λ q other held also proving. absurd (proved_not_bad p file few line (still_proves q other held also proving) bad);
        bad_line = λ q other one held also _. rw own refl;
        wrong = λ q other name place held also wrong. absurd (bad_not_wrong p file few line name place bad (still_wrong q other name place held also wrong));
        unjudged = still_judged code;
      };
      bad_text = λ h. inr (record { p = p; file = file; may = may; line = line; bad = bad; written = added });
    }

    -- they are wrong for the policy
    wrong_truly : (name : ObName) (place : ℕ) (before after : Option (List ℕ)) (code : ℕ) → IsWrongAt p file name place → code ≡ 11 → Adds (verify_line (found.Wrong name place)) before after
        → VerifiesTruly policy certs before after code
    wrong_truly name place before after code wrong own added = record {
      ends = rw own refl;
      verified = λ h. absurd (omega arith);
      wrong = λ h. record { p = p; file = file; may = may; name = name; place = place; wrong = wrong; written = added };
      must = record {
        proves = λ q other held also proving. absurd (proved_not_wrong p file few name place (still_proves q other held also proving) wrong);
        bad_line = λ q other line held also bad. absurd (bad_not_wrong p file few line name place (still_bad other line also bad) wrong);
        wrong = λ q other one two held also _. rw own refl;
        unjudged = still_judged code;
      };
      bad_text = λ h. absurd (omega arith);
    }

  -- the files were read
  read_verify : (v : VerifyAnswer) (before after : Option (List ℕ)) (code : ℕ) → IsVerifyOf text file v → code ≡ code_of (verify_status v)
      → Adds (joined (verify_line v ∷ [])) before after → VerifiesTruly policy certs before after code
  read_verify (found.Verified told) before after code (p, spells, is) own added =
      verified_truly p spells is.uncrowded told before after code is own (one_line (verified_line told.systems) before after added)
  read_verify (found.BadLine line) before after code (p, spells, few, bad) own added =
      bad_truly p spells few line before after code bad own (one_line (verify_line (found.BadLine line)) before after added)
  read_verify (found.Wrong name place) before after code (p, spells, few, wrong) own added =
      wrong_truly p spells few name place before after code wrong own (one_line (verify_line (found.Wrong name place)) before after added)
  read_verify (found.Unjudged why) before after code is own added = unjudged why before after code is own added

pub verify_law : (Passed : ℕ → ℕ → Type 0) (policy certs : List ℕ) → CommandLaw Passed (Some (verify policy certs))
verify_law Passed policy certs =
    let asked : Option Asked = Some (verify policy certs) in
    record {
      known = λ text a is. given answer.Verified _ (Known asked) (λ v is. verify_among (statuses_of asked) refl refl refl refl v) a is;
      crowds = λ told text before after a files is.
          given answer.Verified _ (Crowds asked told before after)
          (verify_crowds asked told before after policy (text kind.Policy) (inl (refl, refl)) files.0 (text kind.Certificates)) a is;
      shows = λ told text before after code a files is.
          given answer.Verified _ (Shows (IsTruthful Passed asked told before after code) before after code)
          (λ v is own added. read_verify (told policy) (told certs) (text kind.Policy) (text kind.Certificates) files.0 files.1.0 v before after code is own added) a is;
      long = λ told before after code which long own.
          long_verify (told policy) (told certs) before after code
          (λ text file held also. never_long which told (certified_files policy certs) long ((text, held), ((file, also), tt))) own;
      stopped = λ told before after code stop file. stopped_verify (told policy) (told certs) before after code stop;
    }
